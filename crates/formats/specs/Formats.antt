-- "Blocks, nibble by nibble": the table of formats, cell by cell.
use Rattle.std.specs.Prelude.{ℕ, ◌+◌, ◌%◌, List, [], ◌∷◌, Bool, true, false}
use Rattle.nibbles.specs.Nibbles.{within}
use Rattle.formats.specs.declared.Format.{Format}
use Rattle.formats.specs.declared.Format.TheVariants.{F01, F03, F05, F34, F35, F47}
use Rattle.formats.specs.declared.Lead.{Lead}
use Rattle.formats.specs.declared.Lead.TheVariants.{Bare, Control}
use Rattle.formats.specs.declared.Fill.{Fill}
use Rattle.formats.specs.declared.Fill.TheVariants.{F, AToF, Any}

-- the column C: what leads the digits. "Format 03 has no C and N"
abbrev pub lead_of : Format → Lead
lead_of F01 = Control 0
lead_of F03 = Bare
lead_of F05 = Control 1
lead_of F34 = Control 2
lead_of F35 = Control 2
lead_of F47 = Control 3

-- the column fill, written and read. Of 03: "digits, then F", and by §2 of document 02 "After the first F every nibble must be F"
abbrev pub fill_of : Format → Fill
fill_of F01 = F
fill_of F03 = F
fill_of F05 = Any
fill_of F34 = F
fill_of F35 = F
fill_of F47 = AToF

-- the column XOR with account field
abbrev pub veiled : Format → Bool
veiled F01 = true
veiled F03 = false
veiled F05 = false
veiled F34 = false
veiled F35 = true
veiled F47 = true

-- C and N before a PIN of n digits, or nothing
abbrev pub leads : Lead → ℕ → List ℕ
leads Bare n = []
leads (Control c) n = c ∷ n ∷ []

-- how many nibbles that is
abbrev pub lead_width : Lead → ℕ
lead_width Bare = 0
lead_width (Control c) = 2

-- the least fill nibble that is read; the greatest is F
abbrev pub least_fill : Fill → ℕ
least_fill F = 15
least_fill AToF = 10
least_fill Any = 0

-- a fill nibble that is read as one
abbrev pub fits : Fill → ℕ → Bool
fits k n = within (least_fill k) 15 n

-- the fill nibble that is written for a nibble of the fill: "format 05 takes the nibble, 47 takes ten plus its remainder by six, the
-- rest ignore it"
abbrev pub filled : Fill → ℕ → ℕ
filled F n = 15
filled AToF n = 10 + n % 6
filled Any n = n

-- 01 and 47: where a restricted translation from them may go, and the two that a restricted BK takes
abbrev pub is01or47 : Format → Bool
is01or47 F01 = true
is01or47 F03 = false
is01or47 F05 = false
is01or47 F34 = false
is01or47 F35 = false
is01or47 F47 = true
