-- Reading and writing a block, as rows of sixteen nibbles. The veil is the row that is XORed in where the format says so: here the
-- account field; the laws hold for any row.
use Rattle.std.specs.Prelude.{ℕ, ◌+◌, List, ◌++◌, map, Bool, true, false, ◌&&◌, length, get_or, drop, eqb}
use Rattle.std.proofs.Math.Seq.{slice}
use Rattle.nibbles.specs.Nibbles.{xors, within, every, leading}
use Rattle.numbers.specs.Numbers.{Outcome, and_then, unless}
use Rattle.numbers.specs.declared.Refusal.TheVariants.{Block20}
use Rattle.formats.specs.Formats.{lead_of, fill_of, veiled, leads, lead_width, fits, filled}
use Rattle.pins.specs.Pins.{digit, pin_length}
use Rattle.formats.specs.declared.Format.{Format}
use Rattle.formats.specs.declared.Lead.{Lead}
use Rattle.formats.specs.declared.Lead.TheVariants.{Bare, Control}

-- with the veil on, or taken off again: "XOR with account field"
abbrev pub veil : Bool → List ℕ → List ℕ → List ℕ
veil true with ns = xors ns with
veil false with ns = ns

-- "digits, then F. Its PIN ends at the first F"
abbrev pub before_f : List ℕ → List ℕ
before_f ns = leading (within 0 14) ns

-- how many digits a clear block says it has. "Reading judges C (20)", and N says it; where nothing leads, the nibbles before the
-- first F do, and "A to E before the first F is 20"
abbrev pub counted : Lead → List ℕ → Outcome ℕ
counted Bare ns = unless Block20 (every digit (before_f ns)) (length (before_f ns))
counted (Control c) ns = unless Block20 (eqb (get_or ns 0 0) c) (get_or ns 1 0)

-- "then digits and fill (20)": n digits behind the lead, and fill to the end. So of 03, by §2 of document 02, "20 for a non-F nibble behind
-- the first F, judged after 24"
unfoldable pub contents : Format → List ℕ → ℕ → Outcome (List ℕ)
contents f ns n =
    let from = lead_width (lead_of f) in
    unless Block20 (every digit (slice from (from + n) ns) && every (fits (fill_of f)) (slice (from + n) 16 ns))
    (slice from (from + n) ns)

-- "Reading judges C (20), N (24), then digits and fill (20)"
unfoldable pub read_row : Format → List ℕ → List ℕ → Outcome (List ℕ)
read_row f with ns =
    let clear = veil (veiled f) with ns in
    and_then (counted (lead_of f) clear) (λ n. and_then (pin_length n) (contents f clear))

-- the clear block of a PIN: C and N, the digits, then "fill bytes, used nibble for nibble at the fill's own places"
abbrev pub clear_row : Format → List ℕ → List ℕ → List ℕ
clear_row f ds fill =
    let n = length ds in
    leads (lead_of f) n ++ ds ++ map (filled (fill_of f)) (drop (lead_width (lead_of f) + n) fill)

-- writing
unfoldable pub write_row : Format → List ℕ → List ℕ → List ℕ → List ℕ
write_row f with ds fill = veil (veiled f) with (clear_row f ds fill)
