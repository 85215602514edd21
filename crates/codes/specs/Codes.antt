-- The codes of the formats: which are built, which are only known.
use Rattle.std.specs.Prelude.{ℕ, Bool, true, false, cond, eqb}
use Rattle.numbers.specs.Numbers.{Outcome, done, refused, unless}
use Rattle.numbers.specs.declared.Refusal.TheVariants.{Format23, NotHere69}
use Rattle.formats.specs.declared.Format.{Format}
use Rattle.formats.specs.declared.Format.TheVariants.{F01, F03, F05, F34, F35, F47}
use Rattle.codes.specs.declared.Code.{Code}
use Rattle.codes.specs.declared.Code.TheVariants.{Built, Known, Unknown}

-- the codes: "not among 01 03 05 34 35 41 42 47 48" is 23; "Formats 41, 42 and 48 are known but not built"
unfoldable pub code_of : ℕ → Code
code_of c =
    cond (eqb c 1) (Built F01)
    (cond (eqb c 3) (Built F03)
    (cond (eqb c 5) (Built F05)
    (cond (eqb c 34) (Built F34)
    (cond (eqb c 35) (Built F35)
    (cond (eqb c 47) (Built F47)
    (cond (eqb c 41) Known
    (cond (eqb c 42) Known
    (cond (eqb c 48) Known Unknown))))))))

-- 23, then 69
abbrev pub format_of : Code → Outcome Format
format_of (Built f) = done f
format_of Known = refused NotHere69
format_of Unknown = refused Format23

-- whether a code is among them
abbrev pub is_known : Code → Bool
is_known (Built f) = true
is_known Known = true
is_known Unknown = false

-- 23 alone, where both of two codes are judged at 23 before either is at 69
abbrev pub known_code : Code → Outcome Code
known_code c = unless Format23 (is_known c) c

-- the bytes of a block of the format that a code names; judged before the format is known
abbrev pub block_width : ℕ → ℕ
block_width code = 8
