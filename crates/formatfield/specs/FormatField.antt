-- "5. Format, two digits": the reader of a command's format, over the characters ahead.
use Rattle.std.specs.Prelude.{ℕ, List, Bool, not, ◌||◌}
use Rattle.numbers.specs.Numbers.{and_then, unless}
use Rattle.numbers.specs.declared.Refusal.TheVariants.{Field15, NotHere69}
use Rattle.formats.specs.Formats.{is01or47}
use Rattle.codes.specs.Codes.{code_of, format_of}
use Rattle.formats.specs.declared.Format.{Format}
use Rattle.fields.specs.Fields.{Found, number}

-- "BK allows all six, or restricted only 01 and 47"
abbrev pub allows : Bool → Format → Bool
allows restricted f = not restricted || is01or47 f

-- "Format, two digits: 15, then 23, then 69"
unfoldable pub format_field : Bool → List ℕ → Found Format
format_field restricted cs =
    and_then (number 0 99 Field15 cs)
    (λ code. and_then (format_of (code_of code.0))
    (λ f. unless NotHere69 (allows restricted f) (f, code.1)))
