-- "Translation reads with one format and writes with another": which two formats these are.
use Rattle.std.specs.Prelude.{ℕ, Bool}
use Rattle.numbers.specs.Numbers.{Outcome, and_then, unless}
use Rattle.numbers.specs.declared.Refusal.TheVariants.{NotHere69}
use Rattle.codes.specs.Codes.{code_of, known_code, format_of}
use Rattle.formats.specs.declared.Format.{Format}
use Rattle.restriction.specs.Restriction.{permitted}

-- the formats of a translation: "at 23 and at 69 the reading format comes first", then the pair
unfoldable pub pair_of : Bool → ℕ → ℕ → Outcome (Format × Format)
pair_of restricted from to =
    and_then (known_code (code_of from))
    (λ _. and_then (known_code (code_of to))
    (λ _. and_then (format_of (code_of from))
    (λ f. and_then (format_of (code_of to))
    (λ t. unless NotHere69 (permitted restricted f t) (f, t)))))
