-- "9. Validation data": their reader, over the characters ahead.
use Rattle.std.specs.Prelude.{ℕ, List, length, take, leb}
use Rattle.numbers.specs.Numbers.{and_then, unless}
use Rattle.numbers.specs.declared.Refusal.TheVariants.{Field15}
use Rattle.validation.specs.Validation.{width_of, shape_of, is_validation}
use Rattle.validation.specs.declared.Shape.{Shape}
use Rattle.fields.specs.Fields.{Found}

-- "12 characters, eleven hex and exactly one N; or P + 16 hex": what is read is their shape, with the place of the N
unfoldable pub validation_field : List ℕ → Found Shape
validation_field cs =
    and_then (unless Field15 (leb (width_of cs) (length cs)) (width_of cs))
    (λ n. unless Field15 (is_validation (take n cs)) (shape_of (take n cs), n))
