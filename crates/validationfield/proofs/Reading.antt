-- What the code's answers tell of the validation data's field.
-- Assumes nothing.
use Prim.Native.Nat.{ℕ, ◌+◌, ◌-◌, ◌≤◌, ◌<◌}
use native.Mathlib.Omega.{arith}
use mathlib.Core.Path.{◌≡◌, sym, ap, ◌∙◌}
use mathlib.Core.List.{List}
use mathlib.Core.Bool.{true, false}
use Rattle.std.specs.Prelude.{Ok, Err}
use lib.ListN.{length, take, drop, length-drop}
use lib.Dec.{leb}
use borrow.Author.Tests.{lt-leb, le-leb}
use Rattle.numbers.specs.declared.Refusal.TheVariants.{Field15}
use Rattle.validation.specs.Validation.{width_of, shape_of, is_validation}
use Rattle.validation.specs.declared.Shape.{Shape}
use Rattle.fields.specs.Answers.{cursor_at, found_at}
use Rattle.validationfield.specs.ValidationField.{validation_field}

-- so the code's answer is the reader's
module _ (s : List ℕ) (at width : ℕ) (w : width ≡ width_of (drop at s)) where
  pub validation_short : length s - at < width → Err Field15 ≡ found_at at (validation_field (drop at s))
  unfolding validation_field
  validation_short h = rw (lt-leb (width_of (drop at s)) (length (drop at s)) (omega (arith, w, length-drop at s)))

  module _ (h : width ≤ length s - at) where
    fits : leb (width_of (drop at s)) (length (drop at s)) ≡ true
    fits = le-leb (width_of (drop at s)) (length (drop at s)) (omega (arith, w, length-drop at s))

    exact : at + width - at ≡ width_of (drop at s)
    exact = omega (arith, w)

    part : take (at + width - at) (drop at s) ≡ take (width_of (drop at s)) (drop at s)
    part = ap (λ (n : ℕ). take n (drop at s)) exact

    pub validation_whole : (x : Shape) → x ≡ shape_of (take (at + width - at) (drop at s)) → is_validation (take (at + width - at) (drop at s)) ≡ true
        → Ok (x, cursor_at (at + width)) ≡ found_at at (validation_field (drop at s))
    unfolding validation_field
    validation_whole x d e = rw (fits, ap is_validation (sym part) ∙ e, w, d ∙ ap shape_of part)

    pub validation_wrong : is_validation (take (at + width - at) (drop at s)) ≡ false → Err Field15 ≡ found_at at (validation_field (drop at s))
    unfolding validation_field
    validation_wrong e = rw (fits, ap is_validation (sym part) ∙ e)

-- what reading the field takes
pub ruleset field_read = (validation_short, validation_whole, validation_wrong)
