-- What the stage that was read says of its places.
-- Assumes nothing.
use Prim.Native.Nat.{ℕ, ◌+◌, ◌^◌, ◌≤◌, ◌<◌}
use native.Mathlib.Omega.{arith}
use mathlib.Core.Path.{◌≡◌, sym, ap, ◌∙◌, subst}
use mathlib.Core.List.{List, map}
use mathlib.Core.Bool.{true}
use lib.ListN.{length, take, drop, length-map, length-drop}
use lib.Seq.{length-take-le}
use Rattle.nibbles.specs.Nibbles.{word, row}
use Rattle.nibbles.proofs.Lists.{Below, map_below}
use Rattle.nibbles.proofs.Rows.{row_word, word_under}
use Rattle.alphabet.specs.Alphabet.{all_of, value_of}
use Rattle.alphabet.proofs.Laws.{value_below}
use Rattle.alphabet.specs.declared.Class.TheVariants.{Digit}
use Rattle.numbers.specs.Numbers.{done}
use Rattle.numbers.specs.declared.Refusal.TheVariants.{Field15, Table25}
use Rattle.validation.specs.Validation.{shape_of, shape_width, is_validation}
use Rattle.validation.specs.declared.Shape.{Shape}
use Rattle.fields.specs.Fields.{read, run, number}
use Rattle.fields.proofs.Laws.{run_found, number_found, found_ok, found_err, field_found, field_bad}
use Rattle.fields.proofs.Reading.{field_read, read_once, inside}
use Rattle.validationfield.specs.ValidationField.{validation_field}
use Rattle.validationfield.proofs.Laws.{width_bounds, validation_found, validation_wide}
use Rattle.offsetting.specs.Offsetting.{offsetting, validation_in, part}
use Rattle.offsetting.specs.declared.Offsetting.{Offsetting}

-- ---- the stage

-- the places of its fields, and of the next
pub record Held (s : List ℕ) (o : Offsetting) (next : ℕ) : Type 0 where
  pub check : o.check ≤ 12
  pub account : o.account + 12 ≤ length s
  pub number : all_of Digit (take 12 (drop o.account s)) ≡ true
  pub table : o.table + 16 ≤ length s
  pub digits : all_of Digit (take 16 (drop o.table s)) ≡ true
  pub validation : o.validation + shape_width o.shape ≤ length s
  pub valid : is_validation (validation_in s o) ≡ true
  pub shape : o.shape ≡ shape_of (validation_in s o)
  pub onward : next ≤ length s

laid : (s : List ℕ) (at check n₁ n₂ n₃ n₄ v₂ v₃ : ℕ) (x : Shape) → number 4 12 Field15 (drop at s) ≡ done (check, n₁) → run Digit Field15 Field15 12 (drop (at + n₁) s) ≡ done (v₂, n₂) → run Digit Field15 Table25 16 (drop (at + n₁ + n₂) s) ≡ done (v₃, n₃) → validation_field (drop (at + n₁ + n₂ + n₃) s) ≡ done (x, n₄) → Held s (record { check = check; account = at + n₁; table = at + n₁ + n₂; validation = at + n₁ + n₂ + n₃; shape = x }) (at + n₁ + n₂ + n₃ + n₄)
laid s at check n₁ n₂ n₃ n₄ v₂ v₃ x e₁ e₂ e₃ e₄ =
    let checked = number_found 4 12 Field15 (drop at s) check n₁ e₁ in
    let digits = run_found Digit Field15 Field15 12 (drop (at + n₁) s) v₂ n₂ e₂ in
    let decimals = run_found Digit Field15 Table25 16 (drop (at + n₁ + n₂) s) v₃ n₃ e₃ in
    let formed = validation_found (drop (at + n₁ + n₂ + n₃) s) x n₄ e₄ in
    let wide = validation_wide (drop (at + n₁ + n₂ + n₃) s) x n₄ e₄ in
    let some = width_bounds (drop (at + n₁ + n₂ + n₃) s) in
    let a = inside s (at + n₁) 12 (omega arith) digits.2 in
    let t = inside s (at + n₁ + n₂) 16 (omega arith) decimals.2 in
    let v = inside s (at + n₁ + n₂ + n₃) n₄ (omega (arith, formed.0)) formed.1 in
    record { check = checked.3; account = a; number = digits.3; table = t; digits = decimals.3; validation = omega arith; valid = rw wide formed.2; shape = rw wide formed.3; onward = v }

pub offsetting_held : (first : ℕ) (s : List ℕ) (at : ℕ) (o : Offsetting) (next : ℕ) → offsetting first s at ≡ read o next → Held s o next
unfolding offsetting
offsetting_held first s at o next e =
    let f₁ = field_read first (number 4 12 Field15) s at _ o next e in
    let f₂ = field_read (first + 1) (run Digit Field15 Field15 12) s (at + f₁.1) _ o next f₁.3 in
    let f₃ = field_read (first + 2) (run Digit Field15 Table25 16) s (at + f₁.1 + f₂.1) _ o next f₂.3 in
    let f₄ = field_read (first + 3) validation_field s (at + f₁.1 + f₂.1 + f₃.1) _ o next f₃.3 in
    held_as (read_once f₄.3) (laid s at f₁.0 f₁.1 f₂.1 f₃.1 f₄.1 f₂.0 f₃.0 f₄.0 f₁.2 f₂.2 f₃.2 f₄.2) where
      held_as : {x : Offsetting} {m : ℕ} → (x ≡ o) × (m ≡ next) → Held s x m → Held s o next
      held_as {x} {m} (p, q) h = subst (λ (y : Offsetting). Held s y next) p (subst (λ (k : ℕ). Held s x k) q h)

-- ---- digits at a place

-- the values of a part of the command: as many as it has characters, and nibbles
module _ (s : List ℕ) (from n : ℕ) (inside : from + n ≤ length s) where
  pub values_length : length (map value_of (part s from n)) ≡ n
  values_length = length-map (part s from n) value_of ∙ length-take-le n (drop from s) (rw length-drop (omega arith))

  pub values_below : Below 16 (map value_of (part s from n))
  values_below = map_below 16 value_of value_below (part s from n)

  -- the word that holds them holds nothing else
  pub values_row : (w : ℕ) → w ≡ word (map value_of (part s from n)) → row n w ≡ map value_of (part s from n)
  values_row w e = ap (row n) e ∙ ap (λ (k : ℕ). row k (word (map value_of (part s from n)))) (sym values_length) ∙ row_word (map value_of (part s from n)) values_below

  pub values_under : (w : ℕ) → w ≡ word (map value_of (part s from n)) → w < 16 ^ n
  values_under w e = rw e (word_under n (map value_of (part s from n)) values_below (let l = values_length in omega arith))

-- what reading the stage takes
pub ruleset fields_found = (found_ok, found_err, field_found, field_bad)
