-- How wide validation data are, what they are where they were found, and what they are refused with.
-- Assumes nothing.
use Prim.Native.Nat.{ℕ, ◌≤◌}
use native.Mathlib.Omega.{arith}
use mathlib.Core.Path.{◌≡◌, sym, ap, ◌∙◌}
use mathlib.Core.List.{List}
use mathlib.Core.Bool.{Bool, true, false, cond}
use lib.ListN.{length, get_or, take}
use lib.Seq.{length-take-le}
use lib.Dec.{leb, eqb}
use borrow.Author.Tests.{leb-true}
use Rattle.numbers.specs.Numbers.{done, refused, and_then, unless}
use Rattle.numbers.specs.declared.Refusal.{Refusal}
use Rattle.numbers.specs.declared.Refusal.TheVariants.{Field15}
use Rattle.numbers.proofs.Laws.{then_done, passed}
use Rattle.validation.specs.Validation.{letter_p, width_of, shape_of, shape_width, is_validation}
use Rattle.validation.specs.declared.Shape.{Shape}
use Rattle.validation.proofs.Laws.{shape_long}
use Rattle.validationfield.specs.ValidationField.{validation_field}

-- they have 12 characters or 17
pub width_bounds : (cs : List ℕ) → (12 ≤ width_of cs) × (width_of cs ≤ 17)
width_bounds cs = by_mark (eqb (get_or cs 0 0) letter_p) where
  by_mark : (there : Bool) → (12 ≤ cond there 17 12) × (cond there 17 12 ≤ 17)
  by_mark true = (omega arith, omega arith)
  by_mark false = (omega arith, omega arith)

-- validation data that were found are whole and have a shape, and the command holds them
pub validation_found : (cs : List ℕ) (x : Shape) (n : ℕ) → validation_field cs ≡ done (x, n)
    → (width_of cs ≡ n) × (n ≤ length cs) × (is_validation (take n cs) ≡ true) × (x ≡ shape_of (take n cs))
unfolding validation_field
validation_found cs x n e =
    let first = then_done (unless Field15 (leb (width_of cs) (length cs)) (width_of cs)) _ (x, n) e in
    let fits = passed Field15 (leb (width_of cs) (length cs)) (width_of cs) first.0 first.1 in
    let whole = passed Field15 (is_validation (take first.0 cs)) (shape_of (take first.0 cs), first.0) (x, n) first.2 in
    let m : first.0 ≡ n = ap (λ (r : Shape × ℕ). r.1) whole.1 in
    let short = leb-true (width_of cs) (length cs) fits.0 in
    let same = fits.1 in (
      fits.1 ∙ m,
      omega arith,
      ap (λ (k : ℕ). is_validation (take k cs)) (sym m) ∙ whole.0,
      sym (ap (λ (r : Shape × ℕ). r.0) whole.1) ∙ ap (λ (k : ℕ). shape_of (take k cs)) m,
    )

-- the shape is as wide as what was taken
pub validation_wide : (cs : List ℕ) (x : Shape) (n : ℕ) → validation_field cs ≡ done (x, n) → shape_width x ≡ n
validation_wide cs x n e =
    let f = validation_found cs x n e in
    ap shape_width f.3 ∙ shape_long (take n cs) f.2 ∙ length-take-le n cs f.1

-- they are refused with 15
pub validation_refuses : (cs : List ℕ) (q : Refusal) → validation_field cs ≡ refused q → q ≡ Field15
unfolding validation_field
validation_refuses cs q e = go (leb (width_of cs) (length cs)) e
  where
    wrong : {A : Type 0} (valid : Bool) (a : A) → unless Field15 valid a ≡ refused q → q ≡ Field15
    wrong true a e = absurd (let z : ◌≡◌ {A = ℕ} 0 1 = cc in omega arith)
    wrong false a e = cc

    go : (room : Bool) → and_then {B = Shape × ℕ} (unless Field15 room (width_of cs)) (λ n. unless Field15 (is_validation (take n cs)) (shape_of (take n cs), n)) ≡ refused q → q ≡ Field15
    go true e = wrong (is_validation (take (width_of cs) cs)) (shape_of (take (width_of cs) cs), width_of cs) e
    go false e = cc
