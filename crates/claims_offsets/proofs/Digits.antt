-- Differences, unreduced and modulo ten.
-- Assumes nothing.
use Prim.Native.Nat.{ℕ, ◌+◌, ◌-◌, ◌%◌, ◌≤◌}
use native.Mathlib.Nat.{le_of_suc-le-suc}
use mathlib.Core.Path.{◌≡◌, refl, sym, ap, ◌∙◌, subst}
use mathlib.Core.List.{List, [], ◌∷◌, map}
use mathlib.Core.Bool.{Bool, true}
use lib.ListN.{length}
use lib.IntN.{ℤ, nat_abs}
use lib.Dec.{leb, eqb}
use borrow.Author.Tests.{eqb-true, leb-true}
use Rattle.nibbles.proofs.Lists.{Below, below_drop}
use Rattle.numbers.specs.Numbers.{done, unless}
use Rattle.numbers.specs.declared.Refusal.TheVariants.{Room901}
use Rattle.numbers.proofs.Laws.{passed, then_done, value_of_lem}
use Rattle.pins.specs.Pins.{last_of}
use Rattle.ibm3624.specs.Ibm3624.{covers, difference, differences, covered, modulo_ten}
use Rattle.ibm3624.proofs.Signed.{at_digits}
use Rattle.offsets.specs.Offsets.{digits_given, differences_of}
use Rattle.offsets.proofs.Laws.{digits_parts, differences_parts, digits_alike}
use Rattle.claims_offsets.specs.Claims.{ReducedDifferences, NineAtMost, DifferenceRange, ModuloTen}

pub modulo_ten_lem : ModuloTen
modulo_ten_lem p q h k = eqb-true _ _ (at_digits (λ m n. eqb ((n + modulo_ten (difference m n)) % 10) m) refl p q h k)

difference_nine : (p q : ℕ) → p ≤ 9 → q ≤ 9 → nat_abs (difference p q) ≤ 9
difference_nine p q h k = leb-true _ _ (at_digits (λ m n. leb (nat_abs (difference m n)) 9) refl p q h k)

differences_nine : (ps qs : List ℕ) → Below 10 ps → Below 10 qs → NineAtMost (differences ps qs)
unfolding differences
differences_nine [] qs b c = tt
differences_nine (p ∷ ps) [] b c = tt
differences_nine (p ∷ ps) (q ∷ qs) b c = (difference_nine p q (le_of_suc-le-suc b.0) (le_of_suc-le-suc c.0), differences_nine ps qs b.1 c.1)

-- ---- the teacher's view

-- the differences that were given are those of a PIN and its natural PIN, over the covered digits
module _ (variable : Bool) (check : ℕ) (pin natural : List ℕ) (room : ℕ) (zs : List ℤ) (e : differences_of variable check pin natural room ≡ done zs) where
  viewed :
      (p : List ℕ × List ℕ) × (m : ℕ) × (leb 12 room ≡ true) × (digits_given check pin natural ≡ done p) × (covers variable check (length p.0) ≡ done m)
      × (covered m p.0 p.1 ≡ zs)
  viewed =
      let r = then_done (unless Room901 (leb 12 room) room) _ zs (sym (differences_parts variable check room pin natural) ∙ e) in
      let p = then_done (digits_given check pin natural) _ zs r.2 in
      let t = then_done (covers variable check (length p.0.0)) _ zs p.2 in
      (p.0, t.0, (passed Room901 (leb 12 room) room r.0 r.1).0, p.1, t.1, value_of_lem t.2)

pub reduced_differences : ReducedDifferences
reduced_differences variable check pin natural room zs e =
    let v = viewed variable check pin natural room zs e in
    rw (digits_parts variable check room pin natural, v.2, v.3, v.4) (ap (λ (xs : List ℤ). done (map modulo_ten xs)) v.5)

pub difference_range : DifferenceRange
difference_range variable check pin natural room zs e =
    let v = viewed variable check pin natural room zs e in
    let ps = v.0.0 in
    let qs = v.0.1 in
    let alike = digits_alike check pin natural v.0 v.3 in
    subst NineAtMost v.5
    (differences_nine (last_of v.1 ps) (last_of v.1 qs) (below_drop 10 (length ps - v.1) ps alike.pin.digits) (below_drop 10 (length qs - v.1) qs alike.natural))
