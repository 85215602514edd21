-- Differences of two digits: each fact is a test that is computed at the hundred pairs once.
-- Assumes nothing.
use Prim.Native.Nat.{ℕ, zero, suc, ◌^◌, ◌≤◌, ◌<◌}
use native.Mathlib.Omega.{arith}
use native.Mathlib.Nat.{not-suc-le-zero}
use mathlib.Core.Path.{◌≡◌, refl, sym, ap, ◌∙◌, subst}
use mathlib.Core.Bool.{Bool, true, false, ◌&&◌, cond}
use lib.Dec.{T, ltb, eqb}
use lib.IntN.{ℤ, pos, ◌+ℤ◌, nat_abs}
use lib.Signed.{mag, lt_z, non_neg}
use mir.Syntax.{w8, w32, w64}
use mir.Val.{SFits, Fits, hbits}
use borrow.Author.Tests.{eqb-true, eqb-false, ltb-true}
use Rattle.nibbles.proofs.Lists.{and_left, and_right}
use Rattle.ibm3624.specs.Ibm3624.{difference, modulo_ten}

-- the test passes at every number below k
abbrev pub up_to : ℕ → (ℕ → Bool) → Bool
up_to zero f = true
up_to (suc k) f = f k && up_to k f

passes : (f : ℕ → Bool) (k n : ℕ) → up_to k f ≡ true → n < k → f n ≡ true
passes f zero n e h = absurd (not-suc-le-zero h)
passes f (suc k) n e h = go (passes f k n (and_right (f k) (up_to k f) e)) (eqb n k) refl
  where
    go : (n < k → f n ≡ true) → (b : Bool) → eqb n k ≡ b → f n ≡ true
    go rest true q = ap f (eqb-true n k q) ∙ and_left (f k) (up_to k f) e
    go rest false q = rest (let d = eqb-false n k q in omega arith)

-- the test passes at every pair of digits
pub at_digits : (test : ℕ → ℕ → Bool) → up_to 10 (λ p. up_to 10 (test p)) ≡ true → (p q : ℕ) → p ≤ 9 → q ≤ 9 → test p q ≡ true
at_digits test all p q h k = passes (test p) 10 q (passes (λ m. up_to 10 (test m)) 10 p all (omega arith)) (omega arith)

-- at the difference of every pair
at_pair : (test : ℤ → Bool) → up_to 10 (λ p. up_to 10 (λ q. test (difference p q))) ≡ true → (p q : ℕ) → p ≤ 9 → q ≤ 9 → test (difference p q) ≡ true
at_pair test = at_digits (λ p q. test (difference p q))

module _ (p q : ℕ) (h : p ≤ 9) (k : q ≤ 9) where
  pub difference_fits : SFits w32 (difference p q)
  difference_fits = record { sfits = ltb-true _ _ (at_pair (λ z. ltb (mag z) (2 ^ hbits w32)) refl p q h k) }

  pub raised_fits : SFits w32 (difference p q +ℤ pos 10)
  raised_fits = record { sfits = ltb-true _ _ (at_pair (λ z. ltb (mag (z +ℤ pos 10)) (2 ^ hbits w32)) refl p q h k) }

  pub raised_counts : T (non_neg (difference p q +ℤ pos 10)) × Fits w64 (nat_abs (difference p q +ℤ pos 10))
  raised_counts = (
    subst T (sym (at_pair (λ z. non_neg (z +ℤ pos 10)) refl p q h k)) tt,
    record { fits = ltb-true _ _ (at_pair (λ z. ltb (nat_abs (z +ℤ pos 10)) (2 ^ 64)) refl p q h k) },
  )

  pub plain_counts : lt_z (difference p q) (pos 0) ≡ false → T (non_neg (difference p q)) × Fits w64 (nat_abs (difference p q))
  plain_counts e = (
    subst T (sym (rw e at (at_pair (λ z. cond (lt_z z (pos 0)) true (non_neg z)) refl p q h k))) tt,
    record { fits = ltb-true _ _ (at_pair (λ z. ltb (nat_abs z) (2 ^ 64)) refl p q h k) },
  )

  pub raised_is : lt_z (difference p q) (pos 0) ≡ true → nat_abs (difference p q +ℤ pos 10) ≡ modulo_ten (difference p q)
  raised_is e = eqb-true _ _ (rw e at (at_pair (λ z. cond (lt_z z (pos 0)) (eqb (nat_abs (z +ℤ pos 10)) (modulo_ten z)) true) refl p q h k))

  pub plain_is : lt_z (difference p q) (pos 0) ≡ false → nat_abs (difference p q) ≡ modulo_ten (difference p q)
  plain_is e = eqb-true _ _ (rw e at (at_pair (λ z. cond (lt_z z (pos 0)) true (eqb (nat_abs z) (modulo_ten z))) refl p q h k))

  pub difference_small : SFits w8 (difference p q)
  difference_small = record { sfits = ltb-true _ _ (at_pair (λ z. ltb (mag z) (2 ^ hbits w8)) refl p q h k) }
