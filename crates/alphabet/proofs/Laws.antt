-- Laws of characters and classes.
-- Assumes nothing.
use Prim.Native.Nat.{ℕ, zero, suc, ◌+◌, ◌-◌, ◌%◌, ◌≤◌, ◌<◌}
use native.Mathlib.Nat.{mod-lt}
use native.Mathlib.Omega.{arith}
use borrow.Author.Tests.{lt-leb, leb-true}
use native.Mathlib.Numerals.{add-one}
use mathlib.Core.Path.{◌≡◌, refl, sym, ap}
use mathlib.Core.List.{List, [], ◌∷◌}
use mathlib.Core.Bool.{Bool, true, false, ◌&&◌, cond}
use lib.ListN.{length, get_or, drop, drop_of_length-le}
use lib.Seq.{drop-cons}
use Rattle.std.specs.List.{starts_with}
use lib.Dec.{leb, eqb, lit<}
use Rattle.alphabet.specs.Alphabet.{admits, all_of, begins, value_of}
use Rattle.alphabet.specs.declared.Class.{Class}
use Rattle.alphabet.specs.declared.Class.TheVariants.{Digit}

pub value_below : (c : ℕ) → value_of c < 16
unfolding value_of
value_below c = mod-lt (cond (leb 0x41 c) (c - 0x37) (c - 0x30)) (lit< tt)

-- ---- digits

both : (a b : Bool) → (a && b) ≡ true → (a ≡ true) × (b ≡ true)
both true b e = (refl, e)
both false b e = absurd (let z : ◌≡◌ {A = ℕ} 0 1 = cc in omega arith)

-- a digit is 30 to 39 hex, and stands for its low nibble
pub digit_span : (c : ℕ) → admits Digit c ≡ true → (0x30 ≤ c) × (c ≤ 0x39)
digit_span c e = let b = both (leb 0x30 c) (leb c 0x39) e in (leb-true 0x30 c b.0, leb-true c 0x39 b.1)

pub digit_low : (c : ℕ) → admits Digit c ≡ true → c % 16 ≡ value_of c
unfolding value_of
digit_low c e = let h = digit_span c e in rw (lt-leb 0x41 c (omega (arith, h.1))) (omega (arith, h.0, h.1))

-- each of a run of digits is one
pub digit_at : (cs : List ℕ) (i : ℕ) → all_of Digit cs ≡ true → i < length cs → admits Digit (get_or cs i 0) ≡ true
unfolding all_of
digit_at [] i e h = absurd (omega arith)
digit_at (c ∷ cs) zero e h = (both (admits Digit c) (all_of Digit cs) e).0
digit_at (c ∷ cs) (suc i) e h = digit_at cs i (both (admits Digit c) (all_of Digit cs) e).1 (omega arith)

-- ---- every character of a class

and_assoc : (a b c : Bool) → (a && (b && c)) ≡ ((a && b) && c)
and_assoc true b c = refl
and_assoc false b c = refl

and_true : (b : Bool) → b ≡ (b && true)
and_true true = refl
and_true false = refl

module _ (k : Class) (cs : List ℕ) (good : Bool) (i : ℕ) where
  -- a verdict on the characters before, and what one more makes of it
  pub all_on : i < length cs → (good && all_of k (drop i cs)) ≡ ((good && admits k (get_or cs i 0)) && all_of k (drop (i + 1) cs))
  unfolding all_of
  all_on h = rw (drop-cons cs i 0 h, add-one i) (and_assoc good (admits k (get_or cs i 0)) (all_of k (drop (suc i) cs)))

  pub all_over : length cs ≤ i → (good && all_of k (drop i cs)) ≡ good
  unfolding all_of
  all_over h = rw (drop_of_length-le cs h) (sym (and_true good))

-- ---- a fixed text at the beginning

and_false : (b : Bool) → false ≡ (b && false)
and_false true = refl
and_false false = refl

-- too few characters
pub begins_short : (ts cs : List ℕ) → length cs < length ts → begins ts cs ≡ false
unfolding begins
begins_short [] cs h = absurd (omega arith)
begins_short (t ∷ ts) [] h = refl
begins_short (t ∷ ts) (c ∷ cs) h = rw (begins_short ts cs (omega arith)) (sym (and_false (eqb t c)))

pub begins_is : (ts cs : List ℕ) → begins ts cs ≡ starts_with eqb cs ts
unfolding begins
begins_is [] cs = refl
begins_is (t ∷ ts) [] = refl
begins_is (t ∷ ts) (c ∷ cs) = ap (λ (b : Bool). eqb t c && b) (begins_is ts cs)
