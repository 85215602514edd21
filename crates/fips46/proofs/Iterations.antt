-- The iterations, one by one and backwards, over any cipher function.
-- Assumes nothing.
use mathlib.Core.Path.{◌≡◌, refl, ◌∙◌, ap}
use mathlib.Core.List.{List, [], ◌∷◌, ◌++◌, reverse, reverse-cons, reverse-append}
use lib.ListN.{length, get_or, take, drop}
use lib.Seq.{take-suc, drop-cons}
use Prim.Native.Nat.{ℕ, zero, suc, ◌+◌, ◌-◌, ◌<◌, ◌≤◌}
use native.Mathlib.Omega.{arith}
use lib.Bits.{bit_xor}
use Rattle.nibbles.proofs.Rows.{xor_twice}
use Rattle.fips46.specs.declared.Halves.{Halves}
use Rattle.fips46.specs.Fips46.{iteration, iterations, interchanged}

module _ (f : ℕ → ℕ → ℕ) where
  iterations_append : (ks js : List ℕ) (h : Halves) → iterations f (ks ++ js) h ≡ iterations f js (iterations f ks h)
  unfolding iterations
  iterations_append [] js h = refl
  iterations_append (k ∷ ks) js h = iterations_append ks js (iteration f h k)

  iteration_undo : (h : Halves) (k : ℕ) → iteration f (interchanged (iteration f h k)) k ≡ interchanged h
  iteration_undo h k = ap (λ (x : ℕ). record { left = h.right; right = x }) (xor_twice h.left (f h.right k))

  -- with the blocks of key bits backwards they give back what they were given, the halves interchanged
  pub iterations_undo : (ks : List ℕ) (h : Halves) → iterations f (reverse ks) (interchanged (iterations f ks h)) ≡ interchanged h
  unfolding iterations
  iterations_undo [] h = refl
  iterations_undo (k ∷ ks) h =
      let x : Halves = interchanged (iterations f ks (iteration f h k)) in
      ap (λ (s : List ℕ). iterations f s x) (reverse-cons k ks) ∙ iterations_append (reverse ks) (k ∷ []) x
      ∙ ap (λ (y : Halves). iteration f y k) (iterations_undo ks (iteration f h k)) ∙ iteration_undo h k

-- an iteration by what the cipher function made
pub iteration_is : (f : ℕ → ℕ → ℕ) (h : Halves) (k z : ℕ) → z ≡ f h.right k
    → ◌≡◌ {A = Halves} (record { left = h.right; right = bit_xor h.left z }) (iteration f h k)
iteration_is f h k z e = ap (λ (y : ℕ). record { left = h.right; right = bit_xor h.left y }) e

-- from place i on: one iteration and the others; and so backwards from there
module _ (f : ℕ → ℕ → ℕ) (ks : List ℕ) (i : ℕ) (x : Halves) where
  pub iterations_next : i < length ks → iterations f (drop i ks) x ≡ iterations f (drop (i + 1) ks) (iteration f x (get_or ks i 0))
  unfolding iterations
  iterations_next h =
      let e : suc i ≡ i + 1 = omega arith in
      ap (λ (s : List ℕ). iterations f s x) (drop-cons ks i 0 h) ∙ ap (λ (n : ℕ). iterations f (drop n ks) (iteration f x (get_or ks i 0))) e

  back_next : i < length ks → iterations f (reverse (take (suc i) ks)) x ≡ iterations f (reverse (take i ks)) (iteration f x (get_or ks i 0))
  unfolding iterations
  back_next h = ap (λ (s : List ℕ). iterations f s x) (ap reverse (take-suc ks i 0 h) ∙ reverse-append (take i ks) (get_or ks i 0 ∷ []))

pub iterations_back : (f : ℕ → ℕ → ℕ) (ks : List ℕ) (i : ℕ) (x : Halves) → 0 < i → i ≤ length ks
    → iterations f (reverse (take i ks)) x ≡ iterations f (reverse (take (i - 1) ks)) (iteration f x (get_or ks (i - 1) 0))
iterations_back f ks zero x p h = absurd (omega arith)
iterations_back f ks (suc i) x p h = let e : suc i - 1 ≡ i = omega arith in rw e (back_next f ks i x (omega arith))
