-- Deciphering undoes enciphering, and the other way round, for every key and block: from the iterations' shape, whatever the boxes
-- hold. Of the permutations only that IP and its inverse undo each other, and that P gives 32 bits.
-- Assumes nothing.
use mathlib.Core.Path.{◌≡◌, refl, ◌∙◌, ap, ap₂, sym}
use mathlib.Core.Bool.{true}
use mathlib.Core.List.{List, [], ◌∷◌, reverse, reverse-reverse}
use Prim.Native.Nat.{ℕ, ◌^◌, ◌<◌}
use native.Mathlib.Omega.{arith}
use native.Mathlib.Nat.{mod-lt}
use lib.Bits.{xor_lt}
use lib.Pow.{pow_pos, split, shr_lt, high, low}
use Rattle.bits.specs.Select.{select}
use Rattle.bits.proofs.Select.{select_lt}
use Rattle.bits.proofs.Linear.{itself, selects, agree, at_each_bit}
use Rattle.fips46.specs.declared.Halves.{Halves}
use Rattle.fips46.specs.Fips46.{IP, IP⁻¹, P, f, iteration, iterations, halves, interchanged, whole, computed, KS, encipher, decipher, triple_encipher, triple_decipher}
use Rattle.fips46.proofs.Iterations.{iterations_undo}

-- ---- IP and its inverse: a test at each of the 64 words of one bit

IP-IP⁻¹-test : at_each_bit (λ x. select 64 IP (select 64 IP⁻¹ x)) (λ x. x) 64 ≡ true
unfolding IP IP⁻¹ at_each_bit select
IP-IP⁻¹-test = refl

IP⁻¹-IP-test : at_each_bit (λ x. select 64 IP⁻¹ (select 64 IP x)) (λ x. x) 64 ≡ true
unfolding IP IP⁻¹ at_each_bit select
IP⁻¹-IP-test = refl

pub IP-IP⁻¹ : (x : ℕ) → x < 2 ^ 64 → select 64 IP (select 64 IP⁻¹ x) ≡ x
IP-IP⁻¹ = agree (λ x. select 64 IP (select 64 IP⁻¹ x)) (λ x. x) (selects 64 IP (selects 64 IP⁻¹ itself)) itself 64 IP-IP⁻¹-test

pub IP⁻¹-IP : (x : ℕ) → x < 2 ^ 64 → select 64 IP⁻¹ (select 64 IP x) ≡ x
IP⁻¹-IP = agree (λ x. select 64 IP⁻¹ (select 64 IP x)) (λ x. x) (selects 64 IP⁻¹ (selects 64 IP itself)) itself 64 IP⁻¹-IP-test

-- ---- halves of 32 bits

record Bounded (h : Halves) : Type 0 where
  pub left : h.left < 2 ^ 32
  pub right : h.right < 2 ^ 32

f_lt : (r k : ℕ) → f r k < 2 ^ 32
unfolding f P
f_lt r k = select_lt 32 P _

iterations_bounded : (ks : List ℕ) (h : Halves) → Bounded h → Bounded (iterations f ks h)
unfolding iterations
iterations_bounded [] h b = b
iterations_bounded (k ∷ ks) h b =
    iterations_bounded ks (iteration f h k) (record { left = b.right; right = xor_lt 32 h.left (f h.right k) b.left (f_lt h.right k) })

whole_lt : (h : Halves) → Bounded h → whole h < 2 ^ 64
whole_lt h b = omega (arith, b.left, b.right)

halves_whole : (h : Halves) → Bounded h → halves (whole h) ≡ h
halves_whole h b = ap₂ (λ (x y : ℕ). record { left = x; right = y }) (high h.left 32 b.right) (low h.left 32 b.right)

halves_bounded : (x : ℕ) → x < 2 ^ 64 → Bounded (halves x)
halves_bounded x h = record { left = shr_lt 32 32 h; right = mod-lt x (pow_pos 32) }

IP-lt : (w : ℕ) → select 64 IP w < 2 ^ 64
unfolding IP
IP-lt w = select_lt 64 IP w

-- ---- the computation with some blocks of key bits

-- what it writes, once IP has gone over it: the halves that the iterations left, interchanged
pub computed_halves : (ks : List ℕ) (w : ℕ) → halves (select 64 IP (computed ks w)) ≡ interchanged (iterations f ks (halves (select 64 IP w)))
unfolding computed
computed_halves ks w =
    let h : Halves = halves (select 64 IP w) in
    let y : Halves = iterations f ks h in
    let b : Bounded y = iterations_bounded ks h (halves_bounded (select 64 IP w) (IP-lt w)) in
    let s : Bounded (interchanged y) = record { left = b.right; right = b.left } in
    ap halves (IP-IP⁻¹ (whole (interchanged y)) (whole_lt (interchanged y) s)) ∙ halves_whole (interchanged y) s

pub computed_lt : (ks : List ℕ) (w : ℕ) → computed ks w < 2 ^ 64
unfolding computed IP⁻¹
computed_lt ks w = select_lt 64 IP⁻¹ (whole (interchanged (iterations f ks (halves (select 64 IP w)))))

pub computed_undo : (ks : List ℕ) (w : ℕ) → w < 2 ^ 64 → computed (reverse ks) (computed ks w) ≡ w
unfolding computed
computed_undo ks w hw =
    let x : ℕ = select 64 IP w in
    ap (λ (z : Halves). select 64 IP⁻¹ (whole (interchanged (iterations f (reverse ks) z)))) (computed_halves ks w)
    ∙ ap (λ (z : Halves). select 64 IP⁻¹ (whole (interchanged z))) (iterations_undo f ks (halves x))
    ∙ ap (λ (z : ℕ). select 64 IP⁻¹ z) (split x 32)
    ∙ IP⁻¹-IP w hw

pub computed_redo : (ks : List ℕ) (w : ℕ) → w < 2 ^ 64 → computed ks (computed (reverse ks) w) ≡ w
computed_redo ks w hw = ap (λ (s : List ℕ). computed s (computed (reverse ks) w)) (sym (reverse-reverse ks)) ∙ computed_undo (reverse ks) w hw

-- ---- under a key, and under three

pub des_undo : (key w : ℕ) → w < 2 ^ 64 → decipher key (encipher key w) ≡ w
des_undo key = computed_undo (KS key)

pub des_redo : (key w : ℕ) → w < 2 ^ 64 → encipher key (decipher key w) ≡ w
des_redo key = computed_redo (KS key)

pub triple_undo : (k1 k2 k3 w : ℕ) → w < 2 ^ 64 → triple_decipher k1 k2 k3 (triple_encipher k1 k2 k3 w) ≡ w
triple_undo k1 k2 k3 w h =
    let a : ℕ = encipher k1 w in
    ap (λ (x : ℕ). decipher k1 (encipher k2 x)) (des_undo k3 (decipher k2 a) (computed_lt (reverse (KS k2)) a))
    ∙ ap (λ (x : ℕ). decipher k1 x) (des_redo k2 a (computed_lt (KS k1) w))
    ∙ des_undo k1 w h

pub triple_redo : (k1 k2 k3 w : ℕ) → w < 2 ^ 64 → triple_encipher k1 k2 k3 (triple_decipher k1 k2 k3 w) ≡ w
triple_redo k1 k2 k3 w h =
    let a : ℕ = decipher k3 w in
    ap (λ (x : ℕ). encipher k3 (decipher k2 x)) (des_redo k1 (encipher k2 a) (computed_lt (KS k2) a))
    ∙ ap (λ (x : ℕ). encipher k3 x) (des_undo k2 a (computed_lt (reverse (KS k3)) w))
    ∙ des_redo k3 w h

-- three computations on end: IP and its inverse between them fall away
pub three_on_end : (ks₁ ks₂ ks₃ : List ℕ) (w : ℕ)
    → computed ks₃ (computed ks₂ (computed ks₁ w))
    ≡ select 64 IP⁻¹ (whole (interchanged (iterations f ks₃ (interchanged (iterations f ks₂ (interchanged (iterations f ks₁ (halves (select 64 IP w)))))))))
unfolding computed
three_on_end ks₁ ks₂ ks₃ w =
    ap (λ (h : Halves). select 64 IP⁻¹ (whole (interchanged (iterations f ks₃ h))))
    (computed_halves ks₂ (computed ks₁ w) ∙ ap (λ (h : Halves). interchanged (iterations f ks₂ h)) (computed_halves ks₁ w))
