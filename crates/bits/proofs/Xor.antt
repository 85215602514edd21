-- Laws of the exclusive or that the library lacks.
-- Assumes nothing.
use mathlib.Core.Path.{◌≡◌, refl, ◌∙◌, ap, ap₂, sym}
use Prim.Native.Nat.{ℕ, zero, suc, ◌+◌, ◌*◌, ◌/◌, ◌%◌, ◌^◌, ◌<◌, min}
use native.Mathlib.Omega.{arith}
use native.Mathlib.Nat.{mod-lt, add-zero}
use lib.Pow.{pow_pos}
use lib.Arith.{digits_mod, bin_ind}
use lib.Bits.{bit_and, and_step, and_shr, and_zero_l, bit_xor, differ, xor_step, xor_shr, xor_zero_l, xor_comm, xor_block}

-- ---- of one bit

parity_lt : (n : ℕ) → n % 2 < 2
parity_lt n = mod-lt n (omega arith)

differ_lt : (x y : ℕ) → x < 2 → y < 2 → differ x y < 2
differ_lt zero y h k = k
differ_lt (suc x) zero h k = h
differ_lt (suc zero) (suc zero) h k = omega arith
differ_lt (suc (suc x)) (suc y) h k = absurd (omega arith)
differ_lt (suc zero) (suc (suc y)) h k = absurd (omega arith)

differ_assoc : (x y z : ℕ) → x < 2 → y < 2 → z < 2 → differ (differ x y) z ≡ differ x (differ y z)
differ_assoc zero y z h k l = refl
differ_assoc (suc zero) zero z h k l = refl
differ_assoc (suc zero) (suc zero) zero h k l = refl
differ_assoc (suc zero) (suc zero) (suc zero) h k l = refl
differ_assoc (suc zero) (suc zero) (suc (suc z)) h k l = absurd (omega arith)
differ_assoc (suc zero) (suc (suc y)) z h k l = absurd (omega arith)
differ_assoc (suc (suc x)) y z h k l = absurd (omega arith)

min_differ : (x y z : ℕ) → x < 2 → y < 2 → z < 2 → min (differ x y) z ≡ differ (min x z) (min y z)
min_differ zero zero zero h k l = refl
min_differ zero zero (suc zero) h k l = refl
min_differ zero (suc zero) zero h k l = refl
min_differ zero (suc zero) (suc zero) h k l = refl
min_differ (suc zero) zero zero h k l = refl
min_differ (suc zero) zero (suc zero) h k l = refl
min_differ (suc zero) (suc zero) zero h k l = refl
min_differ (suc zero) (suc zero) (suc zero) h k l = refl
min_differ (suc (suc x)) y z h k l = absurd (omega arith)
min_differ zero (suc (suc y)) z h k l = absurd (omega arith)
min_differ (suc zero) (suc (suc y)) z h k l = absurd (omega arith)
min_differ zero zero (suc (suc z)) h k l = absurd (omega arith)
min_differ zero (suc zero) (suc (suc z)) h k l = absurd (omega arith)
min_differ (suc zero) zero (suc (suc z)) h k l = absurd (omega arith)
min_differ (suc zero) (suc zero) (suc (suc z)) h k l = absurd (omega arith)

-- ---- of a word: what stands before its last bit, and that bit

xor_half : (a b : ℕ) → bit_xor a b / 2 ≡ bit_xor (a / 2) (b / 2)
xor_half a b = xor_shr a b 1

xor_last : (a b : ℕ) → bit_xor a b % 2 ≡ differ (a % 2) (b % 2)
xor_last a b =
    ap (λ (x : ℕ). x % 2) (xor_step a b) ∙ digits_mod (bit_xor (a / 2) (b / 2)) (differ_lt (a % 2) (b % 2) (parity_lt a) (parity_lt b))

and_half : (a b : ℕ) → bit_and a b / 2 ≡ bit_and (a / 2) (b / 2)
and_half a b = and_shr a b 1

and_last : (a b : ℕ) → bit_and a b % 2 ≡ min (a % 2) (b % 2)
and_last a b =
    let h : min (a % 2) (b % 2) < 2 = omega (arith, parity_lt a) in
    ap (λ (x : ℕ). x % 2) (and_step a b) ∙ digits_mod (bit_and (a / 2) (b / 2)) h

-- ---- the laws

pub xor_assoc : (a b c : ℕ) → bit_xor (bit_xor a b) c ≡ bit_xor a (bit_xor b c)
xor_assoc =
    bin_ind (λ (n : ℕ). (b c : ℕ) → bit_xor (bit_xor n b) c ≡ bit_xor n (bit_xor b c))
    (λ b c. ap (λ (x : ℕ). bit_xor x c) (xor_zero_l b) ∙ sym (xor_zero_l (bit_xor b c)))
    (λ n shorter b c.
    xor_step (bit_xor n b) c
    ∙ ap₂ (λ (y z : ℕ). y * 2 + z)
    (ap (λ (y : ℕ). bit_xor y (c / 2)) (xor_half n b) ∙ shorter (b / 2) (c / 2) ∙ ap (λ (y : ℕ). bit_xor (n / 2) y) (sym (xor_half b c)))
    (ap (λ (y : ℕ). differ y (c % 2)) (xor_last n b)
    ∙ differ_assoc (n % 2) (b % 2) (c % 2) (parity_lt n) (parity_lt b) (parity_lt c)
    ∙ ap (λ (y : ℕ). differ (n % 2) y) (sym (xor_last b c)))
    ∙ sym (xor_step n (bit_xor b c)))

-- the inner two change places
pub xor_cross : (a b c d : ℕ) → bit_xor (bit_xor a b) (bit_xor c d) ≡ bit_xor (bit_xor a c) (bit_xor b d)
xor_cross a b c d =
    xor_assoc a b (bit_xor c d)
    ∙ ap (λ (x : ℕ). bit_xor a x) (sym (xor_assoc b c d) ∙ ap (λ (x : ℕ). bit_xor x d) (xor_comm b c) ∙ xor_assoc c b d)
    ∙ sym (xor_assoc a c (bit_xor b d))

pub xor_shl : (k a b : ℕ) → bit_xor (a * 2 ^ k) (b * 2 ^ k) ≡ bit_xor a b * 2 ^ k
xor_shl k a b =
    let p : zero < 2 ^ k = pow_pos k in
    ap₂ bit_xor (sym (add-zero (a * 2 ^ k))) (sym (add-zero (b * 2 ^ k))) ∙ xor_block k a b 0 0 p p ∙ add-zero (bit_xor a b * 2 ^ k)

pub and_xor : (a b m : ℕ) → bit_and (bit_xor a b) m ≡ bit_xor (bit_and a m) (bit_and b m)
and_xor =
    bin_ind (λ (n : ℕ). (b m : ℕ) → bit_and (bit_xor n b) m ≡ bit_xor (bit_and n m) (bit_and b m))
    (λ b m. ap (λ (x : ℕ). bit_and x m) (xor_zero_l b) ∙ sym (xor_zero_l (bit_and b m)) ∙ ap (λ (x : ℕ). bit_xor x (bit_and b m)) (sym (and_zero_l m)))
    (λ n shorter b m.
    and_step (bit_xor n b) m
    ∙ ap₂ (λ (y z : ℕ). y * 2 + z)
    (ap (λ (y : ℕ). bit_and y (m / 2)) (xor_half n b) ∙ shorter (b / 2) (m / 2) ∙ ap₂ bit_xor (sym (and_half n m)) (sym (and_half b m)))
    (ap (λ (y : ℕ). min y (m % 2)) (xor_last n b)
    ∙ min_differ (n % 2) (b % 2) (m % 2) (parity_lt n) (parity_lt b) (parity_lt m)
    ∙ ap₂ differ (sym (and_last n m)) (sym (and_last b m)))
    ∙ sym (xor_step (bit_and n m) (bit_and b m)))
