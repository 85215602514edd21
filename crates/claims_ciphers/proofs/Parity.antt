-- Odd parity, said a second time.
-- Assumes nothing.
use Prim.Native.Nat.{ℕ, zero, suc, ◌+◌, ◌*◌, ◌/◌, ◌%◌, ◌^◌, ◌<◌}
use native.Mathlib.Omega.{arith}
use mathlib.Core.Path.{◌≡◌, refl, ◌∙◌, ap, ap₂, sym}
use mathlib.Core.Bool.{Bool, true, false, ◌&&◌, false≢true}
use mathlib.Core.List.{List, [], ◌∷◌}
use lib.Dec.{eqb}
use lib.ListN.{length, get_or, set, replicate}
use lib.Bits.{bit_xor, xor_add_and, and_mask}
use borrow.Author.Tests.{eqb-true, eqb-false}
use Rattle.nibbles.specs.Nibbles.{every}
use Rattle.nibbles.proofs.Lists.{and_left, and_right}
use Rattle.parity.specs.Parity.{ones, is_odd, odd_parity}
use Rattle.parity.proofs.Laws.{all_under, under_at}
use Rattle.claims_ciphers.specs.Parity.{LastBitDecides, EachBitDecides, GoodExactly, ParityFigures, EachByteCounts}

-- ---- the last bit

-- what is changed there is one number up or one down, and the rest stays
changed : (b : ℕ) → bit_xor b 1 + b % 2 * 2 ≡ b + 1
changed b = ap (λ (x : ℕ). bit_xor b 1 + x * 2) (sym (and_mask b 1)) ∙ xor_add_and b 1

ones_changed : (b : ℕ) → ones 8 (bit_xor b 1) + b % 2 * 2 ≡ ones 8 b + 1
unfolding ones
ones_changed b =
    let c : bit_xor b 1 + b % 2 * 2 ≡ b + 1 = changed b in
    let rest : bit_xor b 1 / 2 ≡ b / 2 = omega arith in
    let last : bit_xor b 1 % 2 + b % 2 ≡ 1 = omega arith in
    let same : ones 7 (bit_xor b 1 / 2) ≡ ones 7 (b / 2) = ap (ones 7) rest in
    omega arith

pub last_bit_decides : LastBitDecides
unfolding is_odd
last_bit_decides b e = by (eqb (ones 8 b % 2) 1) refl
  where
    by : (o : Bool) → eqb (ones 8 b % 2) 1 ≡ o → ⊥
    by true t =
        let c : ones 8 (bit_xor b 1) + b % 2 * 2 ≡ ones 8 b + 1 = ones_changed b in
        let m : ones 8 b % 2 ≡ 1 = eqb-true (ones 8 b % 2) 1 t in
        let n : ones 8 (bit_xor b 1) % 2 ≡ 1 = eqb-true (ones 8 (bit_xor b 1) % 2) 1 (sym e ∙ t) in
        omega arith
    by false t =
        let c : ones 8 (bit_xor b 1) + b % 2 * 2 ≡ ones 8 b + 1 = ones_changed b in
        let m = eqb-false (ones 8 b % 2) 1 t in
        let n = eqb-false (ones 8 (bit_xor b 1) % 2) 1 (sym e ∙ t) in
        omega arith

-- ---- each bit: a test over the 256 bytes

abbrev differ : Bool → Bool → Bool
differ true true = false
differ true false = true
differ false true = true
differ false false = false

differ_apart : (x y : Bool) → differ x y ≡ true → x ≡ y → ⊥
differ_apart true true t e = false≢true t
differ_apart true false t e = false≢true (sym e)
differ_apart false true t e = false≢true e
differ_apart false false t e = false≢true t

abbrev bits_of : ℕ → Bool
bits_of b = all_under (λ i. differ (is_odd b) (is_odd (bit_xor b (2 ^ i)))) 8

bits_test : all_under bits_of 256 ≡ true
unfolding all_under is_odd ones
bits_test = refl

pub each_bit_decides : EachBitDecides
each_bit_decides b i hb hi =
    differ_apart (is_odd b) (is_odd (bit_xor b (2 ^ i))) (under_at (λ j. differ (is_odd b) (is_odd (bit_xor b (2 ^ j)))) 8 (under_at bits_of 256 bits_test b hb) i hi)

-- ---- a key

each : (key : List ℕ) → odd_parity key ≡ true → (i : ℕ) → i < length key → is_odd (get_or key i 0) ≡ true
unfolding odd_parity every
each [] t i h = absurd (omega arith)
each (b ∷ bs) t zero h = and_left (is_odd b) (every is_odd bs) t
each (b ∷ bs) t (suc i) h = each bs (and_right (is_odd b) (every is_odd bs) t) i (omega arith)

all : (key : List ℕ) → ((i : ℕ) → i < length key → is_odd (get_or key i 0) ≡ true) → odd_parity key ≡ true
unfolding odd_parity every
all [] h = refl
all (b ∷ bs) h = ap₂ ◌&&◌ (h 0 (omega arith)) (all bs (λ i l. h (suc i) (omega arith)))

pub good_exactly : GoodExactly
good_exactly key = (each key, all key)

pub parity_figures : ParityFigures
unfolding odd_parity every is_odd ones
parity_figures = (refl, refl, refl, refl)

of_ones : (n : ℕ) → odd_parity (replicate n 1) ≡ true
unfolding odd_parity every is_odd ones
of_ones zero = refl
of_ones (suc n) = of_ones n

but_one : (n i : ℕ) → i < n → odd_parity (set (replicate n 1) i 0) ≡ false
unfolding odd_parity every is_odd ones
but_one zero i h = absurd (omega arith)
but_one (suc n) zero h = refl
but_one (suc n) (suc i) h = but_one n i (omega arith)

pub each_byte_counts : EachByteCounts
each_byte_counts n = (of_ones n, but_one n)
