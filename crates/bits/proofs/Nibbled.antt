-- A linear function is what its table over the nibbles has for a word.
-- Assumes nothing.
use mathlib.Core.Path.{◌≡◌, refl, ◌∙◌, ap, ap₂, sym}
use mathlib.Core.List.{List, map}
use Prim.Native.Nat.{ℕ, zero, suc, ◌+◌, ◌*◌, ◌/◌, ◌%◌, ◌^◌, ◌<◌, ◌≤◌}
use native.Mathlib.Omega.{arith}
use native.Mathlib.Nat.{mod-lt, mod-one, mod-eq_of_lt, le_refl}
use lib.ListN.{length, get_or}
use lib.Arith.{digits_div, digits_mod}
use lib.Pow.{pow_pos, mod-pow-add}
use lib.Bits.{bit_xor, xor_shifted, xor_comm}
use Rattle.bits.specs.Nibbled.{from, nibbled, looked}
use Rattle.bits.proofs.Linear.{Linear, at_zero}

-- ---- numbers from a on

pub length_from : (g : ℕ → ℕ) (a n : ℕ) → length (map g (from a n)) ≡ n
unfolding from
length_from g a zero = refl
length_from g a (suc n) = ap suc (length_from g (suc a) n)

get_or_from : (g : ℕ → ℕ) (a n k : ℕ) → k < n → get_or (map g (from a n)) k 0 ≡ g (a + k)
unfolding from
get_or_from g a zero k h = absurd (omega arith)
get_or_from g a (suc n) zero h = ap g (omega arith)
get_or_from g a (suc n) (suc k) h = get_or_from g (suc a) n k (omega arith) ∙ ap g (omega arith)

-- the number of place i and part v, in a table of n places that have w parts each
pub entry_from : (g : ℕ → ℕ → ℕ) (n w i v : ℕ) → i < n → v < w → i * w + v < n * w
    → get_or (map (λ k. g (k / w) (k % w)) (from 0 (n * w))) (i * w + v) 0 ≡ g i v
entry_from g n w i v hi hv h =
    get_or_from (λ k. g (k / w) (k % w)) 0 (n * w) (i * w + v) h
    ∙ ap (λ (x : ℕ). g (x / w) (x % w)) zero_out ∙ ap₂ g (digits_div i hv) (digits_mod i hv)
  where
    zero_out : 0 + (i * w + v) ≡ i * w + v
    zero_out = omega arith

-- ---- the table

pub length_nibbled : (f : ℕ → ℕ) (n : ℕ) → length (nibbled f n) ≡ n * 16
unfolding nibbled
length_nibbled f n = length_from (λ k. f (k % 16 * 2 ^ (4 * (k / 16)))) 0 (n * 16)

nibbled_at : (f : ℕ → ℕ) (n i v : ℕ) → i < n → v < 16 → get_or (nibbled f n) (i * 16 + v) 0 ≡ f (v * 2 ^ (4 * i))
unfolding nibbled
nibbled_at f n i v hi hv = entry_from (λ i v. f (v * 2 ^ (4 * i))) n 16 i v hi hv (omega arith)

one_nibble_more : (f : ℕ → ℕ) → Linear f → (n i w : ℕ) → i < n
    → bit_xor (f (w % 2 ^ (4 * i))) (get_or (nibbled f n) (i * 16 + w / 2 ^ (4 * i) % 16) 0) ≡ f (w % 2 ^ (4 * suc i))
one_nibble_more f l n i w h =
    let v : ℕ = w / 2 ^ (4 * i) % 16 in
    let rest : ℕ = w % 2 ^ (4 * i) in
    let small : v < 16 = mod-lt (w / 2 ^ (4 * i)) (omega arith) in
    let under : rest < 2 ^ (4 * i) = mod-lt w (pow_pos (4 * i)) in
    let four : 4 * suc i ≡ 4 + 4 * i = omega arith in
    ap (λ (x : ℕ). bit_xor (f rest) x) (nibbled_at f n i v h small)
    ∙ xor_comm (f rest) (f (v * 2 ^ (4 * i)))
    ∙ sym (l.sums (v * 2 ^ (4 * i)) rest)
    ∙ ap f (xor_shifted v (4 * i) rest under ∙ sym (mod-pow-add w 4 (4 * i)) ∙ ap (λ (m : ℕ). w % 2 ^ m) (sym four))

looked_low : (f : ℕ → ℕ) → Linear f → (n i w : ℕ) → i ≤ n → looked (nibbled f n) i w ≡ f (w % 2 ^ (4 * i))
unfolding looked
looked_low f l n zero w h =
    let e : 4 * 0 ≡ 0 = omega arith in
    sym (ap (λ (m : ℕ). f (w % 2 ^ m)) e ∙ ap f (mod-one w) ∙ at_zero l)
looked_low f l n (suc i) w h =
    ap (λ (x : ℕ). bit_xor x (get_or (nibbled f n) (i * 16 + w / 2 ^ (4 * i) % 16) 0)) (looked_low f l n i w (omega arith))
    ∙ one_nibble_more f l n i w (omega arith)

-- the table's function is f, at a word of n nibbles
pub looked_is : (f : ℕ → ℕ) → Linear f → (n w : ℕ) → w < 2 ^ (4 * n) → looked (nibbled f n) n w ≡ f w
looked_is f l n w h = looked_low f l n n w (le_refl n) ∙ ap f (mod-eq_of_lt h)

pub looked_next : (table : List ℕ) (i w : ℕ) → looked table (i + 1) w ≡ bit_xor (looked table i w) (get_or table (i * 16 + w / 2 ^ (4 * i) % 16) 0)
unfolding looked
looked_next table i w = let e : i + 1 ≡ suc i = omega arith in ap (λ (m : ℕ). looked table m w) e
