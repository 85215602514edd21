-- Functions of words that go with the exclusive or: shifts, masks, exchanges, what a table selects. Two such functions that agree at
-- each word of one bit agree at every word, so that a few dozen comparisons which antt computes settle them.
-- Assumes nothing.
use mathlib.Core.Path.{◌≡◌, refl, ◌∙◌, ap, ap₂, sym}
use mathlib.Core.Bool.{Bool, true, ◌&&◌}
use mathlib.Core.List.{List, [], ◌∷◌}
use Prim.Native.Nat.{ℕ, zero, suc, ◌+◌, ◌-◌, ◌*◌, ◌/◌, ◌%◌, ◌^◌, ◌<◌}
use native.Mathlib.Omega.{arith}
use native.Mathlib.Nat.{mod-lt, one-mul, add_comm}
use native.Mathlib.Numerals.{add-one}
use lib.Dec.{eqb}
use lib.ListN.{length}
use lib.Pow.{pow_pos, split, shr_lt}
use lib.Bits.{bit_and, bit_xor, xor_shr, xor_mod, xor_shifted, xor_block, xor_self}
use borrow.Author.Tests.{eqb-true}
use Rattle.nibbles.proofs.Lists.{and_left, and_right}
use Rattle.bits.specs.Select.{bit, select}
use Rattle.bits.specs.Exchange.{exchanged}
use Rattle.bits.proofs.Xor.{xor_cross, xor_shl, and_xor}
use Rattle.bits.proofs.Select.{select_lt}

pub record Linear (f : ℕ → ℕ) : Type 0 where
  pub sums : (a b : ℕ) → f (bit_xor a b) ≡ bit_xor (f a) (f b)

-- ---- which functions are

pub itself : Linear (λ x. x)
itself = record { sums = λ a b. refl }

pub nothing : Linear (λ x. 0)
nothing = record { sums = λ a b. refl }

pub xored : {f g : ℕ → ℕ} → Linear f → Linear g → Linear (λ x. bit_xor (f x) (g x))
xored {f} {g} l m = record { sums = λ a b. ap₂ bit_xor (l.sums a b) (m.sums a b) ∙ xor_cross (f a) (f b) (g a) (g b) }

pub right : {f : ℕ → ℕ} (k : ℕ) → Linear f → Linear (λ x. f x / 2 ^ k)
right {f} k l = record { sums = λ a b. ap (λ (x : ℕ). x / 2 ^ k) (l.sums a b) ∙ xor_shr (f a) (f b) k }

pub left : {f : ℕ → ℕ} (k : ℕ) → Linear f → Linear (λ x. f x * 2 ^ k)
left {f} k l = record { sums = λ a b. ap (λ (x : ℕ). x * 2 ^ k) (l.sums a b) ∙ sym (xor_shl k (f a) (f b)) }

pub low : {f : ℕ → ℕ} (k : ℕ) → Linear f → Linear (λ x. f x % 2 ^ k)
low {f} k l = record { sums = λ a b. ap (λ (x : ℕ). x % 2 ^ k) (l.sums a b) ∙ xor_mod (f a) (f b) k }

pub masked : {f : ℕ → ℕ} (m : ℕ) → Linear f → Linear (λ x. bit_and (f x) m)
masked {f} m l = record { sums = λ a b. ap (λ (x : ℕ). bit_and x m) (l.sums a b) ∙ and_xor (f a) (f b) m }

pub exchanges : {f : ℕ → ℕ} (n m : ℕ) → Linear f → Linear (λ x. exchanged n m (f x))
unfolding exchanged
exchanges n m l = xored (xored l (masked m (xored l (right n l)))) (low 64 (left n (masked m (xored l (right n l)))))

select_sums : (n : ℕ) (table : List ℕ) (a b : ℕ) → select n table (bit_xor a b) ≡ bit_xor (select n table a) (select n table b)
unfolding select
select_sums n [] a b = refl
select_sums n (i ∷ table) a b =
    ap₂ (λ (x y : ℕ). x * 2 ^ length table + y) ((low 1 (right (n - i) itself)).sums a b) (select_sums n table a b)
    ∙ sym (xor_block (length table) (bit n a i) (bit n b i) (select n table a) (select n table b) (select_lt n table a) (select_lt n table b))

pub selects : {f : ℕ → ℕ} (n : ℕ) (table : List ℕ) → Linear f → Linear (λ x. select n table (f x))
selects {f} n table l = record { sums = λ a b. ap (λ (x : ℕ). select n table x) (l.sums a b) ∙ select_sums n table (f a) (f b) }

-- ---- where two of them agree

-- at each word of one bit, of k bits
unfoldable pub at_each_bit : (ℕ → ℕ) → (ℕ → ℕ) → ℕ → Bool
at_each_bit f g zero = true
at_each_bit f g (suc k) = eqb (f (2 ^ k)) (g (2 ^ k)) && at_each_bit f g k

pub at_zero : {f : ℕ → ℕ} → Linear f → f 0 ≡ 0
at_zero {f} l = l.sums 0 0 ∙ xor_self (f 0)

module _ (f g : ℕ → ℕ) (l : Linear f) (m : Linear g) where
  one_bit_more : (k b r : ℕ) → b < 2 → r < 2 ^ k → f (2 ^ k) ≡ g (2 ^ k) → f r ≡ g r → f (b * 2 ^ k + r) ≡ g (b * 2 ^ k + r)
  one_bit_more k zero r hb hr t e = let z : 0 * 2 ^ k + r ≡ r = omega arith in rw z e
  one_bit_more k (suc zero) r hb hr t e =
      let w : 1 * 2 ^ k + r ≡ bit_xor (2 ^ k) r = sym (xor_shifted 1 k r hr) ∙ ap (λ (x : ℕ). bit_xor x r) (one-mul (2 ^ k)) in
      ap f w ∙ l.sums (2 ^ k) r ∙ ap₂ bit_xor t e ∙ sym (m.sums (2 ^ k) r) ∙ ap g (sym w)
  one_bit_more k (suc (suc b)) r hb hr t e = absurd (omega arith)

  pub agree : (k : ℕ) → at_each_bit f g k ≡ true → (x : ℕ) → x < 2 ^ k → f x ≡ g x
  unfolding at_each_bit
  agree zero t x h = let z : x ≡ 0 = omega arith in ap f z ∙ at_zero l ∙ sym (at_zero m) ∙ ap g (sym z)
  agree (suc k) t x h =
      let test : Bool = eqb (f (2 ^ k)) (g (2 ^ k)) in
      let r : x % 2 ^ k < 2 ^ k = mod-lt x (pow_pos k) in
      let b : x / 2 ^ k < 2 = shr_lt 1 k (rw (add_comm 1 k) (rw add-one h)) in
      let w : x / 2 ^ k * 2 ^ k + x % 2 ^ k ≡ x = split x k in
      let here : f (2 ^ k) ≡ g (2 ^ k) = eqb-true (f (2 ^ k)) (g (2 ^ k)) (and_left test (at_each_bit f g k) t) in
      let rest : f (x % 2 ^ k) ≡ g (x % 2 ^ k) = agree k (and_right test (at_each_bit f g k) t) (x % 2 ^ k) r in
      ap f (sym w) ∙ one_bit_more k (x / 2 ^ k) (x % 2 ^ k) b r here rest ∙ ap g w
