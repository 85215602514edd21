-- Folding a byte counts its ones, by twos: a test over the 256 bytes.
-- Assumes nothing.
use Prim.Native.Nat.{ℕ, zero, suc, ◌%◌, ◌<◌}
use native.Mathlib.Omega.{arith}
use native.Mathlib.Nat.{eq-or-lt_of_le, le_of_suc-le-suc}
use mathlib.Core.Path.{◌≡◌, refl, ap}
use mathlib.Core.Bool.{Bool, true, ◌&&◌}
use mathlib.Core.Logic.{◌⊎◌, inl, inr}
use mathlib.Core.List.{List, [], ◌∷◌}
use Rattle.std.specs.List.{list_all}
use lib.Dec.{eqb}
use borrow.Author.Tests.{eqb-true}
use Rattle.nibbles.specs.Nibbles.{every}
use Rattle.nibbles.proofs.Lists.{and_left, and_right}
use Rattle.parity.specs.Parity.{ones, is_odd, odd_parity, folded}

-- the test holds of every number below n
unfoldable pub all_under : (ℕ → Bool) → ℕ → Bool
all_under p zero = true
all_under p (suc n) = p n && all_under p n

pub under_at : (p : ℕ → Bool) (n : ℕ) → all_under p n ≡ true → (k : ℕ) → k < n → p k ≡ true
unfolding all_under
under_at p zero t k h = absurd (omega arith)
under_at p (suc n) t k h = choose (eq-or-lt_of_le (le_of_suc-le-suc h)) (λ l. under_at p n (and_right (p n) (all_under p n) t) k l)
  where
    choose : (k ≡ n) ⊎ (k < n) → (k < n → p k ≡ true) → p k ≡ true
    choose (inl e) below = rw e (and_left (p n) (all_under p n) t)
    choose (inr l) below = below l

same_parity : ℕ → Bool
same_parity b = eqb (folded b) (ones 8 b % 2)

test : all_under same_parity 256 ≡ true
unfolding all_under same_parity folded ones
test = refl

pub folded_ones : (b : ℕ) → b < 256 → folded b ≡ ones 8 b % 2
unfolding same_parity
folded_ones b h = eqb-true (folded b) (ones 8 b % 2) (under_at same_parity 256 test b h)

-- every byte of a key, in the library's word
pub all_odd : (key : List ℕ) → list_all is_odd key ≡ odd_parity key
unfolding odd_parity every
all_odd [] = refl
all_odd (b ∷ key) = ap (λ (rest : Bool). is_odd b && rest) (all_odd key)
