-- A window on R is six bits of E's 48: one test for each box, at each of the 32 words of one bit.
-- Assumes nothing.
use Prim.Native.Nat.{ℕ, zero, suc, ◌-◌, ◌*◌, ◌/◌, ◌%◌, ◌^◌, ◌<◌, ◌≤◌}
use native.Mathlib.Omega.{arith}
use native.Mathlib.Nat.{eq-or-lt_of_le}
use mathlib.Core.Path.{◌≡◌, refl, ◌∙◌, ap, sym}
use mathlib.Core.Logic.{◌⊎◌, inl, inr}
use mathlib.Core.Bool.{Bool, true, ◌&&◌}
use lib.Bits.{bit_xor, xor_mod, xor_shr}
use Rattle.nibbles.proofs.Lists.{and_left, and_right}
use Rattle.bits.specs.Select.{select}
use Rattle.bits.proofs.Linear.{Linear, itself, selects, xored, left, right, low, agree, at_each_bit}
use Rattle.fips46.specs.Fips46.{E, B}
use Rattle.cipherfunction.specs.Windows.{edged, window}

edged_linear : Linear edged
unfolding edged
edged_linear = xored (xored (left 1 itself) (right 31 itself)) (left 33 (low 1 itself))

abbrev on_edges : ℕ → ℕ → ℕ
on_edges n r = edged r / 2 ^ (32 - 4 * n) % 2 ^ 6

abbrev on_e : ℕ → ℕ → ℕ
on_e n r = select 32 E r / 2 ^ (48 - 6 * n) % 2 ^ 6

-- the test for boxes 1 to n
unfoldable tested : ℕ → Bool
tested zero = true
tested (suc n) = at_each_bit (on_edges (suc n)) (on_e (suc n)) 32 && tested n

all_tested : tested 8 ≡ true
unfolding tested at_each_bit edged select E
all_tested = refl

tested_at : (m n : ℕ) → tested m ≡ true → 1 ≤ n → n ≤ m → at_each_bit (on_edges n) (on_e n) 32 ≡ true
unfolding tested
tested_at zero n t h k = absurd (omega arith)
tested_at (suc m) n t h k = choose (eq-or-lt_of_le k) (λ l. tested_at m n (and_right here (tested m) t) h (omega arith))
  where
    here : Bool
    here = at_each_bit (on_edges (suc m)) (on_e (suc m)) 32

    choose : (n ≡ suc m) ⊎ (n < suc m) → (n < suc m → at_each_bit (on_edges n) (on_e n) 32 ≡ true) → at_each_bit (on_edges n) (on_e n) 32 ≡ true
    choose (inl e) before = rw e (and_left here (tested m) t)
    choose (inr l) before = before l

same_six : (n r : ℕ) → 1 ≤ n → n ≤ 8 → r < 2 ^ 32 → on_edges n r ≡ on_e n r
same_six n r h k =
    agree (on_edges n) (on_e n) (low 6 (right (32 - 4 * n) edged_linear)) (low 6 (right (48 - 6 * n) (selects 32 E itself))) 32 (tested_at 8 n all_tested h k) r

-- what box n is given: its block of "K ⊕ E(R)"
pub window_is_B : (n r k : ℕ) → 1 ≤ n → n ≤ 8 → r < 2 ^ 32 → window n (edged r) k ≡ B n (bit_xor (select 32 E r) k)
window_is_B n r k h l b =
    xor_mod (edged r / 2 ^ (32 - 4 * n)) (k / 2 ^ (48 - 6 * n)) 6
    ∙ ap (λ (x : ℕ). bit_xor x (k / 2 ^ (48 - 6 * n) % 2 ^ 6)) (same_six n r h l b)
    ∙ sym (xor_mod (select 32 E r / 2 ^ (48 - 6 * n)) (k / 2 ^ (48 - 6 * n)) 6)
    ∙ ap (λ (x : ℕ). x % 2 ^ 6) (sym (xor_shr (select 32 E r) k (48 - 6 * n)))
