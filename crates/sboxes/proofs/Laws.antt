-- The number that stands for a box and six bits.
-- Assumes nothing.
use Prim.Native.Nat.{ℕ, ◌+◌, ◌-◌, ◌*◌, ◌<◌, ◌≤◌}
use native.Mathlib.Omega.{arith}
use mathlib.Core.Path.{◌≡◌, refl, ◌∙◌, ap}
use lib.ListN.{get_or}
use Rattle.bits.specs.Select.{select}
use Rattle.bits.specs.Nibbled.{from}
use Rattle.bits.proofs.Nibbled.{entry_from}
use Rattle.fips46.specs.Fips46.{S1, S2, S3, S4, S5, S6, S7, S8, boxes, S, P}
use Rattle.sboxes.specs.declared.TheConstants.{PERMUTED}
use Rattle.sboxes.specs.Permuted.{permuted, permuted_all}

-- the code's numbers are those that P makes of the boxes: all 512 are made anew
pub all_are_permuted : PERMUTED ≡ permuted_all
unfolding permuted_all permuted from select P S boxes S1 S2 S3 S4 S5 S6 S7 S8
all_are_permuted = refl

permuted_all_at : (n b : ℕ) → 1 ≤ n → n ≤ 8 → b < 64 → get_or permuted_all ((n - 1) * 64 + b) 0 ≡ permuted n b
unfolding permuted_all
permuted_all_at n b h k l =
    entry_from (λ i v. permuted (i + 1) v) 8 64 (n - 1) b (omega arith) l (omega arith) ∙ ap (λ (m : ℕ). permuted m b) (omega arith)

pub permuted_at : (n b : ℕ) → 1 ≤ n → n ≤ 8 → b < 64 → get_or PERMUTED ((n - 1) * 64 + b) 0 ≡ permuted n b
permuted_at n b h k l = ap (λ s. get_or s ((n - 1) * 64 + b) 0) all_are_permuted ∙ permuted_all_at n b h k l
