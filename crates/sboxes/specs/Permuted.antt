-- The boxes joined with P, as the code holds them.
use Rattle.std.specs.Prelude.{ℕ, ◌+◌, ◌-◌, ◌*◌, ◌/◌, ◌%◌, ◌^◌, List, map}
use Rattle.bits.specs.Select.{select}
use Rattle.bits.specs.Nibbled.{from}
use Rattle.fips46.specs.Fips46.{S, P}

-- what box n makes of six bits, in its place among the eight and permuted by P
unfoldable pub permuted : ℕ → ℕ → ℕ
permuted n b = select 32 P (S n b * 2 ^ (32 - 4 * n))

-- so of all 512: 64 for each box
unfoldable pub permuted_all : List ℕ
permuted_all = map (λ k. permuted (k / 64 + 1) (k % 64)) (from 0 512)
