-- What a table selects fits as many bits as the table has places.
-- Assumes nothing.
use Prim.Native.Nat.{ℕ, suc, ◌+◌, ◌-◌, ◌*◌, ◌/◌, ◌^◌, ◌<◌}
use native.Mathlib.Omega.{arith}
use native.Mathlib.Nat.{mod-lt}
use mathlib.Core.List.{List, [], ◌∷◌}
use lib.ListN.{length}
use lib.Arith.{digits_lt}
use Rattle.bits.specs.Select.{bit, select}

bit_lt : (n w i : ℕ) → bit n w i < 2
bit_lt n w i = mod-lt (w / 2 ^ (n - i)) (omega arith)

pub select_lt : (n : ℕ) (table : List ℕ) (w : ℕ) → select n table w < 2 ^ length table
unfolding select
select_lt n [] w = omega arith
select_lt n (i ∷ table) w =
    let h : bit n w i * 2 ^ length table + select n table w < 2 ^ suc (length table) = omega (arith, digits_lt (bit_lt n w i) (select_lt n table w)) in
    h
