-- E as the code makes it: the blocks of six bits are windows on R.
use Rattle.std.specs.Prelude.{ℕ, ◌-◌, ◌*◌, ◌/◌, ◌%◌, ◌^◌}
use Rattle.std.specs.Int.Bits.{bit_xor}

-- 34 bits: R with its last bit before it and its first behind it
unfoldable pub edged : ℕ → ℕ
edged r = bit_xor (bit_xor (r * 2 ^ 1) (r / 2 ^ 31)) (r % 2 ^ 1 * 2 ^ 33)

-- six of those, and the six of the key that meet them: what box n is given
abbrev pub window : ℕ → ℕ → ℕ → ℕ
window n y k = bit_xor (y / 2 ^ (32 - 4 * n)) (k / 2 ^ (48 - 6 * n)) % 2 ^ 6
