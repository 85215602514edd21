-- Bits that change places. It is how the code makes a permutation of a whole word.
use Rattle.std.specs.Prelude.{ℕ, ◌*◌, ◌/◌, ◌%◌, ◌^◌}
use Rattle.std.specs.Int.Bits.{bit_and, bit_xor}

-- the bits of the mask in which a word differs from itself n places to the right
abbrev pub apart : ℕ → ℕ → ℕ → ℕ
apart n mask w = bit_and (bit_xor w (w / 2 ^ n)) mask

-- each bit of the mask changes places with the one n places to its left, in a word of 64 bits
unfoldable pub exchanged : ℕ → ℕ → ℕ → ℕ
exchanged n mask w = bit_xor (bit_xor w (apart n mask w)) (apart n mask w * 2 ^ n % 2 ^ 64)
