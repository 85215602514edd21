-- Odd parity: every byte of a key has an odd number of ones.
use Rattle.std.specs.Prelude.{ℕ, zero, suc, ◌+◌, ◌/◌, ◌%◌, List, Bool, eqb}
use Rattle.std.specs.Int.Bits.{bit_xor}
use Rattle.nibbles.specs.Nibbles.{every}

-- how many ones the last n bits have
unfoldable pub ones : ℕ → ℕ → ℕ
ones zero b = 0
ones (suc n) b = b % 2 + ones n (b / 2)

unfoldable pub is_odd : ℕ → Bool
is_odd b = eqb (ones 8 b % 2) 1

unfoldable pub odd_parity : List ℕ → Bool
odd_parity key = every is_odd key

-- ---- as the code makes it

abbrev halved : ℕ → ℕ → ℕ
halved n b = bit_xor b (b / n)

unfoldable pub folded : ℕ → ℕ
folded b = halved 2 (halved 4 (halved 16 b)) % 2
