-- A function of words, held as a table: what it makes of each nibble at each place. It is how the code makes a choice of bits.
use Rattle.std.specs.Prelude.{ℕ, zero, suc, ◌+◌, ◌*◌, ◌/◌, ◌%◌, ◌^◌, List, [], ◌∷◌, map, get_or}
use Rattle.std.specs.Int.Bits.{bit_xor}

-- n numbers from a on
unfoldable pub from : ℕ → ℕ → List ℕ
from a zero = []
from a (suc n) = a ∷ from (suc a) n

-- what f makes of the words that have one nibble: sixteen numbers for each of n places, the lowest place first
unfoldable pub nibbled : (ℕ → ℕ) → ℕ → List ℕ
nibbled f n = map (λ k. f (k % 16 * 2 ^ (4 * (k / 16)))) (from 0 (n * 16))

-- the exclusive or of what a table has for the nibbles of a word below place n
unfoldable pub looked : List ℕ → ℕ → ℕ → ℕ
looked table zero w = 0
looked table (suc n) w = bit_xor (looked table n w) (get_or table (n * 16 + w / 2 ^ (4 * n) % 16) 0)
