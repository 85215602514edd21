-- The bits of a word, counted from the left and from 1 as FIPS 46-3 counts them, and the word that a table of places selects.
use Rattle.std.specs.Prelude.{ℕ, ◌+◌, ◌-◌, ◌*◌, ◌/◌, ◌%◌, ◌^◌, List, [], ◌∷◌, length}

-- bit i of a word of n bits
abbrev pub bit : ℕ → ℕ → ℕ → ℕ
bit n w i = w / 2 ^ (n - i) % 2

-- "The permuted input has bit 58 of the input as its first bit, bit 50 as its second bit, and so on": the bits of a word of n bits at
-- the places that a table lists, in its order
unfoldable pub select : ℕ → List ℕ → ℕ → ℕ
select n [] w = 0
select n (i ∷ table) w = bit n w i * 2 ^ length table + select n table w
