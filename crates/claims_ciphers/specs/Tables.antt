-- The tables of FIPS 46-3 that follow a rule, each list as it is printed against its rule: a number that is wrong in definition and code
-- together is met here.
use Rattle.std.specs.Prelude.{ℕ, ◌+◌, ◌-◌, ◌*◌, ◌/◌, ◌%◌, ◌≡◌, true, cond, List, [], ◌∷◌, ◌++◌, map, ltb, length, take, drop, replicate}
use Rattle.nibbles.specs.Nibbles.{within, every}
use Rattle.bits.specs.Nibbled.{from}
use Rattle.fips46.specs.Rows.{count}
use Rattle.fips46.specs.Fips46.{IP, E, P, PC1, PC2, shifts}

-- rows of so many columns, by a rule of row and column, both counted from 0
abbrev pub rows : ℕ → ℕ → (ℕ → ℕ → ℕ) → List ℕ
rows n columns rule = map (λ k. rule (k / columns) (k % columns)) (from 0 (n * columns))

-- ---- IP

-- the even places of the eight bytes, from the last byte to the first, and then the odd ones: the first row is 58, 50, ..., 2, each
-- of the next three is two more than the row above, and the fifth is 57, 49, ..., 1
abbrev pub IpRule : Type 0
IpRule = IP ≡ rows 8 8 (λ r c. cond (ltb r 4) (58 + 2 * r - 8 * c) (57 + 2 * (r - 4) - 8 * c))

-- ---- E

-- four neighbours to a row, with the one before them and the one behind; before 1 comes 32, and behind 32 comes 1
abbrev pub ERule : Type 0
ERule = E ≡ rows 8 6 (λ r c. (4 * r + c + 31) % 32 + 1)

-- ---- P

-- every place from 1 to 32 once, and no other
abbrev pub PRule : Type 0
PRule = (length P ≡ 32) × (map (λ place. count place P) (from 1 32) ≡ replicate 32 1)

-- ---- PC1

-- a column of the key, eight rows of eight bits, from the bottom up
abbrev pub column : ℕ → List ℕ
column c = map (λ k. 8 * (7 - k) + c) (from 0 8)

-- C: the first three columns and the lower half of the fourth; D: the seventh, the sixth, the fifth and the upper half of the fourth. The
-- eighth, the parity bits, is left out
abbrev pub Pc1Rule : Type 0
Pc1Rule =
    PC1
    ≡ (column 1 ++ (column 2 ++ (column 3 ++ take 4 (column 4))))
    ++ (column 7 ++ (column 6 ++ (column 5 ++ drop 4 (column 4))))

-- ---- PC2

-- 48 places, no two alike, of which the first half is in C, 1 to 28, and the second in D, 29 to 56
abbrev pub Pc2Rule : Type 0
Pc2Rule = (length PC2 ≡ 48)
    × (every (within 0 1) (map (λ place. count place PC2) (from 1 56)) ≡ true)
    × (every (within 1 28) (take 24 PC2) ≡ true)
    × (every (within 29 56) (drop 24 PC2) ≡ true)

-- ---- the shifts

abbrev pub sum : List ℕ → ℕ
sum [] = 0
sum (x ∷ xs) = x + sum xs

-- one place in the iterations 1, 2, 9 and 16, two in every other; after the last C and D are as they were
abbrev pub ShiftsRule : Type 0
ShiftsRule = (shifts ≡ map (λ i. 2 - count i (1 ∷ 2 ∷ 9 ∷ 16 ∷ [])) (from 1 16)) × (sum shifts ≡ 28)
