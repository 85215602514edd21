-- The data encryption standard, FIPS 46-3, in its words: enciphering, the cipher function, the key schedule. A block is the number that
-- its bits spell, the first bit highest; bits are counted from the left, from 1.
use Rattle.std.specs.Prelude.{ℕ, ◌+◌, ◌-◌, ◌*◌, ◌/◌, ◌%◌, ◌^◌, List, [], ◌∷◌, reverse, get_or}
use Rattle.std.specs.Int.Bits.{bit_xor}
use Rattle.bits.specs.Select.{select}
use Rattle.fips46.specs.declared.Halves.{Halves}

-- ---- enciphering

-- "the initial permutation IP"
unfoldable pub IP : List ℕ
IP =
    58 ∷ 50 ∷ 42 ∷ 34 ∷ 26 ∷ 18 ∷ 10 ∷ 2 ∷
    60 ∷ 52 ∷ 44 ∷ 36 ∷ 28 ∷ 20 ∷ 12 ∷ 4 ∷
    62 ∷ 54 ∷ 46 ∷ 38 ∷ 30 ∷ 22 ∷ 14 ∷ 6 ∷
    64 ∷ 56 ∷ 48 ∷ 40 ∷ 32 ∷ 24 ∷ 16 ∷ 8 ∷
    57 ∷ 49 ∷ 41 ∷ 33 ∷ 25 ∷ 17 ∷ 9 ∷ 1 ∷
    59 ∷ 51 ∷ 43 ∷ 35 ∷ 27 ∷ 19 ∷ 11 ∷ 3 ∷
    61 ∷ 53 ∷ 45 ∷ 37 ∷ 29 ∷ 21 ∷ 13 ∷ 5 ∷
    63 ∷ 55 ∷ 47 ∷ 39 ∷ 31 ∷ 23 ∷ 15 ∷ 7 ∷
    []

-- "the inverse of the initial permutation"
unfoldable pub IP⁻¹ : List ℕ
IP⁻¹ =
    40 ∷ 8 ∷ 48 ∷ 16 ∷ 56 ∷ 24 ∷ 64 ∷ 32 ∷
    39 ∷ 7 ∷ 47 ∷ 15 ∷ 55 ∷ 23 ∷ 63 ∷ 31 ∷
    38 ∷ 6 ∷ 46 ∷ 14 ∷ 54 ∷ 22 ∷ 62 ∷ 30 ∷
    37 ∷ 5 ∷ 45 ∷ 13 ∷ 53 ∷ 21 ∷ 61 ∷ 29 ∷
    36 ∷ 4 ∷ 44 ∷ 12 ∷ 52 ∷ 20 ∷ 60 ∷ 28 ∷
    35 ∷ 3 ∷ 43 ∷ 11 ∷ 51 ∷ 19 ∷ 59 ∷ 27 ∷
    34 ∷ 2 ∷ 42 ∷ 10 ∷ 50 ∷ 18 ∷ 58 ∷ 26 ∷
    33 ∷ 1 ∷ 41 ∷ 9 ∷ 49 ∷ 17 ∷ 57 ∷ 25 ∷
    []

-- "a 32 bit block L followed by a 32 bit block R"
abbrev pub halves : ℕ → Halves
halves w = record { left = w / 2 ^ 32; right = w % 2 ^ 32 }

abbrev pub whole : Halves → ℕ
whole h = h.left * 2 ^ 32 + h.right

-- "L' = R, R' = L ⊕ f(R, K)": an iteration, over any cipher function
abbrev pub iteration : (ℕ → ℕ → ℕ) → Halves → ℕ → Halves
iteration f h k = record { left = h.right; right = bit_xor h.left (f h.right k) }

-- an iteration with each block of key bits, from the first on
unfoldable pub iterations : (ℕ → ℕ → ℕ) → List ℕ → Halves → Halves
iterations f [] h = h
iterations f (k ∷ ks) h = iterations f ks (iteration f h k)

-- "a final interchange of blocks": "the preoutput block is then R16 L16"
abbrev pub interchanged : Halves → Halves
interchanged h = record { left = h.right; right = h.left }

-- ---- the cipher function f

-- E, "a block of 32 bits as input and ... a block of 48 bits as output"
unfoldable pub E : List ℕ
E =
    32 ∷ 1 ∷ 2 ∷ 3 ∷ 4 ∷ 5 ∷
    4 ∷ 5 ∷ 6 ∷ 7 ∷ 8 ∷ 9 ∷
    8 ∷ 9 ∷ 10 ∷ 11 ∷ 12 ∷ 13 ∷
    12 ∷ 13 ∷ 14 ∷ 15 ∷ 16 ∷ 17 ∷
    16 ∷ 17 ∷ 18 ∷ 19 ∷ 20 ∷ 21 ∷
    20 ∷ 21 ∷ 22 ∷ 23 ∷ 24 ∷ 25 ∷
    24 ∷ 25 ∷ 26 ∷ 27 ∷ 28 ∷ 29 ∷
    28 ∷ 29 ∷ 30 ∷ 31 ∷ 32 ∷ 1 ∷
    []

-- the selection functions S1 to S8: of each its four rows

unfoldable pub S1 : List (List ℕ)
S1 =
    (14 ∷ 4 ∷ 13 ∷ 1 ∷ 2 ∷ 15 ∷ 11 ∷ 8 ∷ 3 ∷ 10 ∷ 6 ∷ 12 ∷ 5 ∷ 9 ∷ 0 ∷ 7 ∷ []) ∷
    (0 ∷ 15 ∷ 7 ∷ 4 ∷ 14 ∷ 2 ∷ 13 ∷ 1 ∷ 10 ∷ 6 ∷ 12 ∷ 11 ∷ 9 ∷ 5 ∷ 3 ∷ 8 ∷ []) ∷
    (4 ∷ 1 ∷ 14 ∷ 8 ∷ 13 ∷ 6 ∷ 2 ∷ 11 ∷ 15 ∷ 12 ∷ 9 ∷ 7 ∷ 3 ∷ 10 ∷ 5 ∷ 0 ∷ []) ∷
    (15 ∷ 12 ∷ 8 ∷ 2 ∷ 4 ∷ 9 ∷ 1 ∷ 7 ∷ 5 ∷ 11 ∷ 3 ∷ 14 ∷ 10 ∷ 0 ∷ 6 ∷ 13 ∷ []) ∷
    []

unfoldable pub S2 : List (List ℕ)
S2 =
    (15 ∷ 1 ∷ 8 ∷ 14 ∷ 6 ∷ 11 ∷ 3 ∷ 4 ∷ 9 ∷ 7 ∷ 2 ∷ 13 ∷ 12 ∷ 0 ∷ 5 ∷ 10 ∷ []) ∷
    (3 ∷ 13 ∷ 4 ∷ 7 ∷ 15 ∷ 2 ∷ 8 ∷ 14 ∷ 12 ∷ 0 ∷ 1 ∷ 10 ∷ 6 ∷ 9 ∷ 11 ∷ 5 ∷ []) ∷
    (0 ∷ 14 ∷ 7 ∷ 11 ∷ 10 ∷ 4 ∷ 13 ∷ 1 ∷ 5 ∷ 8 ∷ 12 ∷ 6 ∷ 9 ∷ 3 ∷ 2 ∷ 15 ∷ []) ∷
    (13 ∷ 8 ∷ 10 ∷ 1 ∷ 3 ∷ 15 ∷ 4 ∷ 2 ∷ 11 ∷ 6 ∷ 7 ∷ 12 ∷ 0 ∷ 5 ∷ 14 ∷ 9 ∷ []) ∷
    []

unfoldable pub S3 : List (List ℕ)
S3 =
    (10 ∷ 0 ∷ 9 ∷ 14 ∷ 6 ∷ 3 ∷ 15 ∷ 5 ∷ 1 ∷ 13 ∷ 12 ∷ 7 ∷ 11 ∷ 4 ∷ 2 ∷ 8 ∷ []) ∷
    (13 ∷ 7 ∷ 0 ∷ 9 ∷ 3 ∷ 4 ∷ 6 ∷ 10 ∷ 2 ∷ 8 ∷ 5 ∷ 14 ∷ 12 ∷ 11 ∷ 15 ∷ 1 ∷ []) ∷
    (13 ∷ 6 ∷ 4 ∷ 9 ∷ 8 ∷ 15 ∷ 3 ∷ 0 ∷ 11 ∷ 1 ∷ 2 ∷ 12 ∷ 5 ∷ 10 ∷ 14 ∷ 7 ∷ []) ∷
    (1 ∷ 10 ∷ 13 ∷ 0 ∷ 6 ∷ 9 ∷ 8 ∷ 7 ∷ 4 ∷ 15 ∷ 14 ∷ 3 ∷ 11 ∷ 5 ∷ 2 ∷ 12 ∷ []) ∷
    []

unfoldable pub S4 : List (List ℕ)
S4 =
    (7 ∷ 13 ∷ 14 ∷ 3 ∷ 0 ∷ 6 ∷ 9 ∷ 10 ∷ 1 ∷ 2 ∷ 8 ∷ 5 ∷ 11 ∷ 12 ∷ 4 ∷ 15 ∷ []) ∷
    (13 ∷ 8 ∷ 11 ∷ 5 ∷ 6 ∷ 15 ∷ 0 ∷ 3 ∷ 4 ∷ 7 ∷ 2 ∷ 12 ∷ 1 ∷ 10 ∷ 14 ∷ 9 ∷ []) ∷
    (10 ∷ 6 ∷ 9 ∷ 0 ∷ 12 ∷ 11 ∷ 7 ∷ 13 ∷ 15 ∷ 1 ∷ 3 ∷ 14 ∷ 5 ∷ 2 ∷ 8 ∷ 4 ∷ []) ∷
    (3 ∷ 15 ∷ 0 ∷ 6 ∷ 10 ∷ 1 ∷ 13 ∷ 8 ∷ 9 ∷ 4 ∷ 5 ∷ 11 ∷ 12 ∷ 7 ∷ 2 ∷ 14 ∷ []) ∷
    []

unfoldable pub S5 : List (List ℕ)
S5 =
    (2 ∷ 12 ∷ 4 ∷ 1 ∷ 7 ∷ 10 ∷ 11 ∷ 6 ∷ 8 ∷ 5 ∷ 3 ∷ 15 ∷ 13 ∷ 0 ∷ 14 ∷ 9 ∷ []) ∷
    (14 ∷ 11 ∷ 2 ∷ 12 ∷ 4 ∷ 7 ∷ 13 ∷ 1 ∷ 5 ∷ 0 ∷ 15 ∷ 10 ∷ 3 ∷ 9 ∷ 8 ∷ 6 ∷ []) ∷
    (4 ∷ 2 ∷ 1 ∷ 11 ∷ 10 ∷ 13 ∷ 7 ∷ 8 ∷ 15 ∷ 9 ∷ 12 ∷ 5 ∷ 6 ∷ 3 ∷ 0 ∷ 14 ∷ []) ∷
    (11 ∷ 8 ∷ 12 ∷ 7 ∷ 1 ∷ 14 ∷ 2 ∷ 13 ∷ 6 ∷ 15 ∷ 0 ∷ 9 ∷ 10 ∷ 4 ∷ 5 ∷ 3 ∷ []) ∷
    []

unfoldable pub S6 : List (List ℕ)
S6 =
    (12 ∷ 1 ∷ 10 ∷ 15 ∷ 9 ∷ 2 ∷ 6 ∷ 8 ∷ 0 ∷ 13 ∷ 3 ∷ 4 ∷ 14 ∷ 7 ∷ 5 ∷ 11 ∷ []) ∷
    (10 ∷ 15 ∷ 4 ∷ 2 ∷ 7 ∷ 12 ∷ 9 ∷ 5 ∷ 6 ∷ 1 ∷ 13 ∷ 14 ∷ 0 ∷ 11 ∷ 3 ∷ 8 ∷ []) ∷
    (9 ∷ 14 ∷ 15 ∷ 5 ∷ 2 ∷ 8 ∷ 12 ∷ 3 ∷ 7 ∷ 0 ∷ 4 ∷ 10 ∷ 1 ∷ 13 ∷ 11 ∷ 6 ∷ []) ∷
    (4 ∷ 3 ∷ 2 ∷ 12 ∷ 9 ∷ 5 ∷ 15 ∷ 10 ∷ 11 ∷ 14 ∷ 1 ∷ 7 ∷ 6 ∷ 0 ∷ 8 ∷ 13 ∷ []) ∷
    []

unfoldable pub S7 : List (List ℕ)
S7 =
    (4 ∷ 11 ∷ 2 ∷ 14 ∷ 15 ∷ 0 ∷ 8 ∷ 13 ∷ 3 ∷ 12 ∷ 9 ∷ 7 ∷ 5 ∷ 10 ∷ 6 ∷ 1 ∷ []) ∷
    (13 ∷ 0 ∷ 11 ∷ 7 ∷ 4 ∷ 9 ∷ 1 ∷ 10 ∷ 14 ∷ 3 ∷ 5 ∷ 12 ∷ 2 ∷ 15 ∷ 8 ∷ 6 ∷ []) ∷
    (1 ∷ 4 ∷ 11 ∷ 13 ∷ 12 ∷ 3 ∷ 7 ∷ 14 ∷ 10 ∷ 15 ∷ 6 ∷ 8 ∷ 0 ∷ 5 ∷ 9 ∷ 2 ∷ []) ∷
    (6 ∷ 11 ∷ 13 ∷ 8 ∷ 1 ∷ 4 ∷ 10 ∷ 7 ∷ 9 ∷ 5 ∷ 0 ∷ 15 ∷ 14 ∷ 2 ∷ 3 ∷ 12 ∷ []) ∷
    []

unfoldable pub S8 : List (List ℕ)
S8 =
    (13 ∷ 2 ∷ 8 ∷ 4 ∷ 6 ∷ 15 ∷ 11 ∷ 1 ∷ 10 ∷ 9 ∷ 3 ∷ 14 ∷ 5 ∷ 0 ∷ 12 ∷ 7 ∷ []) ∷
    (1 ∷ 15 ∷ 13 ∷ 8 ∷ 10 ∷ 3 ∷ 7 ∷ 4 ∷ 12 ∷ 5 ∷ 6 ∷ 11 ∷ 0 ∷ 14 ∷ 9 ∷ 2 ∷ []) ∷
    (7 ∷ 11 ∷ 4 ∷ 1 ∷ 9 ∷ 12 ∷ 14 ∷ 2 ∷ 0 ∷ 6 ∷ 10 ∷ 13 ∷ 15 ∷ 3 ∷ 5 ∷ 8 ∷ []) ∷
    (2 ∷ 1 ∷ 14 ∷ 7 ∷ 4 ∷ 10 ∷ 8 ∷ 13 ∷ 15 ∷ 12 ∷ 9 ∷ 0 ∷ 3 ∷ 5 ∷ 6 ∷ 11 ∷ []) ∷
    []

unfoldable pub boxes : List (List (List ℕ))
boxes = S1 ∷ S2 ∷ S3 ∷ S4 ∷ S5 ∷ S6 ∷ S7 ∷ S8 ∷ []

-- row i of box n, of which the boxes are counted from 1 and the rows from 0
abbrev pub row_of : ℕ → ℕ → List ℕ
row_of n i = get_or (get_or boxes (n - 1) []) i []

-- "The first and last bits of B represent in base 2 a number in the range 0 to 3. Let that number be i."
abbrev pub i_of : ℕ → ℕ
i_of b = b / 32 % 2 * 2 + b % 2

-- "The middle 4 bits of B represent in base 2 a number in the range 0 to 15. Let that number be j."
abbrev pub j_of : ℕ → ℕ
j_of b = b / 2 % 16

-- "Look up in the table the number in the i'th row and j'th column."
unfoldable pub S : ℕ → ℕ → ℕ
S n b = get_or (row_of n (i_of b)) (j_of b) 0

-- "the permutation function P"
unfoldable pub P : List ℕ
P =
    16 ∷ 7 ∷ 20 ∷ 21 ∷
    29 ∷ 12 ∷ 28 ∷ 17 ∷
    1 ∷ 15 ∷ 23 ∷ 26 ∷
    5 ∷ 18 ∷ 31 ∷ 10 ∷
    2 ∷ 8 ∷ 24 ∷ 14 ∷
    32 ∷ 27 ∷ 3 ∷ 9 ∷
    19 ∷ 13 ∷ 30 ∷ 6 ∷
    22 ∷ 11 ∷ 4 ∷ 25 ∷
    []

-- "B1, B2, ..., B8": the blocks of 6 bits of one of 48
abbrev pub B : ℕ → ℕ → ℕ
B n w = w / 2 ^ (48 - 6 * n) % 2 ^ 6

-- "S1(B1) S2(B2) ... S8(B8)": eight blocks of 4 bits on end
abbrev pub substituted : ℕ → ℕ
substituted w =
    S 1 (B 1 w) * 2 ^ 28
    + (S 2 (B 2 w) * 2 ^ 24
    + (S 3 (B 3 w) * 2 ^ 20
    + (S 4 (B 4 w) * 2 ^ 16
    + (S 5 (B 5 w) * 2 ^ 12
    + (S 6 (B 6 w) * 2 ^ 8
    + (S 7 (B 7 w) * 2 ^ 4
    + S 8 (B 8 w)))))))

-- "P(S1(B1) S2(B2) ... S8(B8))", where "B1 B2 ... B8 = K ⊕ E(R)"
unfoldable pub f : ℕ → ℕ → ℕ
f r k = select 32 P (substituted (bit_xor (select 32 E r) k))

-- ---- the key schedule KS

-- "Permuted choice 1": bits 8, 16, ..., 64 of the key are not in it
unfoldable pub PC1 : List ℕ
PC1 =
    57 ∷ 49 ∷ 41 ∷ 33 ∷ 25 ∷ 17 ∷ 9 ∷
    1 ∷ 58 ∷ 50 ∷ 42 ∷ 34 ∷ 26 ∷ 18 ∷
    10 ∷ 2 ∷ 59 ∷ 51 ∷ 43 ∷ 35 ∷ 27 ∷
    19 ∷ 11 ∷ 3 ∷ 60 ∷ 52 ∷ 44 ∷ 36 ∷
    63 ∷ 55 ∷ 47 ∷ 39 ∷ 31 ∷ 23 ∷ 15 ∷
    7 ∷ 62 ∷ 54 ∷ 46 ∷ 38 ∷ 30 ∷ 22 ∷
    14 ∷ 6 ∷ 61 ∷ 53 ∷ 45 ∷ 37 ∷ 29 ∷
    21 ∷ 13 ∷ 5 ∷ 28 ∷ 20 ∷ 12 ∷ 4 ∷
    []

-- "Permuted choice 2"
unfoldable pub PC2 : List ℕ
PC2 =
    14 ∷ 17 ∷ 11 ∷ 24 ∷ 1 ∷ 5 ∷
    3 ∷ 28 ∷ 15 ∷ 6 ∷ 21 ∷ 10 ∷
    23 ∷ 19 ∷ 12 ∷ 4 ∷ 26 ∷ 8 ∷
    16 ∷ 7 ∷ 27 ∷ 20 ∷ 13 ∷ 2 ∷
    41 ∷ 52 ∷ 31 ∷ 37 ∷ 47 ∷ 55 ∷
    30 ∷ 40 ∷ 51 ∷ 45 ∷ 33 ∷ 48 ∷
    44 ∷ 49 ∷ 39 ∷ 56 ∷ 34 ∷ 53 ∷
    46 ∷ 42 ∷ 50 ∷ 36 ∷ 29 ∷ 32 ∷
    []

-- the number of left shifts, iteration after iteration
unfoldable pub shifts : List ℕ
shifts =
    1 ∷ 1 ∷ 2 ∷ 2 ∷ 2 ∷ 2 ∷ 2 ∷ 2 ∷
    1 ∷ 2 ∷ 2 ∷ 2 ∷ 2 ∷ 2 ∷ 2 ∷ 1 ∷
    []

-- "a rotation of the bits ... to the left", of 28 bits by n places
abbrev pub rotated : ℕ → ℕ → ℕ
rotated n c = c * 2 ^ n % 2 ^ 28 + c / 2 ^ (28 - n)

-- the blocks of key bits that C and D give: both are rotated, and permuted choice 2 selects from them
unfoldable pub scheduled : List ℕ → ℕ → ℕ → List ℕ
scheduled [] c d = []
scheduled (n ∷ ns) c d = select 56 PC2 (rotated n c * 2 ^ 28 + rotated n d) ∷ scheduled ns (rotated n c) (rotated n d)

-- KS(1, KEY) to KS(16, KEY), which are K1 to K16: permuted choice 1 gives the first C and D
unfoldable pub KS : ℕ → List ℕ
KS key = scheduled shifts (select 64 PC1 key / 2 ^ 28) (select 64 PC1 key % 2 ^ 28)

-- ---- DES

-- the whole computation with some blocks of key bits: IP, the iterations, the interchange, the inverse of IP
unfoldable pub computed : List ℕ → ℕ → ℕ
computed ks w = select 64 IP⁻¹ (whole (interchanged (iterations f ks (halves (select 64 IP w)))))

abbrev pub encipher : ℕ → ℕ → ℕ
encipher key w = computed (KS key) w

-- "the very same algorithm", the blocks of key bits from the last to the first
abbrev pub decipher : ℕ → ℕ → ℕ
decipher key w = computed (reverse (KS key)) w

-- ---- triple DES

-- "O = EK3(DK2(EK1(I)))"
abbrev pub triple_encipher : ℕ → ℕ → ℕ → ℕ → ℕ
triple_encipher k1 k2 k3 w = encipher k3 (decipher k2 (encipher k1 w))

-- "O = DK1(EK2(DK3(I)))"
abbrev pub triple_decipher : ℕ → ℕ → ℕ → ℕ → ℕ
triple_decipher k1 k2 k3 w = decipher k1 (encipher k2 (decipher k3 w))
