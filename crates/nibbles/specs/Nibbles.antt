-- Rows of nibbles. A row is a list of numbers below 16, from the left. Code holds a row of at most sixteen in a word.
use Rattle.std.specs.Prelude.{ℕ, zero, suc, ◌+◌, ◌*◌, ◌/◌, ◌%◌, List, [], ◌∷◌, Bool, true, false, ◌&&◌, cond, leb, eqb}
use Rattle.std.specs.Int.Bits.{bit_xor}

-- a byte's two nibbles, the high one first, byte after byte
unfoldable pub nibs : List ℕ → List ℕ
nibs [] = []
nibs (b ∷ bs) = b / 16 ∷ b % 16 ∷ nibs bs

-- two nibbles make a byte, the first one high; one alone makes none
unfoldable pub packs : List ℕ → List ℕ
packs [] = []
packs (h ∷ []) = []
packs (h ∷ l ∷ ns) = (h * 16 + l) ∷ packs ns

-- two rows, nibble by nibble, as far as the shorter goes
unfoldable pub xors : List ℕ → List ℕ → List ℕ
xors [] ys = []
xors (x ∷ xs) [] = []
xors (x ∷ xs) (y ∷ ys) = bit_xor x y ∷ xors xs ys

-- the word that holds a row: the first nibble lowest
unfoldable pub word : List ℕ → ℕ
word [] = 0
word (n ∷ ns) = word ns * 16 + n

-- the row of k nibbles that a word holds
unfoldable pub row : ℕ → ℕ → List ℕ
row zero w = []
row (suc k) w = w % 16 ∷ row k (w / 16)

-- a number from low to high
abbrev pub within : ℕ → ℕ → ℕ → Bool
within low high n = leb low n && leb n high

-- every one passes the test
unfoldable pub every : (ℕ → Bool) → List ℕ → Bool
every p [] = true
every p (x ∷ xs) = p x && every p xs

-- those at the beginning that pass the test, up to the first that does not
unfoldable pub leading : (ℕ → Bool) → List ℕ → List ℕ
leading p [] = []
leading p (x ∷ xs) = cond (p x) (x ∷ leading p xs) []

-- two rows are the same
unfoldable pub same : List ℕ → List ℕ → Bool
same [] [] = true
same [] (y ∷ ys) = false
same (x ∷ xs) [] = false
same (x ∷ xs) (y ∷ ys) = eqb x y && same xs ys
