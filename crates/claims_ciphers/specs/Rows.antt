-- "The DES boxes, 512 numbers, must each hold every value once in each row": of what a box makes of six bits.
use Rattle.std.specs.Prelude.{ℕ, ◌+◌, ◌*◌, ◌/◌, ◌%◌, ◌≤◌, ◌<◌, ◌≡◌}
use Rattle.fips46.specs.Fips46.{S}

-- the six bits of row i and column j: the first and the last are i, the middle four j
abbrev pub six_bits : ℕ → ℕ → ℕ
six_bits i j = i / 2 * 32 + j * 2 + i % 2

-- one column and no other has a value in a row of box n
pub record OneColumn (n i v : ℕ) : Type 0 where
  pub column : ℕ
  pub inside : column < 16
  pub holds : S n (six_bits i column) ≡ v
  pub alone : (j : ℕ) → j < 16 → S n (six_bits i j) ≡ v → j ≡ column

-- boxes are counted from 1, as FIPS 46-3 counts them, rows and columns from 0
abbrev pub RowsHoldEach : Type 0
RowsHoldEach = (n i v : ℕ) → 1 ≤ n → n ≤ 8 → i < 4 → v < 16 → OneColumn n i v
