-- What the rows of the boxes promise of each number that is looked up: "each hold every value once in each row".
use Rattle.std.specs.Prelude.{ℕ, ◌+◌, ◌<◌, ◌≡◌, Bool, true, false, List, [], ◌∷◌, eqb}
use Rattle.fips46.specs.Fips46.{S, row_of, i_of}

-- how often a number stands in a list
abbrev one : Bool → ℕ
one true = 1
one false = 0

abbrev pub count : ℕ → List ℕ → ℕ
count v [] = 0
count v (x ∷ xs) = one (eqb x v) + count v xs

-- what box n makes of six bits has four, and stands once in its row
pub record InRow (n b : ℕ) : Type 0 where
  pub four : S n b < 16
  pub once : count (S n b) (row_of n (i_of b)) ≡ 1
