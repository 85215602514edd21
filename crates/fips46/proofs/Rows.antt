-- Each row of each box holds every number from 0 to 15 once: one test over the 512 numbers, carried to what a box makes of six bits.
-- Assumes nothing.
use mathlib.Core.Path.{◌≡◌, refl}
use mathlib.Core.Bool.{Bool, true, ◌&&◌}
use mathlib.Core.Logic.{◌⊎◌, inl, inr}
use mathlib.Core.List.{List, [], ◌∷◌}
use Prim.Native.Nat.{ℕ, zero, suc, ◌-◌, ◌<◌, ◌≤◌}
use native.Mathlib.Nat.{eq-or-lt_of_le, le_of_suc-le-suc}
use native.Mathlib.Omega.{arith}
use lib.Dec.{eqb, ltb}
use lib.ListN.{length, get_or}
use borrow.Author.Tests.{eqb-true, ltb-true}
use Rattle.nibbles.proofs.Lists.{and_left, and_right}
use Rattle.fips46.specs.Fips46.{S1, S2, S3, S4, S5, S6, S7, S8, boxes, row_of, i_of, j_of, S}
use Rattle.fips46.specs.Rows.{count, InRow}

-- every number below n stands there once
abbrev pub once_each : ℕ → List ℕ → Bool
once_each zero row = true
once_each (suc n) row = eqb (count n row) 1 && once_each n row

abbrev all_below : ℕ → List ℕ → Bool
all_below n [] = true
all_below n (x ∷ xs) = ltb x n && all_below n xs

-- sixteen numbers, each below 16, every one of those once
abbrev pub is_row : List ℕ → Bool
is_row row = eqb (length row) 16 && (all_below 16 row && once_each 16 row)

abbrev pub are_rows : List (List ℕ) → Bool
are_rows [] = true
are_rows (row ∷ rows) = is_row row && are_rows rows

-- four such rows
abbrev pub is_box : List (List ℕ) → Bool
is_box rows = eqb (length rows) 4 && are_rows rows

abbrev pub are_boxes : List (List (List ℕ)) → Bool
are_boxes [] = true
are_boxes (b ∷ bs) = is_box b && are_boxes bs

-- the test
pub boxes_hold : are_boxes boxes ≡ true
unfolding boxes S1 S2 S3 S4 S5 S6 S7 S8
boxes_hold = refl

-- ---- it is carried to each number

below_at : (n : ℕ) (xs : List ℕ) → 0 < n → all_below n xs ≡ true → (j : ℕ) → get_or xs j 0 < n
below_at n [] p t j = p
below_at n (x ∷ xs) p t zero = ltb-true x n (and_left (ltb x n) (all_below n xs) t)
below_at n (x ∷ xs) p t (suc j) = below_at n xs p (and_right (ltb x n) (all_below n xs) t) j

pub row_at : (rows : List (List ℕ)) → are_rows rows ≡ true → (i : ℕ) → i < length rows → is_row (get_or rows i []) ≡ true
row_at [] t i h = absurd (omega arith)
row_at (row ∷ rows) t zero h = and_left (is_row row) (are_rows rows) t
row_at (row ∷ rows) t (suc i) h = row_at rows (and_right (is_row row) (are_rows rows) t) i (omega arith)

row_below : (row : List ℕ) → is_row row ≡ true → (j : ℕ) → get_or row j 0 < 16
row_below row t =
    below_at 16 row (omega arith) (and_left (all_below 16 row) (once_each 16 row) (and_right (eqb (length row) 16) (all_below 16 row && once_each 16 row) t))

rows_below : (rows : List (List ℕ)) → are_rows rows ≡ true → (i j : ℕ) → get_or (get_or rows i []) j 0 < 16
rows_below [] t i j = omega arith
rows_below (row ∷ rows) t zero j = row_below row (and_left (is_row row) (are_rows rows) t) j
rows_below (row ∷ rows) t (suc i) j = rows_below rows (and_right (is_row row) (are_rows rows) t) i j

boxes_below : (bs : List (List (List ℕ))) → are_boxes bs ≡ true → (n i j : ℕ) → get_or (get_or (get_or bs n []) i []) j 0 < 16
boxes_below [] t n i j = omega arith
boxes_below (b ∷ bs) t zero i j = rows_below b (and_right (eqb (length b) 4) (are_rows b) (and_left (is_box b) (are_boxes bs) t)) i j
boxes_below (b ∷ bs) t (suc n) i j = boxes_below bs (and_right (is_box b) (are_boxes bs) t) n i j

-- what a box makes of six bits has four
S-below : (n b : ℕ) → S n b < 16
unfolding S
S-below n b = boxes_below boxes boxes_hold (n - 1) (i_of b) (j_of b)

-- ---- and to each row

box_at : (bs : List (List (List ℕ))) → are_boxes bs ≡ true → (n : ℕ) → n < length bs → is_box (get_or bs n []) ≡ true
box_at [] t n h = absurd (omega arith)
box_at (b ∷ bs) t zero h = and_left (is_box b) (are_boxes bs) t
box_at (b ∷ bs) t (suc n) h = box_at bs (and_right (is_box b) (are_boxes bs) t) n (omega arith)

once_at : (n : ℕ) (row : List ℕ) → once_each n row ≡ true → (v : ℕ) → v < n → count v row ≡ 1
once_at zero row t v h = absurd (omega arith)
once_at (suc n) row t v h = choose (eq-or-lt_of_le (le_of_suc-le-suc h)) (λ l. once_at n row (and_right (eqb (count n row) 1) (once_each n row) t) v l)
  where
    choose : (v ≡ n) ⊎ (v < n) → (v < n → count v row ≡ 1) → count v row ≡ 1
    choose (inl e) below = rw e (eqb-true (count n row) 1 (and_left (eqb (count n row) 1) (once_each n row) t))
    choose (inr l) below = below l

-- sixteen numbers, in which each below 16 stands once
module _ (n i : ℕ) (h : 1 ≤ n) (k : n ≤ 8) (hi : i < 4) where
  row_is : is_row (row_of n i) ≡ true
  unfolding boxes
  row_is =
      let box : List (List ℕ) = get_or boxes (n - 1) [] in
      let t : is_box box ≡ true = box_at boxes boxes_hold (n - 1) (omega arith) in
      let four : length box ≡ 4 = eqb-true (length box) 4 (and_left (eqb (length box) 4) (are_rows box) t) in
      row_at box (and_right (eqb (length box) 4) (are_rows box) t) i (omega arith)

  pub row_long : length (row_of n i) ≡ 16
  row_long = eqb-true (length (row_of n i)) 16 (and_left (eqb (length (row_of n i)) 16) (all_below 16 (row_of n i) && once_each 16 (row_of n i)) row_is)

  pub row_once : (v : ℕ) → v < 16 → count v (row_of n i) ≡ 1
  row_once = once_at 16 (row_of n i) (and_right (all_below 16 (row_of n i)) (once_each 16 (row_of n i)) (and_right (eqb (length (row_of n i)) 16) (all_below 16 (row_of n i) && once_each 16 (row_of n i)) row_is))

-- so of what a box makes of six bits
pub in_row : (n b : ℕ) → 1 ≤ n → n ≤ 8 → InRow n b
in_row n b h k = record { four = S-below n b; once = row_once n (i_of b) h k (omega arith) (S n b) (S-below n b) }
