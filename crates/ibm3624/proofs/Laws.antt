-- Differences and offset, place by place.
-- Assumes nothing.
use Prim.Native.Nat.{ℕ, zero, suc, ◌+◌, ◌-◌, ◌≤◌, ◌<◌}
use native.Mathlib.Omega.{arith}
use native.Mathlib.Nat.{not-suc-le-zero, le_of_suc-le-suc, mod-lt}
use mathlib.Core.Path.{◌≡◌, refl, sym, ap, ap₂, ◌∙◌}
use mathlib.Core.List.{List, [], ◌∷◌, map}
use lib.ListN.{length, get_or, length-map, length-drop}
use lib.Seq.{get_or-drop}
use lib.Dec.{lit<}
use lib.IntN.{ℤ, pos, negsuc}
use Rattle.nibbles.specs.Nibbles.{row}
use Rattle.nibbles.proofs.Lists.{Below, below_at}
use Rattle.nibbles.proofs.Rows.{row_length, row_at_less}
use Rattle.nibbles.proofs.Runs.{every_below}
use Rattle.ibm3624.specs.Ibm3624.{difference, differences, modulo_ten, covered, offset_of}
use Rattle.pins.specs.Pins.{last_of}
use Rattle.ibm3624.specs.Answers.{Matched}

-- ---- differences

pub differences_length : (ps qs : List ℕ) → length ps ≡ length qs → length (differences ps qs) ≡ length ps
unfolding differences
differences_length [] qs e = refl
differences_length (p ∷ ps) [] e = absurd (omega arith)
differences_length (p ∷ ps) (q ∷ qs) e = ap suc (differences_length ps qs (omega arith))

pub differences_at : (ps qs : List ℕ) (i : ℕ) (d : ℤ) → i < length ps → i < length qs → get_or (differences ps qs) i d ≡ difference (get_or ps i 0) (get_or qs i 0)
unfolding differences
differences_at [] qs i d h k = absurd (not-suc-le-zero h)
differences_at (p ∷ ps) [] i d h k = absurd (not-suc-le-zero k)
differences_at (p ∷ ps) (q ∷ qs) zero d h k = refl
differences_at (p ∷ ps) (q ∷ qs) (suc i) d h k = differences_at ps qs i d (le_of_suc-le-suc h) (le_of_suc-le-suc k)

-- as many as are covered, of a PIN and a natural PIN of one length
pub covered_many : (m : ℕ) (ps qs : List ℕ) → m ≤ length ps → length qs ≡ length ps → length (covered m ps qs) ≡ m
covered_many m ps qs h l =
    let a = length-drop (length ps - m) ps in
    let b = length-drop (length qs - m) qs in
    let c = differences_length (last_of m ps) (last_of m qs) (omega arith) in
    omega arith

pub offset_many : (m : ℕ) (ps qs : List ℕ) → m ≤ length ps → length qs ≡ length ps → length (offset_of m ps qs) ≡ m
offset_many m ps qs h l = length-map (covered m ps qs) modulo_ten ∙ covered_many m ps qs h l

-- a difference modulo ten is a digit
modulo_ten_lem : (z : ℤ) → modulo_ten z < 10
modulo_ten_lem (pos n) = mod-lt n (lit< tt)
modulo_ten_lem (negsuc n) = omega arith

pub reduced_below : (zs : List ℤ) → Below 10 (map modulo_ten zs)
reduced_below [] = tt
reduced_below (z ∷ zs) = (modulo_ten_lem z, reduced_below zs)

-- ---- the last m of n digits

module _ (m n w : ℕ) (within-it : m ≤ n) where
  pub last_length : length (last_of m (row n w)) ≡ m
  last_length = length-drop (length (row n w) - m) (row n w) ∙ (let l = row_length n w in omega arith)

  pub last_at : (i : ℕ) → i < m → get_or (last_of m (row n w)) i 0 ≡ get_or (row n w) (n - m + i) 0
  last_at i h =
      get_or-drop (length (row n w) - m) (row n w) i 0
      ∙ ap (λ (k : ℕ). get_or (row n w) (k - m + i) 0) (row_length n w)

module _ (m n pin natural : ℕ) (h : Matched m n pin natural) where
  abbrev pub digit_of_pin : ℕ → ℕ
  digit_of_pin i = get_or (row n pin) (n - m + i) 0

  abbrev pub digit_of_natural : ℕ → ℕ
  digit_of_natural i = get_or (row n natural) (n - m + i) 0

  pub covered_length : length (covered m (row n pin) (row n natural)) ≡ m
  covered_length = covered_many m (row n pin) (row n natural) (rw (row_length n pin) h.within) (row_length n natural ∙ sym (row_length n pin))

  pub covered_at : (i : ℕ) → i < m → get_or (covered m (row n pin) (row n natural)) i (pos 0) ≡ difference (digit_of_pin i) (digit_of_natural i)
  covered_at i k =
      differences_at (last_of m (row n pin)) (last_of m (row n natural)) i (pos 0)
      (rw (last_length m n pin h.within) k) (rw (last_length m n natural h.within) k)
      ∙ ap₂ difference (last_at m n pin h.within i k) (last_at m n natural h.within i k)

  pub offset_length : length (offset_of m (row n pin) (row n natural)) ≡ m
  offset_length = length-map (covered m (row n pin) (row n natural)) modulo_ten ∙ covered_length

  pub pin_digit : (i : ℕ) → digit_of_pin i ≤ 9
  pin_digit i = le_of_suc-le-suc (below_at 10 (row n pin) (n - m + i) (lit< tt) (every_below 9 (row n pin) h.digits))

  pub natural_digit : (i : ℕ) → digit_of_natural i ≤ 9
  natural_digit i = le_of_suc-le-suc (below_at 10 (row n natural) (n - m + i) (lit< tt) (every_below 9 (row n natural) h.naturals))

  pub offset_at : (i : ℕ) → i < m → get_or (offset_of m (row n pin) (row n natural)) i 0 ≡ modulo_ten (difference (digit_of_pin i) (digit_of_natural i))
  offset_at i k = mapped (covered m (row n pin) (row n natural)) i (rw covered_length k) ∙ ap modulo_ten (covered_at i k)
    where
      mapped : (zs : List ℤ) (j : ℕ) → j < length zs → get_or (map modulo_ten zs) j 0 ≡ modulo_ten (get_or zs j (pos 0))
      mapped [] j b = absurd (not-suc-le-zero b)
      mapped (z ∷ zs) zero b = refl
      mapped (z ∷ zs) (suc j) b = mapped zs j (le_of_suc-le-suc b)

  pub offset_below : Below 10 (offset_of m (row n pin) (row n natural))
  offset_below = reduced_below (covered m (row n pin) (row n natural))

  -- the nibbles that the code takes are those digits
  pub pin_nibble : (i : ℕ) → i < m → get_or (row 16 pin) (n - m + i) 0 ≡ digit_of_pin i
  pin_nibble i k = row_at_less n pin (n - m + i) (omega (arith, h.within)) (omega (arith, h.short))

  pub natural_nibble : (i : ℕ) → i < m → get_or (row 16 natural) (n - m + i) 0 ≡ digit_of_natural i
  natural_nibble i k = row_at_less n natural (n - m + i) (omega (arith, h.within)) (omega (arith, h.short))
