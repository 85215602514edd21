-- Laws of runs, tests on every element, and parts of a list.
-- Assumes nothing.
use Prim.Native.Nat.{ℕ, zero, suc, ◌+◌, ◌≤◌, ◌<◌}
use native.Mathlib.Nat.{not-suc-le-zero, le_of_suc-le-suc}
use native.Mathlib.Omega.{arith}
use mathlib.Core.Path.{◌≡◌, refl, ap, ◌∙◌}
use mathlib.Core.List.{List, [], ◌∷◌, ◌++◌, map}
use mathlib.Core.Bool.{Bool, true, false, cond}
use lib.ListN.{length, get_or, take, drop, length-append, take-append-drop}
use lib.Seq.{slice, take_at, drop_at, take_all, take-take}
use lib.Bits.{bit_xor, xor_lt}
use Rattle.nibbles.specs.Nibbles.{xors, within, every, leading}
use Rattle.nibbles.proofs.Lists.{and_left, and_right}
use Rattle.nibbles.proofs.Runs.{inside, inside_high}

module _ (p : ℕ → Bool) where
  pub every_drop : (k : ℕ) (ns : List ℕ) → every p ns ≡ true → every p (drop k ns) ≡ true
  unfolding every
  every_drop zero ns h = h
  every_drop (suc k) [] h = refl
  every_drop (suc k) (n ∷ ns) h = every_drop k ns (and_right (p n) (every p ns) h)

  -- the first of those that pass
  pub every_first : (ns : List ℕ) (z : ℕ) → 0 < length ns → every p ns ≡ true → p (get_or ns 0 z) ≡ true
  unfolding every
  every_first [] z h k = absurd (not-suc-le-zero h)
  every_first (n ∷ ns) z h k = and_left (p n) (every p ns) k

  -- a run ends where the test fails
  pub run_ends : (ns : List ℕ) (z : ℕ) → length (leading p ns) < length ns → p (get_or ns (length (leading p ns)) z) ≡ false
  unfolding leading
  run_ends [] z h = absurd (not-suc-le-zero h)
  run_ends (n ∷ ns) z h = go (p n) refl (run_ends ns z) h
    where
      Ends : List ℕ → List ℕ → Type 0
      Ends ms run = length run < length ms → p (get_or ms (length run) z) ≡ false

      go : (t : Bool) → p n ≡ t → Ends ns (leading p ns) → Ends (n ∷ ns) (cond t (n ∷ leading p ns) [])
      go true e rest l = rest (le_of_suc-le-suc l)
      go false e rest l = e

  -- and what passes is the run where the next does not
  pub run_is : (ms ns : List ℕ) → every p ms ≡ true → p (get_or ns 0 0) ≡ false → leading p (ms ++ ns) ≡ ms
  unfolding every leading
  run_is [] [] h k = refl
  run_is [] (n ∷ ns) h k = rw k
  run_is (m ∷ ms) ns h k = rw (and_left (p m) (every p ms) h) (ap (λ (xs : List ℕ). m ∷ xs) (run_is ms ns (and_right (p m) (every p ms) h) k))

  -- or nothing is left
  pub run_all : (ns : List ℕ) → every p ns ≡ true → leading p ns ≡ ns
  unfolding every leading
  run_all [] h = refl
  run_all (n ∷ ns) h = rw (and_left (p n) (every p ns) h) (ap (λ (xs : List ℕ). n ∷ xs) (run_all ns (and_right (p n) (every p ns) h)))

-- a test on what is made of those that pass another
pub every_map : (p q : ℕ → Bool) (g : ℕ → ℕ) → ((n : ℕ) → p n ≡ true → q (g n) ≡ true) → (ns : List ℕ) → every p ns ≡ true → every q (map g ns) ≡ true
unfolding every
every_map p q g h [] k = refl
every_map p q g h (n ∷ ns) k = rw (h n (and_left (p n) (every p ns) k)) (every_map p q g h ns (and_right (p n) (every p ns) k))

pub every_wider : (p q : ℕ → Bool) → ((n : ℕ) → p n ≡ true → q n ≡ true) → (ns : List ℕ) → every p ns ≡ true → every q ns ≡ true
unfolding every
every_wider p q h [] k = refl
every_wider p q h (n ∷ ns) k = rw (h n (and_left (p n) (every p ns) k)) (every_wider p q h ns (and_right (p n) (every p ns) k))

-- the parts of what is put together of three
module _ (l m r : List ℕ) (i j : ℕ) (left : length l ≡ i) (middle : length m ≡ j) where
  joined : length (l ++ m) ≡ i + j
  joined = length-append l m ∙ omega arith

  pub middle_is : slice i (i + j) (l ++ m ++ r) ≡ m
  middle_is = ap (drop i) (take_at (l ++ m) r (i + j) joined) ∙ drop_at l m i left

  pub behind_is : drop (i + j) (l ++ m ++ r) ≡ r
  behind_is = drop_at (l ++ m) r (i + j) joined

  pub rest_is : (k : ℕ) → length (l ++ m ++ r) ≤ k → slice (i + j) k (l ++ m ++ r) ≡ r
  rest_is k h = ap (drop (i + j)) (take_all k (l ++ m ++ r) h) ∙ behind_is

-- and a list is put together of its three parts
pub three_parts : (i j k : ℕ) (ns : List ℕ) → length ns ≤ k → take i ns ++ slice i (i + j) ns ++ slice (i + j) k ns ≡ ns
three_parts i j k ns h =
    let front : i ≤ i + j = omega arith in
    rw (take_all k ns h, ← take-take i (i + j) ns front, take-append-drop i (take (i + j) ns)) (take-append-drop (i + j) ns)

pub drop_map : (g : ℕ → ℕ) (k : ℕ) (ns : List ℕ) → drop k (map g ns) ≡ map g (drop k ns)
drop_map g zero ns = refl
drop_map g (suc k) [] = refl
drop_map g (suc k) (n ∷ ns) = drop_map g k ns

-- ---- two rows, nibble by nibble

pub xors_length : (xs ys : List ℕ) → length xs ≡ length ys → length (xors xs ys) ≡ length xs
unfolding xors
xors_length [] ys h = refl
xors_length (x ∷ xs) [] h = absurd (omega arith)
xors_length (x ∷ xs) (y ∷ ys) h = ap suc (xors_length xs ys (omega arith))

xor_nibble : (x y : ℕ) → within 0 15 x ≡ true → within 0 15 y ≡ true → within 0 15 (bit_xor x y) ≡ true
xor_nibble x y h k =
    let p = inside_high 0 15 x h in
    let q = inside_high 0 15 y k in
    let r : bit_xor x y < 16 = xor_lt 4 x y (omega arith) (omega arith) in
    inside 0 15 (bit_xor x y) (omega arith) (omega arith)

pub xors_nibbles : (xs ys : List ℕ) → every (within 0 15) xs ≡ true → every (within 0 15) ys ≡ true → every (within 0 15) (xors xs ys) ≡ true
unfolding xors every
xors_nibbles [] ys h k = refl
xors_nibbles (x ∷ xs) [] h k = refl
xors_nibbles (x ∷ xs) (y ∷ ys) h k =
    let p = within 0 15 in
    rw (xor_nibble x y (and_left (p x) (every p xs) h) (and_left (p y) (every p ys) k))
    (xors_nibbles xs ys (and_right (p x) (every p xs) h) (and_right (p y) (every p ys) k))
