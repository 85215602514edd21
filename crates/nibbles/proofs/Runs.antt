-- Laws of tests on nibbles, of every one of a list, and of the run at its beginning.
-- Assumes nothing.
use Prim.Native.Nat.{ℕ, zero, suc, ◌+◌, ◌-◌, ◌≤◌, ◌<◌, zero-le, suc-le-suc}
use native.Mathlib.Nat.{le_of_suc-le-suc, not-suc-le-zero}
use native.Mathlib.Omega.{arith}
use native.Mathlib.Numerals.{add-one}
use mathlib.Core.Path.{◌≡◌, refl, sym, ap, ◌∙◌}
use mathlib.Core.List.{List, [], ◌∷◌}
use mathlib.Core.Bool.{Bool, true, false, ◌&&◌, cond, and-false}
use lib.ListN.{length, get_or, take, drop}
use lib.Seq.{drop-cons, slice, slice-cons, slice_empty, length-slice, drop-length}
use lib.Dec.{leb, eqb, eqb-suc-suc, eqb-zero-suc}
use borrow.Author.Tests.{lt-leb, le-leb, leb-true, eq-eqb, ne_eqb}
use Rattle.nibbles.specs.Nibbles.{every, leading, within}
use Rattle.nibbles.proofs.Lists.{Below, and_left, and_right}

pub under : (low high n : ℕ) → n < low → within low high n ≡ false
under low high n h = rw (lt-leb low n h)

pub over : (low high n : ℕ) → high < n → within low high n ≡ false
over low high n h = rw (lt-leb n high h) (and-false (leb low n))

pub inside : (low high n : ℕ) → low ≤ n → n ≤ high → within low high n ≡ true
inside low high n h k = rw (le-leb low n h) (le-leb n high k)

pub inside_low : (low high n : ℕ) → within low high n ≡ true → low ≤ n
inside_low low high n h = leb-true low n (and_left (leb low n) (leb n high) h)

pub inside_high : (low high n : ℕ) → within low high n ≡ true → n ≤ high
inside_high low high n h = leb-true n high (and_right (leb low n) (leb n high) h)

-- a number that is not k is not from k to k
pub not_f : (k : ℕ) {n : ℕ} → (n ≡ k → ⊥) → within k k n ≡ false
not_f k {n} h = go (within k k n) refl
  where
    go : (b : Bool) → within k k n ≡ b → b ≡ false
    go true e = absurd (h (let l = inside_low k k n e in let g = inside_high k k n e in omega arith))
    go false e = refl

-- ---- those at the beginning

pub leading_le : (p : ℕ → Bool) (xs : List ℕ) → length (leading p xs) ≤ length xs
unfolding leading
leading_le p [] = zero-le
leading_le p (x ∷ xs) = go (leading_le p xs) (p x)
  where
    go : length (leading p xs) ≤ length xs → (b : Bool) → length (cond b (x ∷ leading p xs) []) ≤ suc (length xs)
    go h true = suc-le-suc h
    go h false = zero-le

-- what stands at the beginning is a part of it
pub leading_take : (p : ℕ → Bool) (xs : List ℕ) → leading p xs ≡ take (length (leading p xs)) xs
unfolding leading
leading_take p [] = refl
leading_take p (x ∷ xs) = go (leading_take p xs) (p x)
  where
    go : leading p xs ≡ take (length (leading p xs)) xs → (b : Bool) → cond b (x ∷ leading p xs) [] ≡ take (length (cond b (x ∷ leading p xs) [])) (x ∷ xs)
    go h true = ap (λ (l : List ℕ). x ∷ l) h
    go h false = refl

-- ---- every one

pub every_leading : (p : ℕ → Bool) (xs : List ℕ) → every p xs ≡ eqb (length (leading p xs)) (length xs)
unfolding every leading
every_leading p [] = refl
every_leading p (x ∷ xs) = go (every_leading p xs) (p x)
  where
    go : every p xs ≡ eqb (length (leading p xs)) (length xs) → (b : Bool) → (b && every p xs) ≡ eqb (length (cond b (x ∷ leading p xs) [])) (suc (length xs))
    go h true = h ∙ sym (eqb-suc-suc (length (leading p xs)) (length xs))
    go h false = sym (eqb-zero-suc (length xs))

pub every_at : (p : ℕ → Bool) (xs : List ℕ) (i : ℕ) → i < length xs → p (get_or xs i 0) ≡ false → every p xs ≡ false
unfolding every
every_at p [] i h e = absurd (not-suc-le-zero h)
every_at p (x ∷ xs) zero h e = rw e
every_at p (x ∷ xs) (suc i) h e = rw (every_at p xs i (le_of_suc-le-suc h) e) (and-false (p x))

-- one more in front
pub every_next : (p : ℕ → Bool) (xs : List ℕ) (i : ℕ) → 0 < i → i ≤ length xs → every p (drop i xs) ≡ true → p (get_or xs (i - 1) 0) ≡ true → every p (drop (i - 1) xs) ≡ true
unfolding every
every_next p xs i some here e h =
    let s : suc (i - 1) ≡ i = omega arith in
    rw (drop-cons xs (i - 1) 0 (omega arith), h) (ap (λ (k : ℕ). every p (drop k xs)) s ∙ e)

pub every_none : (p : ℕ → Bool) (xs : List ℕ) → every p (drop (length xs) xs) ≡ true
unfolding every
every_none p xs = rw (drop-length xs)

module _ (p : ℕ → Bool) (ns : List ℕ) (i : ℕ) (h : i < length ns) where
  pub every_stop : p (get_or ns i 0) ≡ false → every p (drop i ns) ≡ false
  unfolding every
  every_stop e = rw (drop-cons ns i 0 h, e)

  pub every_on : p (get_or ns i 0) ≡ true → every p (drop i ns) ≡ every p (drop (i + 1) ns)
  unfolding every
  every_on e = rw (drop-cons ns i 0 h, e, add-one i)

-- numbers that pass a test with a greatest one are below what follows it
pub every_below : (high : ℕ) (xs : List ℕ) → every (within 0 high) xs ≡ true → Below (suc high) xs
unfolding every
every_below high [] e = tt
every_below high (x ∷ xs) e = (
  suc-le-suc (inside_high 0 high x (and_left (within 0 high x) (every (within 0 high) xs) e)),
  every_below high xs (and_right (within 0 high x) (every (within 0 high) xs) e),
)

pub below_every : (high : ℕ) (xs : List ℕ) → Below (suc high) xs → every (within 0 high) xs ≡ true
unfolding every
below_every high [] b = refl
below_every high (x ∷ xs) b = rw (inside 0 high x zero-le (le_of_suc-le-suc b.0)) (below_every high xs b.1)

-- ---- a run in a part of a row

module _ (p : ℕ → Bool) (ns : List ℕ) where
  -- the run ends here
  pub run_stop : (i to : ℕ) → i < to → to ≤ length ns → p (get_or ns i 0) ≡ false → length (leading p (slice i to ns)) ≡ 0
  unfolding leading
  run_stop i to h k e = rw (slice-cons i to ns 0 h k, e)

  -- the run goes on
  pub run_on : (i to : ℕ) → i < to → to ≤ length ns → p (get_or ns i 0) ≡ true → length (leading p (slice i to ns)) ≡ suc (length (leading p (slice (i + 1) to ns)))
  unfolding leading
  run_on i to h k e = rw (slice-cons i to ns 0 h k, e, add-one i)

  pub run_over : (to : ℕ) → length (leading p (slice to to ns)) ≡ 0
  unfolding leading
  run_over to = rw (slice_empty to ns)

module _ (p : ℕ → Bool) (ns : List ℕ) (from to : ℕ) (order : from ≤ to) (here : to ≤ length ns) where
  -- the run from a place on goes to the end of the part: every one of the part passes
  pub run_whole : to ≤ from + length (leading p (slice from to ns)) → every p (slice from to ns) ≡ true
  run_whole h =
      every_leading p (slice from to ns)
      ∙ eq-eqb (length (leading p (slice from to ns))) (length (slice from to ns))
      (let s = leading_le p (slice from to ns) in let l = length-slice from to ns here in omega arith)

  pub run_broken : from + length (leading p (slice from to ns)) < to → every p (slice from to ns) ≡ false
  run_broken h =
      every_leading p (slice from to ns)
      ∙ ne_eqb (length (leading p (slice from to ns))) (length (slice from to ns)) (λ e. let l = length-slice from to ns here in omega arith)
