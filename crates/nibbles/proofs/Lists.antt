-- Laws of lists of numbers: bounds, maps, what is written into a buffer, and lists that are the same.
-- Assumes nothing.
use Prim.Native.Nat.{ℕ, zero, suc, ◌+◌, ◌≤◌, ◌<◌}
use native.Mathlib.Nat.{le_of_suc-le-suc, not-suc-le-zero, zero-add}
use native.Mathlib.Omega.{arith}
use native.Mathlib.Numerals.{add-one}
use mathlib.Core.Path.{◌≡◌, refl, ap, ap₂, ◌∙◌}
use mathlib.Core.List.{List, [], ◌∷◌, ◌++◌, map}
use mathlib.Core.Bool.{Bool, true, false, ◌&&◌, false≢true}
use lib.ListN.{length, get_or, take, drop, set, length-append, length-drop}
use lib.Seq.{paste-suc, length-take-le, take_all}
use lib.Dec.{eqb}
use borrow.Author.Tests.{eq-eqb, eqb-true}
use Rattle.nibbles.specs.Nibbles.{same}

-- every one is below m
abbrev pub Below : ℕ → List ℕ → Type 0
Below m [] = Unit {0}
Below m (x ∷ xs) = (x < m) × Below m xs

pub below_at : (m : ℕ) (ns : List ℕ) (i : ℕ) → 0 < m → Below m ns → get_or ns i 0 < m
below_at m [] i p b = p
below_at m (n ∷ ns) zero p b = b.0
below_at m (n ∷ ns) (suc i) p b = below_at m ns i p b.1

pub below_each : (m : ℕ) (ns : List ℕ) → ((i : ℕ) → get_or ns i 0 < m) → Below m ns
below_each m [] h = tt
below_each m (n ∷ ns) h = (h 0, below_each m ns (λ i. h (suc i)))

pub below_drop : (m k : ℕ) (ns : List ℕ) → Below m ns → Below m (drop k ns)
below_drop m zero ns b = b
below_drop m (suc k) [] b = tt
below_drop m (suc k) (n ∷ ns) b = below_drop m k ns b.1

pub below_take : (m k : ℕ) (xs : List ℕ) → Below m xs → Below m (take k xs)
below_take m zero xs b = tt
below_take m (suc k) [] b = tt
below_take m (suc k) (x ∷ xs) b = (b.0, below_take m k xs b.1)

pub below_weaken : (m n : ℕ) (xs : List ℕ) → m ≤ n → Below m xs → Below n xs
below_weaken m n [] h b = tt
below_weaken m n (x ∷ xs) h b = (let s = b.0 in omega arith, below_weaken m n xs h b.1)

pub below_append : (m : ℕ) (xs ys : List ℕ) → Below m xs → Below m ys → Below m (xs ++ ys)
below_append m [] ys b c = c
below_append m (x ∷ xs) ys b c = (b.0, below_append m xs ys b.1 c)

pub map_at : (f : ℕ → ℕ) (xs : List ℕ) (i d e : ℕ) → i < length xs → get_or (map f xs) i d ≡ f (get_or xs i e)
map_at f [] i d e h = absurd (not-suc-le-zero h)
map_at f (x ∷ xs) zero d e h = refl
map_at f (x ∷ xs) (suc i) d e h = map_at f xs i d e (le_of_suc-le-suc h)

pub map_below : (m : ℕ) (f : ℕ → ℕ) → ((x : ℕ) → f x < m) → (xs : List ℕ) → Below m (map f xs)
map_below m f h [] = tt
map_below m f h (x ∷ xs) = (h x, map_below m f h xs)

-- ---- a buffer that is written from its beginning, element after element

pub over_suc : {A : Type 0} (ws d : List A) (j : ℕ) (z : A) → j < length ws → j < length d → set (take j ws ++ drop j d) j (get_or ws j z) ≡ take (suc j) ws ++ drop (suc j) d
over_suc ws d j z p q = simp zero-add at (paste-suc d 0 ws j z (rw (zero-add j) q) p)

pub over_length : {A : Type 0} (ws d : List A) (j : ℕ) → j ≤ length ws → j ≤ length d → length (take j ws ++ drop j d) ≡ length d
over_length ws d j p q = simp (length-append, length-take-le j ws p, length-drop) (omega arith)

-- one more element is stored
pub over_step : {A : Type 0} (ws d out : List A) (i : ℕ) (v z : A) → i < length ws → i < length d → out ≡ take i ws ++ drop i d → v ≡ get_or ws i z → set out i v ≡ take (i + 1) ws ++ drop (i + 1) d
over_step ws d out i v z p q e k = rw (e, k, add-one i) (over_suc ws d i z p q)

-- all of them are
pub over_end : {A : Type 0} (ws d out : List A) (i n : ℕ) → length ws ≡ n → n ≤ i → i ≤ n → out ≡ take i ws ++ drop i d → out ≡ ws ++ drop n d
over_end ws d out i n l p q e =
    let s : i ≡ n = omega arith in
    e ∙ ap (λ (m : ℕ). take m ws ++ drop m d) s ∙ ap (λ (xs : List _). xs ++ drop n d) (take_all n ws (omega arith))

-- ---- lists that are the same

pub and_left : (a b : Bool) → (a && b) ≡ true → a ≡ true
and_left true b h = refl
and_left false b h = h

pub and_right : (a b : Bool) → (a && b) ≡ true → b ≡ true
and_right true b h = h
and_right false b h = absurd (false≢true h)

pub same_refl : (xs : List ℕ) → same xs xs ≡ true
unfolding same
same_refl [] = refl
same_refl (x ∷ xs) = rw (eq-eqb x x refl) (same_refl xs)

pub same_true : (xs ys : List ℕ) → same xs ys ≡ true → xs ≡ ys
unfolding same
same_true [] [] e = refl
same_true [] (y ∷ ys) e = absurd (false≢true e)
same_true (x ∷ xs) [] e = absurd (false≢true e)
same_true (x ∷ xs) (y ∷ ys) e =
    ap₂ (λ (z : ℕ) (zs : List ℕ). z ∷ zs) (eqb-true x y (and_left (eqb x y) (same xs ys) e)) (same_true xs ys (and_right (eqb x y) (same xs ys) e))

pub same_false : (xs ys : List ℕ) → (xs ≡ ys → ⊥) → same xs ys ≡ false
same_false xs ys h = go (same xs ys) refl
  where
    go : (b : Bool) → same xs ys ≡ b → b ≡ false
    go true e = absurd (h (same_true xs ys e))
    go false e = refl
