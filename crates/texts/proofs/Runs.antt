-- Texts one behind the other: their characters, and where each ends.
-- Assumes nothing.
use Prim.Native.Nat.{ℕ, ◌+◌, ◌/◌, ◌%◌}
use native.Mathlib.Omega.{arith}
use mathlib.Core.Path.{◌≡◌, refl, sym, ap, ◌∙◌}
use mathlib.Core.List.{List, [], ◌∷◌, ◌++◌}
use mathlib.Core.Bool.{Bool, true, false, ◌&&◌}
use lib.ListN.{length, take, drop}
use lib.Seq.{take_at, drop_at}
use lib.Dec.{eqb}
use borrow.Author.Tests.{eqb-true}
use Rattle.nibbles.proofs.Lists.{and_left, and_right}
use Rattle.alphabet.specs.Alphabet.{admits, all_of, begins}
use Rattle.alphabet.specs.declared.Class.{Class}
use Rattle.texts.specs.Texts.{as_two_digits}

-- ---- characters of a class

pub all_append : (k : Class) (a b : List ℕ) → all_of k (a ++ b) ≡ (all_of k a && all_of k b)
unfolding all_of
all_append k [] b = refl
all_append k (x ∷ a) b = rw (all_append k a b) (assoc (admits k x) (all_of k a) (all_of k b))
  where
    assoc : (x y z : Bool) → (x && (y && z)) ≡ ((x && y) && z)
    assoc true y z = refl
    assoc false y z = refl

pub all_both : (k : Class) (a b : List ℕ) → all_of k (a ++ b) ≡ true → (all_of k a ≡ true) × (all_of k b ≡ true)
all_both k a b h = let e = sym (all_append k a b) ∙ h in (and_left (all_of k a) (all_of k b) e, and_right (all_of k a) (all_of k b) e)

-- one character, and those behind it
pub all_first : (k : Class) (x : ℕ) (l : List ℕ) → all_of k (x ∷ l) ≡ true → (admits k x ≡ true) × (all_of k l ≡ true)
unfolding all_of
all_first k x l h = (and_left (admits k x) (all_of k l) h, and_right (admits k x) (all_of k l) h)

-- ---- where a text ends

-- characters that begin with a text are the text and what is behind it
pub begins_split : (ts cs : List ℕ) → begins ts cs ≡ true → cs ≡ ts ++ drop (length ts) cs
unfolding begins
begins_split [] cs h = refl
begins_split (t ∷ ts) [] h = absurd (let z : ◌≡◌ {A = ℕ} 0 1 = cc in omega arith)
begins_split (t ∷ ts) (c ∷ cs) h =
    let same : t ≡ c = eqb-true t c (and_left (eqb t c) (begins ts cs) h) in
    let next = begins_split ts cs (and_right (eqb t c) (begins ts cs) h) in
    cc

-- two texts of one length, and what is behind them
pub fronts : (n : ℕ) (a b c d : List ℕ) → length a ≡ n → length b ≡ n → a ++ c ≡ b ++ d → (a ≡ b) × (c ≡ d)
fronts n a b c d l m e = (sym (take_at a c n l) ∙ ap (take n) e ∙ take_at b d n m, sym (drop_at a c n l) ∙ ap (drop n) e ∙ drop_at b d n m)

-- two digits tell their number
pub two_told : (v w : ℕ) (c d : List ℕ) → as_two_digits v ++ c ≡ as_two_digits w ++ d → (v ≡ w) × (c ≡ d)
two_told v w c d e =
    let p : 0x30 + v / 10 ≡ 0x30 + w / 10 = cc in
    let q : 0x30 + v % 10 ≡ 0x30 + w % 10 = cc in
    (omega arith, cc)
