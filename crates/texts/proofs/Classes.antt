-- The classes admit the characters that are printed.
-- Assumes nothing.
use Prim.Native.Nat.{ℕ, zero, suc, ◌+◌, ◌≤◌, ◌<◌}
use native.Mathlib.Omega.{arith}
use mathlib.Core.Path.{◌≡◌, refl, ap, ◌∙◌}
use mathlib.Core.Logic.{◌⊎◌, inl, inr}
use mathlib.Core.List.{List, [], ◌∷◌, ◌++◌}
use mathlib.Core.Bool.{Bool, true, false, ◌||◌}
use lib.Dec.{leb, eqb}
use borrow.Author.Tests.{leb-true, eqb-true, eqb-false}
use Rattle.nibbles.proofs.Lists.{and_left, and_right}
use Rattle.alphabet.specs.Alphabet.{between, admits, all_of}
use Rattle.alphabet.specs.declared.Class.{Class}
use Rattle.alphabet.specs.declared.Class.TheVariants.{Digit, CapitalHex, Printable}
use Rattle.texts.specs.Characters.{OneOf}
use Rattle.texts.specs.Classes.{MadeOf, ClassesPrinted}
use Rattle.texts.proofs.Runs.{all_first}

-- so many characters from a first one
from : ℕ → ℕ → List ℕ
from low zero = []
from low (suc n) = low ∷ from (suc low) n

-- one of them is every character from the first to the last
in_range : (low n c : ℕ) → low ≤ c → c < low + n → OneOf c (from low n)
unfolding from
in_range low zero c l h = absurd (omega arith)
in_range low (suc n) c l h = by_test (eqb c low) refl (λ k. in_range (suc low) n c k (omega arith))
  where
    by_test : (b : Bool) → eqb c low ≡ b → (suc low ≤ c → OneOf c (from (suc low) n)) → (c ≡ low) ⊎ OneOf c (from (suc low) n)
    by_test true e next = inl (eqb-true c low e)
    by_test false e next = inr (next (let d = eqb-false c low e in omega arith))

range_only : (low high n c : ℕ) → high + 1 ≡ low + n → between low high c ≡ true → OneOf c (from low n)
range_only low high n c e h =
    let l = leb-true low c (and_left (leb low c) (leb c high) h) in
    let k = leb-true c high (and_right (leb low c) (leb c high) h) in
    in_range low n c l (omega arith)

in_left : (c : ℕ) (xs ys : List ℕ) → OneOf c xs → OneOf c (xs ++ ys)
in_left c [] ys o = absurd o
in_left c (x ∷ xs) ys (inl e) = inl e
in_left c (x ∷ xs) ys (inr o) = inr (in_left c xs ys o)

in_right : (c : ℕ) (xs ys : List ℕ) → OneOf c ys → OneOf c (xs ++ ys)
in_right c [] ys o = o
in_right c (x ∷ xs) ys o = inr (in_right c xs ys o)

-- a list of characters that are all of the class
pub one_admitted : (k : Class) (c : ℕ) (cs : List ℕ) → all_of k cs ≡ true → OneOf c cs → admits k c ≡ true
one_admitted k c [] h o = absurd o
one_admitted k c (x ∷ cs) h (inl e) = ap (admits k) e ∙ (all_first k x cs h).0
one_admitted k c (x ∷ cs) h (inr o) = one_admitted k c cs (all_first k x cs h).1 o

hex_only : (c : ℕ) → admits CapitalHex c ≡ true → OneOf c (from 0x30 10 ++ from 0x41 6)
hex_only c h = by_test (between 0x30 0x39 c) refl h
  where
    by_test : (b : Bool) → between 0x30 0x39 c ≡ b → (b || between 0x41 0x46 c) ≡ true → OneOf c (from 0x30 10 ++ from 0x41 6)
    by_test true e h = in_left c (from 0x30 10) (from 0x41 6) (range_only 0x30 0x39 10 c refl e)
    by_test false e h = in_right c (from 0x30 10) (from 0x41 6) (range_only 0x41 0x46 6 c refl h)

-- character by character
made_of : (k : Class) (chars : List ℕ) → ((c : ℕ) → admits k c ≡ true → OneOf c chars) → (cs : List ℕ) → all_of k cs ≡ true → MadeOf chars cs
made_of k chars one [] h = tt
made_of k chars one (c ∷ cs) h = let f = all_first k c cs h in (one c f.0, made_of k chars one cs f.1)

all_of_lem : (k : Class) (chars : List ℕ) → ((c : ℕ) → OneOf c chars → admits k c ≡ true) → (cs : List ℕ) → MadeOf chars cs → all_of k cs ≡ true
unfolding all_of
all_of_lem k chars one [] m = refl
all_of_lem k chars one (c ∷ cs) m = rw (one c m.0) (all_of_lem k chars one cs m.1)

pub classes_printed : ClassesPrinted
unfolding from all_of
classes_printed = (
  λ cs. (made_of Digit (from 0x30 10) (λ c. range_only 0x30 0x39 10 c refl) cs, all_of_lem Digit (from 0x30 10) (λ c. one_admitted Digit c (from 0x30 10) refl) cs),
  λ cs. (made_of CapitalHex (from 0x30 10 ++ from 0x41 6) hex_only cs, all_of_lem CapitalHex (from 0x30 10 ++ from 0x41 6) (λ c. one_admitted CapitalHex c (from 0x30 10 ++ from 0x41 6) refl) cs),
  λ cs. (made_of Printable (from 0x20 95) (λ c. range_only 0x20 0x7E 95 c refl) cs, all_of_lem Printable (from 0x20 95) (λ c. one_admitted Printable c (from 0x20 95) refl) cs),
)
