-- The laws of the search for a PIN on the weak list.
-- Assumes nothing.
use Prim.Native.Nat.{ℕ, zero, suc, ◌+◌, ◌-◌, ◌*◌, ◌%◌, ◌≤◌, ◌<◌}
use native.Mathlib.Nat.{suc-mul}
use native.Mathlib.Omega.{arith}
use mathlib.Core.Path.{◌≡◌, refl, sym, ap, ◌∙◌}
use mathlib.Core.List.{List, [], ◌∷◌, map}
use mathlib.Core.Bool.{Bool, true, false}
use lib.ListN.{length, take, drop, length-map, length-drop}
use lib.Seq.{length-take-le}
use lib.Dec.{leb, eqb}
use borrow.Author.Tests.{eq-eqb, ne_eqb, eqb-true, eqb-false, leb-true, lt-leb}
use Rattle.nibbles.specs.Nibbles.{same}
use Rattle.nibbles.proofs.Lists.{and_left, and_right, same_false}
use Rattle.alphabet.specs.Alphabet.{admits, all_of, begins, characters, value_of}
use Rattle.alphabet.specs.declared.Class.TheVariants.{Digit}
use Rattle.weak.specs.Weak.{entries, is_on}
use Rattle.weak.specs.Answers.{lists}

-- ---- an entry and a PIN

-- a digit is the character's where the character is the digit's
digit_at : (d c : ℕ) → admits Digit c ≡ true → eqb (0x30 + d) c ≡ eqb d (value_of c)
unfolding value_of
digit_at d c e =
    let low = leb-true 0x30 c (and_left (leb 0x30 c) (leb c 0x39) e) in
    let high = leb-true c 0x39 (and_right (leb 0x30 c) (leb c 0x39) e) in
    rw (lt-leb 0x41 c (omega arith)) (go low high (eqb (0x30 + d) c) refl)
  where
    go : 0x30 ≤ c → c ≤ 0x39 → (b : Bool) → eqb (0x30 + d) c ≡ b → b ≡ eqb d ((c - 0x30) % 16)
    go low high true h = let same = eqb-true (0x30 + d) c h in sym (eq-eqb d ((c - 0x30) % 16) (omega arith))
    go low high false h = sym (ne_eqb d ((c - 0x30) % 16) (λ e. eqb-false (0x30 + d) c h (omega arith)))

-- the PIN's characters stand where the entry's digits are the PIN's
pub entry_there : (ds cs : List ℕ) → length ds ≤ length cs → all_of Digit (take (length ds) cs) ≡ true → begins (characters ds) cs ≡ same ds (map value_of (take (length ds) cs))
unfolding all_of begins same
entry_there [] cs h e = refl
entry_there (d ∷ ds) [] h e = refl
entry_there (d ∷ ds) (c ∷ cs) h e =
    rw (digit_at d c (and_left (admits Digit c) (all_of Digit (take (length ds) cs)) e), entry_there ds cs (omega arith) (and_right (admits Digit c) (all_of Digit (take (length ds) cs)) e))

-- digits that are some of digits
digits_within : (m j n : ℕ) (cs : List ℕ) → j + n ≤ m → all_of Digit (take m cs) ≡ true → all_of Digit (take n (drop j cs)) ≡ true
unfolding all_of
digits_within m j zero cs h e = refl
digits_within zero zero (suc n) cs h e = absurd (omega arith)
digits_within (suc m) zero (suc n) [] h e = refl
digits_within (suc m) zero (suc n) (c ∷ cs) h e =
    rw (and_left (admits Digit c) (all_of Digit (take m cs)) e) (digits_within m zero n cs (omega arith) (and_right (admits Digit c) (all_of Digit (take m cs)) e))
digits_within zero (suc j) (suc n) cs h e = absurd (omega arith)
digits_within (suc m) (suc j) (suc n) [] h e = refl
digits_within (suc m) (suc j) (suc n) (c ∷ cs) h e = digits_within m j (suc n) cs (omega arith) (and_right (admits Digit c) (all_of Digit (take m cs)) e)

-- ---- whether a PIN is on the list

module _ (text : List ℕ) (k n i : ℕ) (cs : List ℕ) where
  -- the text stands at the next place
  pub lists_here : i < k → begins text cs ≡ true → lists text (k - i) n cs ≡ true
  unfolding lists
  lists_here h e = let next : k - i ≡ suc (k - (i + 1)) = omega arith in rw (next, e)

  -- it does not, and the rest of the places decides
  pub lists_next : i < k → begins text cs ≡ false → lists text (k - i) n cs ≡ lists text (k - (i + 1)) n (drop n cs)
  unfolding lists
  lists_next h e = let next : k - i ≡ suc (k - (i + 1)) = omega arith in rw (next, e)

  -- no place is left
  pub lists_over : k ≤ i → lists text (k - i) n cs ≡ false
  unfolding lists
  lists_over h = let none : k - i ≡ 0 = omega arith in rw none

-- a PIN is on the list where its characters stand in it
pub lists_pin : (pin : List ℕ) (n : ℕ) → length pin ≡ n → (k : ℕ) (cs : List ℕ) → k * n ≤ length cs → all_of Digit (take (k * n) cs) ≡ true
    → lists (characters pin) k n cs ≡ is_on pin (entries k n cs)
unfolding lists is_on entries
lists_pin pin n l zero cs h e = refl
lists_pin pin n l (suc k) cs h e =
    let room = rw suc-mul at h in
    let first = digits_within (suc k * n) 0 n cs (omega (arith, suc-mul k n)) e in
    let rest = digits_within (suc k * n) n (k * n) cs (omega (arith, suc-mul k n)) e in
    rw (rw l at (entry_there pin cs (omega arith) (rw l first)), lists_pin pin n l k (drop n cs) (rw length-drop (omega arith)) rest)

-- "A weak PIN of another length than the PIN never matches"
pub on_other : (pin : List ℕ) (n : ℕ) → (length pin ≡ n → ⊥) → (k : ℕ) (cs : List ℕ) → k * n ≤ length cs → is_on pin (entries k n cs) ≡ false
unfolding is_on entries
on_other pin n d zero cs h = refl
on_other pin n d (suc k) cs h =
    let room = rw suc-mul at h in
    let l : length (map value_of (take n cs)) ≡ n = length-map (take n cs) value_of ∙ length-take-le n cs (omega arith) in
    rw (same_false pin (map value_of (take n cs)) (λ e. d (ap length e ∙ l))) (on_other pin n d k (drop n cs) (rw length-drop (omega arith)))
