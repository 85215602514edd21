-- What is taken of a row, and what the verdict compares.
-- Assumes nothing.
use Prim.Native.Nat.{ℕ, zero, suc, ◌+◌, ◌-◌, ◌*◌, ◌^◌, ◌≤◌, ◌<◌}
use native.Mathlib.Omega.{arith}
use native.Mathlib.Nat.{mod-eq_of_lt}
use native.Mathlib.Numerals.{add-one}
use mathlib.Core.Path.{◌≡◌, refl, sym, ap, ap₂, ◌∙◌, subst}
use mathlib.Core.List.{List, [], ◌∷◌, ◌++◌, map, append-nil, append_assoc}
use mathlib.Core.Bool.{Bool, true, false, cond}
use lib.ListN.{length, get_or, take, drop, length-map, length-append}
use lib.Seq.{drop-cons, take_all, take_at, length-take-le}
use lib.Dec.{leb, lit≤}
use borrow.Author.Tests.{leb-true, leb-false}
use Rattle.nibbles.specs.Nibbles.{row, word, within, same}
use Rattle.nibbles.proofs.Lists.{Below, below_take, same_refl, same_false, below_append}
use Rattle.nibbles.proofs.Rows.{row_length, row_below, row_word, word_row, word_lt, word_append}
use Rattle.nibbles.proofs.Runs.{inside, under, over}
use Rattle.alphabet.specs.Alphabet.{characters}
use Rattle.pins.specs.Answers.{pin_of}
use Rattle.pins.specs.declared.Pin.{Pin}
use Rattle.answers.specs.Answers.{digits_of}
use Rattle.pvvdigits.specs.PvvDigits.{those, pvv_of}
use Rattle.pvvdigits.specs.Answers.{Taken}

-- ---- lists

pub take_again : (k : ℕ) (xs ys : List ℕ) → take k (take k xs ++ ys) ≡ take k (xs ++ ys)
take_again zero xs ys = refl
take_again (suc k) [] ys = refl
take_again (suc k) (x ∷ xs) ys = ap (λ (l : List ℕ). x ∷ l) (take_again k xs ys)

-- ---- those from low to high, less a number

abbrev pub found : ℕ → ℕ → ℕ → List ℕ → List ℕ
found low high less ns = map (λ m. m - less) (those (within low high) ns)

module _ (low high less : ℕ) where
  pub found_cons : (n : ℕ) (ns : List ℕ) → found low high less (n ∷ ns) ≡ found low high less (n ∷ []) ++ found low high less ns
  unfolding those
  found_cons n ns = go (within low high n)
    where
      go : (b : Bool) → map (λ m. m - less) (cond b (n ∷ those (within low high) ns) (those (within low high) ns)) ≡ map (λ m. m - less) (cond b (n ∷ []) []) ++ found low high less ns
      go true = refl
      go false = refl

  pub found_below : (ns : List ℕ) → Below 16 ns → Below 16 (found low high less ns)
  unfolding those
  found_below [] b = tt
  found_below (n ∷ ns) b = go (found_below ns b.1) (within low high n)
    where
      go : Below 16 (found low high less ns) → (t : Bool) → Below 16 (map (λ m. m - less) (cond t (n ∷ those (within low high) ns) (those (within low high) ns)))
      go h true = (let s = b.0 in omega arith, h)
      go h false = h

  pub found_one : (n : ℕ) → within low high n ≡ true → found low high less (n ∷ []) ≡ (n - less) ∷ []
  unfolding those
  found_one n e = rw e

  pub found_none : (n : ℕ) → within low high n ≡ false → found low high less (n ∷ []) ≡ []
  unfolding those
  found_none n e = rw e

  pub found_nil : found low high less [] ≡ []
  unfolding those
  found_nil = refl

-- ---- what was taken, as a value

pub taken_same : (p : Pin) → Taken p → p ≡ pin_of (digits_of p)
taken_same p t = ap₂ (λ (n w : ℕ). record { length = n; digits = w }) (sym (row_length p.length p.digits)) (sym (word_row p.length p.digits ∙ mod-eq_of_lt t.clean))

-- nothing is added
pub taken_kept : (p : Pin) (xs : List ℕ) → Taken p → xs ≡ [] → p ≡ pin_of (take 4 (digits_of p ++ xs))
taken_kept p xs t e =
    taken_same p t ∙ ap pin_of (sym (take_all 4 (digits_of p) (rw (row_length p.length p.digits) t.short)) ∙ ap (take 4) (sym (ap (λ (l : List ℕ). digits_of p ++ l) e ∙ append-nil (digits_of p))))

-- four are there
pub taken_full : (p : Pin) (xs : List ℕ) → Taken p → 4 ≤ p.length → p ≡ pin_of (take 4 (digits_of p ++ xs))
taken_full p xs t h =
    taken_same p t ∙ ap pin_of (sym (take_at (digits_of p) xs 4 (row_length p.length p.digits ∙ omega (arith, t.short))))

-- one more is taken
pub taken_one : (p : Pin) (n : ℕ) → Taken p → p.length < 4 → ◌≡◌ {A = Pin} (record { length = p.length + 1; digits = n * 16 ^ p.length + p.digits }) (pin_of (take 4 (digits_of p ++ (n ∷ []))))
unfolding word
taken_one p n t h =
    let l : length (digits_of p ++ (n ∷ [])) ≡ p.length + 1 = length-append (digits_of p) (n ∷ []) ∙ ap (λ (k : ℕ). k + 1) (row_length p.length p.digits) in
    let one : word (n ∷ []) ≡ n = omega arith in
    let w : word (digits_of p ++ (n ∷ [])) ≡ n * 16 ^ p.length + p.digits =
    word_append (digits_of p) (n ∷ []) ∙ ap (λ (m : ℕ). m * 16 ^ length (digits_of p) + word (digits_of p)) one ∙ ap₂ (λ (k v : ℕ). n * 16 ^ k + v) (row_length p.length p.digits) (word_row p.length p.digits ∙ mod-eq_of_lt t.clean) in
    ap₂ (λ (k v : ℕ). record { length = k; digits = v }) (sym l) (sym w) ∙ ap pin_of (sym (take_all 4 (digits_of p ++ (n ∷ [])) (rw l (omega arith))))

-- what four of a row make is taken, and its digits are they
module _ (xs : List ℕ) (b : Below 16 xs) where
  pub four_short : length (take 4 xs) ≤ 4
  four_short = go 4 xs
    where
      go : (k : ℕ) (ys : List ℕ) → length (take k ys) ≤ k
      go zero ys = omega arith
      go (suc k) [] = omega arith
      go (suc k) (y ∷ ys) = let h = go k ys in omega arith

  pub four_taken : Taken (pin_of (take 4 xs))
  four_taken = record { short = four_short; clean = word_lt (take 4 xs) (below_take 16 4 xs b) }

  pub four_digits : digits_of (pin_of (take 4 xs)) ≡ take 4 xs
  four_digits = row_word (take 4 xs) (below_take 16 4 xs b)

-- ---- one step of a scan

module _ (low high less : ℕ) (ns : List ℕ) (nibbles : Below 16 ns) (p q : Pin) (i : ℕ) (here : i < length ns) (n : ℕ) (is : n ≡ get_or ns i 0) (small : n < 16) (taken : q ≡ pin_of (take 4 (digits_of p ++ found low high less (n ∷ [])))) where
  added : Below 16 (digits_of p ++ found low high less (n ∷ []))
  added = below_append 16 (digits_of p) (found low high less (n ∷ [])) (row_below p.length p.digits) (found_below low high less (n ∷ []) (small, tt))

  pub step_taken : Taken q
  step_taken = subst Taken (sym taken) (four_taken (digits_of p ++ found low high less (n ∷ [])) added)

  pub step_rest : take 4 (digits_of q ++ found low high less (drop (i + 1) ns)) ≡ take 4 (digits_of p ++ found low high less (drop i ns))
  step_rest =
      let rest = found low high less (drop (suc i) ns) in
      let one = found low high less (n ∷ []) in
      ap (λ (k : ℕ). take 4 (digits_of q ++ found low high less (drop k ns))) (add-one i)
      ∙ ap (λ (l : List ℕ). take 4 (l ++ rest)) (ap digits_of taken ∙ four_digits (digits_of p ++ one) added)
      ∙ take_again 4 (digits_of p ++ one) rest
      ∙ ap (take 4) (append_assoc (digits_of p) one rest
      ∙ ap (λ (l : List ℕ). digits_of p ++ l) (sym (ap (found low high less) (drop-cons ns i 0 here ∙ ap (λ (m : ℕ). m ∷ drop (suc i) ns) (sym is)) ∙ found_cons low high less n (drop (suc i) ns))))

-- ---- the PVV

-- each nibble is found by one of the two scans
both_found : (ns : List ℕ) → Below 16 ns → length (found 0 9 0 ns) + length (found 10 15 10 ns) ≡ length ns
unfolding those
both_found [] b = refl
both_found (n ∷ ns) b = go (both_found ns b.1) (leb n 9) refl
  where
    go : length (found 0 9 0 ns) + length (found 10 15 10 ns) ≡ length ns → (t : Bool) → leb n 9 ≡ t → length (found 0 9 0 (n ∷ ns)) + length (found 10 15 10 (n ∷ ns)) ≡ suc (length ns)
    go h true e =
        let l = leb-true n 9 e in
        rw (inside 0 9 n (omega arith) l, under 10 15 n (omega arith)) (omega arith)
    go h false e =
        let l = leb-false n 9 e in
        rw (over 0 9 n l, inside 10 15 n l (let s = b.0 in omega arith)) (omega arith)

less_none : (xs : List ℕ) → map (λ m. m - 0) xs ≡ xs
less_none [] = refl
less_none (x ∷ xs) = ap₂ (λ (y : ℕ) (ys : List ℕ). y ∷ ys) (omega arith) (less_none xs)

pub pvv_found : (ns : List ℕ) → pvv_of ns ≡ take 4 (found 0 9 0 ns ++ found 10 15 10 ns)
unfolding pvv_of
pvv_found ns = ap (λ (l : List ℕ). take 4 (l ++ found 10 15 10 ns)) (sym (less_none (those (within 0 9) ns)))

pub pvv_below : (ns : List ℕ) → Below 16 ns → Below 16 (pvv_of ns)
pvv_below ns b = rw (pvv_found ns) (below_take 16 4 (found 0 9 0 ns ++ found 10 15 10 ns) (below_append 16 (found 0 9 0 ns) (found 10 15 10 ns) (found_below 0 9 0 ns b) (found_below 10 15 10 ns b)))

-- a row of sixteen has four for it
pub pvv_length : (ns : List ℕ) → Below 16 ns → length ns ≡ 16 → length (pvv_of ns) ≡ 4
pvv_length ns b n =
    ap length (pvv_found ns)
    ∙ length-take-le 4 (found 0 9 0 ns ++ found 10 15 10 ns) (rw (length-append (found 0 9 0 ns) (found 10 15 10 ns), both_found ns b, n) (lit≤ tt))

-- its word holds it
pub pvv_row : (e : ℕ) → row 4 (word (pvv_of (row 16 e))) ≡ pvv_of (row 16 e)
pvv_row e =
    ap (λ (n : ℕ). row n (word (pvv_of (row 16 e)))) (sym (pvv_length (row 16 e) (row_below 16 e) (row_length 16 e)))
    ∙ row_word (pvv_of (row 16 e)) (pvv_below (row 16 e) (row_below 16 e))

-- the two scans, one behind the other
module _ (ns : List ℕ) (nibbles : Below 16 ns) (p : Pin) (first : p ≡ pin_of (take 4 (digits_of (record { length = 0; digits = 0 }) ++ found 0 9 0 ns))) where
  first_scan : p ≡ pin_of (take 4 (found 0 9 0 ns))
  unfolding row
  first_scan = first

  pub scans_taken : Taken p
  scans_taken = subst Taken (sym first_scan) (four_taken (found 0 9 0 ns) (found_below 0 9 0 ns nibbles))

  pub scans_pvv : (q : Pin) → q ≡ pin_of (take 4 (digits_of p ++ found 10 15 10 ns)) → q.digits ≡ word (pvv_of ns)
  scans_pvv q e =
      ap (λ (x : Pin). x.digits) e
      ∙ ap word (ap (λ (l : List ℕ). take 4 (l ++ found 10 15 10 ns)) (ap digits_of first_scan ∙ four_digits (found 0 9 0 ns) (found_below 0 9 0 ns nibbles))
      ∙ take_again 4 (found 0 9 0 ns) (found 10 15 10 ns) ∙ sym (pvv_found ns))

pub pvv_spelled : (e : ℕ) → length (characters (pvv_of (row 16 e))) ≡ 4
pvv_spelled e = length-map (pvv_of (row 16 e)) (λ d. 0x30 + d) ∙ pvv_length (row 16 e) (row_below 16 e) (row_length 16 e)

pub pvv_characters : (e digits : ℕ) → digits ≡ word (pvv_of (row 16 e)) → characters (row 4 digits) ≡ characters (pvv_of (row 16 e))
pvv_characters e digits h = ap characters (ap (row 4) h ∙ pvv_row e)

-- ---- the verdict

module _ (e shown : ℕ) (small : shown < 16 ^ 4) where
  pub verdict_same : word (pvv_of (row 16 e)) ≡ shown → same (pvv_of (row 16 e)) (row 4 shown) ≡ true
  verdict_same h = ap (same (pvv_of (row 16 e))) (ap (row 4) (sym h) ∙ pvv_row e) ∙ same_refl (pvv_of (row 16 e))

  pub verdict_other : (word (pvv_of (row 16 e)) ≡ shown → ⊥) → same (pvv_of (row 16 e)) (row 4 shown) ≡ false
  verdict_other h = same_false (pvv_of (row 16 e)) (row 4 shown) (λ x. h (ap word x ∙ word_row 4 shown ∙ mod-eq_of_lt small))
