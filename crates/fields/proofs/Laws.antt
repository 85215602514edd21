-- What each reader answers, what an answer tells of the characters ahead, and what the code's answer tells of the reader's.
-- Assumes nothing.
use Prim.Native.Nat.{ℕ, zero, suc, ◌+◌, ◌-◌, ◌*◌, ◌≤◌, ◌<◌}
use native.Mathlib.Nat.{add_assoc, add-zero, zero-add, suc-add}
use native.Mathlib.Omega.{arith}
use mathlib.Core.Path.{◌≡◌, refl, sym, ap, ◌∙◌, subst}
use mathlib.Core.List.{List, [], ◌∷◌}
use mathlib.Core.Bool.{Bool, true, false, ◌&&◌}
use Rattle.std.specs.Prelude.{Some, None, Result, Ok, Err, MatchResult, IsErrAnd}
use Rattle.std.proofs.lemmas.Result.{err_from_is_err_and}
use lib.ListN.{length, get_or, take, drop, length-drop, drop_of_length-le}
use lib.Seq.{slice, take-nil, drop-drop, drop-cons, get_or-drop}
use lib.Dec.{leb, eqb}
use borrow.Author.Tests.{leb-true, le-leb, eq-eqb, ne_eqb}
use Rattle.nibbles.specs.Nibbles.{within}
use Rattle.nibbles.proofs.Runs.{inside, inside_low, inside_high}
use Rattle.alphabet.specs.Alphabet.{all_of, begins, value_of}
use Rattle.alphabet.specs.declared.Class.{Class}
use Rattle.alphabet.specs.declared.Class.TheVariants.{Digit, Printable}
use Rattle.numbers.specs.Numbers.{done, refused, and_then, unless}
use Rattle.numbers.proofs.Laws.{then_done, passed}
use Rattle.numbers.specs.declared.Refusal.{Refusal}
use Rattle.numbers.specs.declared.Refusal.TheVariants.{Field15}
use Rattle.fields.specs.Fields.{Found, run, two_digits, number, marked, behind, at_most, trailer, Stage, read, faulty, fielded, field}
use Rattle.fields.specs.Answers.{cursor_at, found_at, mark_from, stage_of}
use Rattle.fields.specs.declared.Cursor.{Cursor}
use Rattle.fields.specs.declared.Fault.{Fault}

-- ---- the characters ahead

-- a part in the middle is the beginning of what is ahead
pub slice_ahead : (f n : ℕ) (s : List ℕ) → slice f (f + n) s ≡ take n (drop f s)
slice_ahead zero n s = rw (zero-add n)
slice_ahead (suc f) n [] = rw (take-nil {A = ℕ} (suc f + n), take-nil {A = ℕ} n)
slice_ahead (suc f) n (x ∷ xs) = rw (suc-add f n) (slice_ahead f n xs)

-- the number that the two digits ahead make
pub digits_ahead : (s : List ℕ) (at : ℕ) → two_digits 0 (drop at s) ≡ value_of (get_or s at 0) * 10 + value_of (get_or s (at + 1) 0)
digits_ahead s at = rw (get_or-drop at s 0 0, get_or-drop at s 1 0, add-zero at)

-- ---- so many characters of a class

module _ (k : Class) (p q : Refusal) (n : ℕ) (cs : List ℕ) where
  -- the field is there
  pub run_whole : n ≤ length cs → all_of k (take n cs) ≡ true → run k p q n cs ≡ done (n, n)
  unfolding run
  run_whole h e = rw (le-leb n (length cs) h, e)

  -- a field that was found has its characters, and all are of the class
  pub run_found : (v m : ℕ) → run k p q n cs ≡ done (v, m) → (v ≡ n) × (m ≡ n) × (n ≤ length cs) × (all_of k (take n cs) ≡ true)
  unfolding run
  run_found v m e =
      let t = then_done (unless p (leb n (length cs)) n) (λ _. unless q (all_of k (take n cs)) (n, n)) (v, m) e in
      let l = passed p (leb n (length cs)) n t.0 t.1 in
      let w = passed {A = ℕ × ℕ} q (all_of k (take n cs)) (n, n) (v, m) t.2 in
      (sym (ap (λ (r : ℕ × ℕ). r.0) w.1), sym (ap (λ (r : ℕ × ℕ). r.1) w.1), leb-true n (length cs) l.0, w.0)

-- where both refusals are the same, it is the one
pub run_refuses : (k : Class) (p : Refusal) (n : ℕ) (cs : List ℕ) (x : Refusal) → run k p p n cs ≡ refused x → x ≡ p
unfolding run
run_refuses k p n cs x e = go (leb n (length cs)) (all_of k (take n cs)) e
  where
    go : (b d : Bool) → and_then {B = ℕ × ℕ} (unless p b n) (λ _. unless p d (n, n)) ≡ refused x → x ≡ p
    go true true e = absurd (let z : ◌≡◌ {A = ℕ} 0 1 = cc in omega arith)
    go true false e = cc
    go false d e = cc

-- ---- a number of two digits

module _ (low high : ℕ) (q : Refusal) (cs : List ℕ) where
  -- the number is there
  pub number_whole : (r : ℕ × ℕ) → run Digit q q 2 cs ≡ done r → low ≤ two_digits 0 cs → two_digits 0 cs ≤ high → number low high q cs ≡ done (two_digits 0 cs, 2)
  unfolding number
  number_whole r e l h = rw (e, inside low high (two_digits 0 cs) l h)

  -- a number that was found is within the limits
  pub number_found : (v m : ℕ) → number low high q cs ≡ done (v, m) → (m ≡ 2) × (2 ≤ length cs) × (low ≤ v) × (v ≤ high) × (v ≡ two_digits 0 cs)
  unfolding number
  number_found v m e =
      let d = two_digits 0 cs in
      let t = then_done (run Digit q q 2 cs) (λ _. unless q (within low high d) (d, 2)) (v, m) e in
      let w = passed {A = ℕ × ℕ} q (within low high d) (d, 2) (v, m) t.2 in
      let f = run_found Digit q q 2 cs t.0.0 t.0.1 t.1 in
      let same : d ≡ v = ap (λ (r : ℕ × ℕ). r.0) w.1 in
      let l = inside_low low high d w.0 in
      let h = inside_high low high d w.0 in
      (sym (ap (λ (r : ℕ × ℕ). r.1) w.1), f.2, omega arith, omega arith, sym same)

  -- its digits are digits
  pub number_digits : (v m : ℕ) → number low high q cs ≡ done (v, m) → all_of Digit (take 2 cs) ≡ true
  unfolding number
  number_digits v m e =
      let d = two_digits 0 cs in
      let t = then_done (run Digit q q 2 cs) (λ _. unless q (within low high d) (d, 2)) (v, m) e in
      (run_found Digit q q 2 cs t.0.0 t.0.1 t.1).3

  -- it has one refusal
  pub number_refuses : (x : Refusal) → number low high q cs ≡ refused x → x ≡ q
  unfolding number
  number_refuses x e = go (run Digit q q 2 cs) (within low high (two_digits 0 cs)) (λ y. run_refuses Digit q 2 cs y) e
    where
      go : (o : Found ℕ) (b : Bool) → ((y : Refusal) → o ≡ refused y → y ≡ q) → and_then {B = ℕ × ℕ} o (λ _. unless q b (two_digits 0 cs, 2)) ≡ refused x → x ≡ q
      go (done r) true f e = absurd (let z : ◌≡◌ {A = ℕ} 0 1 = cc in omega arith)
      go (done r) false f e = cc
      go (refused y) b f e = let z : x ≡ y = cc in z ∙ f y refl

-- ---- the mark of an optional field

module _ (m : ℕ) (s : List ℕ) (at : ℕ) where
  -- at the end there is none
  pub unmarked_end : length s ≤ at → marked m (drop at s) ≡ false
  unfolding begins
  unmarked_end h = rw (drop_of_length-le s h)

  -- the first character ahead decides
  opened : at < length s → marked m (drop at s) ≡ (eqb m (get_or s at 0) && true)
  unfolding begins
  opened h = rw (drop-cons s at 0 h) refl

  -- the character there is another one
  pub unmarked_other : at < length s → (get_or s at 0 ≡ m → ⊥) → marked m (drop at s) ≡ false
  unmarked_other h d = opened h ∙ rw (ne_eqb m (get_or s at 0) (λ e. d (sym e)))

  -- the character there is the mark
  pub marked_there : at < length s → get_or s at 0 ≡ m → marked m (drop at s) ≡ true
  marked_there h e = opened h ∙ rw (eq-eqb m (get_or s at 0) (sym e))

-- what decides whether there is one
pub ruleset marks_found = (unmarked_end, unmarked_other, marked_there)

-- what the code's answer tells of the mark: it is there
pub mark_there : (at : ℕ) (there : Bool) (c : Cursor) → Some c ≡ mark_from at there → (there ≡ true) × (c ≡ cursor_at (at + 1))
mark_there at true c e = (refl, cc)
mark_there at false c e = absurd (let z : ◌≡◌ {A = ℕ} 0 1 = cc in omega arith)

-- it is not
pub mark_absent : (at : ℕ) (there : Bool) → None ≡ mark_from at there → there ≡ false
mark_absent at true e = absurd (let z : ◌≡◌ {A = ℕ} 0 1 = cc in omega arith)
mark_absent at false e = refl

-- ---- behind the code's answer

-- a value was found, so many characters ago
pub found_ok : {A : Type 0} (at : ℕ) (o : Found A) (v : A) (c : Cursor) → Ok (v, c) ≡ found_at at o → (n : ℕ) × (o ≡ done (v, n)) × (c ≡ cursor_at (at + n))
found_ok {A} at (done r) v c e =
    let p : ◌≡◌ {A = A × Cursor} (v, c) (r.0, cursor_at (at + r.1)) = cc in
    (r.1, ap (λ (a : A). done (a, r.1)) (sym (ap (λ (x : A × Cursor). x.0) p)), ap (λ (x : A × Cursor). x.1) p)
found_ok at (refused q) v c e = absurd (let z : ◌≡◌ {A = ℕ} 0 1 = cc in omega arith)

-- none was
pub found_err : {A : Type 0} (at : ℕ) (o : Found A) (q : Refusal) → Err q ≡ found_at at o → o ≡ refused q
found_err at (done r) q e = absurd (let z : ◌≡◌ {A = ℕ} 0 1 = cc in omega arith)
found_err at (refused p) q e = cc

-- what was found behind n characters, as found before them
pub found_behind : {A : Type 0} (at n : ℕ) (o : Found A) → found_at (at + n) o ≡ found_at at (behind n o)
found_behind at n (done r) = ap (λ (i : ℕ). Ok (r.0, cursor_at i)) (add_assoc at n r.1)
found_behind at n (refused q) = refl

-- ---- fields one after the other

module _ {A B : Type 0} (k at : ℕ) (next : A → ℕ → Stage B) (reader : List ℕ → Found A) (s : List ℕ) where
  -- where a value was found, so many characters ago, the next field begins at the cursor
  pub field_found : (a : A) (c : Cursor) → (n : ℕ) × (reader (drop at s) ≡ done (a, n)) × (c ≡ cursor_at (at + n)) → field k reader s at next ≡ next a c.at
  field_found a c (n, e, f) = rw (e, f)

  -- where none was, that is the fault
  pub field_bad : (q : Refusal) → reader (drop at s) ≡ refused q → field k reader s at next ≡ faulty (record { refusal = q; field = k; place = at })
  field_bad q e = rw e

-- ---- what the code's answer tells of the characters ahead

module _ (s : List ℕ) (at v : ℕ) (c : Cursor) where
  -- so many characters of a class were there
  pub run_read : (k : Class) (p q : Refusal) (n : ℕ) → Ok (v, c) ≡ found_at at (run k p q n (drop at s))
      → (v ≡ n) × (c ≡ cursor_at (at + n)) × (n ≤ length s - at) × (all_of k (take n (drop at s)) ≡ true)
  run_read k p q n e =
      let got = found_ok at (run k p q n (drop at s)) v c e in
      let f = run_found k p q n (drop at s) v got.0 got.1 in
      (f.0, got.2 ∙ ap (λ (m : ℕ). cursor_at (at + m)) f.1, rw length-drop at f.2, f.3)

  -- a number of two digits was there
  pub number_read : (low high : ℕ) (q : Refusal) → Ok (v, c) ≡ found_at at (number low high q (drop at s))
      → (v ≡ two_digits 0 (drop at s)) × (c ≡ cursor_at (at + 2)) × (2 ≤ length s - at) × (low ≤ v) × (v ≤ high)
  number_read low high q e =
      let got = found_ok at (number low high q (drop at s)) v c e in
      let f = number_found low high q (drop at s) v got.0 got.1 in
      (f.4, got.2 ∙ ap (λ (m : ℕ). cursor_at (at + m)) f.0, rw length-drop at f.1, f.2, f.3)

-- what a number of two digits goes by
pub ruleset numbers_found = (run_read, digits_ahead, run_refuses, found_err)

-- ---- the trailer

-- without its mark it is empty
pub trailer_absent : (s : List ℕ) (at : ℕ) → None ≡ mark_from at (marked 0x19 (drop at s)) → Ok (0, cursor_at at) ≡ found_at at (trailer (drop at s))
unfolding trailer
trailer_absent s at e = rw (mark_absent at (marked 0x19 (drop at s)) e, add-zero at)

-- behind its mark it is a run of what is ahead, but of 32 at most
pub trailer_there : (s : List ℕ) (at : ℕ) (text : Cursor) (n : ℕ) (o : Result (ℕ × Cursor) Refusal) → Some text ≡ mark_from at (marked 0x19 (drop at s)) → n ≡ at_most 32 (length s - text.at)
    → o ≡ found_at text.at (run Printable Field15 Field15 n (drop text.at s)) → o ≡ found_at at (trailer (drop at s))
unfolding trailer
trailer_there s at text n o e h a =
    let there = mark_there at (marked 0x19 (drop at s)) text e in
    let m : n ≡ at_most 32 (length s - (at + 1)) = h ∙ rw there.1 in
    let b : o ≡ found_at (at + 1) (run Printable Field15 Field15 n (drop (at + 1) s)) = a ∙ rw there.1 in
    b ∙ rw (there.0, drop-drop 1 at s, length-drop (at + 1) s, m) (found_behind at 1 (run Printable Field15 Field15 (at_most 32 (length s - (at + 1))) (drop (at + 1) s)))

-- ---- behind the answer of a stage

-- what was read, and where the next stage begins; or the fault
pub stage_ok : {A : Type 0} (o : Stage A) (v : A) (c : Cursor) → Ok (v, c) ≡ stage_of o → o ≡ read v c.at
stage_ok {A} (read a at) v c e =
    let p : ◌≡◌ {A = A × Cursor} (v, c) (a, cursor_at at) = cc in
    sym (ap (λ (x : A × Cursor). read x.0 x.1.at) p)
stage_ok (faulty f) v c e = absurd (let z : ◌≡◌ {A = ℕ} 0 1 = cc in omega arith)

pub stage_err : {A : Type 0} (o : Stage A) (f : Fault) → Err f ≡ stage_of o → o ≡ faulty f
stage_err (read a at) f e = absurd (let z : ◌≡◌ {A = ℕ} 0 1 = cc in omega arith)
stage_err (faulty g) f e = cc

-- a stage of one field: its reader's value and the cursor behind it, or the reader's refusal at the field and its place
pub field_pointed : {A : Type 0} (k at : ℕ) (reader : List ℕ → Found A) (s : List ℕ) (r : Result (A × Cursor) Refusal) (p : Result (A × Cursor) Fault)
    → r ≡ found_at at (reader (drop at s)) → MatchResult r (λ x. p ≡ Ok x) (λ e. IsErrAnd p (λ f. f ≡ record { refusal = e; field = k; place = at }))
    → p ≡ stage_of (field k reader s at (λ a next. read a next))
field_pointed {A} k at reader s r p e m = go (reader (drop at s)) (subst (λ x. MatchResult x (λ x. p ≡ Ok x) (λ e. IsErrAnd p (λ f. f ≡ record { refusal = e; field = k; place = at }))) e m)
  where
    go : (o : Found A) → MatchResult (found_at at o) (λ x. p ≡ Ok x) (λ e. IsErrAnd p (λ f. f ≡ record { refusal = e; field = k; place = at })) → p ≡ stage_of (fielded k at o (λ a next. read a next))
    go (done a) m = m
    go (refused q) m = let w = err_from_is_err_and p m in rw (w.1, w.2)

-- where other fields come behind it, they begin at the cursor
pub field_passed : {A B : Type 0} (k at : ℕ) (next : A → ℕ → Stage B) (reader : List ℕ → Found A) (s : List ℕ) (r : Result (A × Cursor) Refusal) (p : Result (A × Cursor) Fault) (a : A) (c : Cursor)
    → r ≡ found_at at (reader (drop at s)) → MatchResult r (λ x. p ≡ Ok x) (λ e. IsErrAnd p (λ f. f ≡ record { refusal = e; field = k; place = at }))
    → p ≡ Ok (a, c) → field k reader s at next ≡ next a c.at
field_passed {A} k at next reader s r p a c e m h = go (reader (drop at s)) (subst (λ x. MatchResult x (λ x. p ≡ Ok x) (λ e. IsErrAnd p (λ f. f ≡ record { refusal = e; field = k; place = at }))) e m)
  where
    go : (o : Found A) → MatchResult (found_at at o) (λ x. p ≡ Ok x) (λ e. IsErrAnd p (λ f. f ≡ record { refusal = e; field = k; place = at })) → fielded k at o next ≡ next a c.at
    go (done b) m = let g : ◌≡◌ {A = A × Cursor} (b.0, cursor_at (at + b.1)) (a, c) = cc in ap (λ (x : A × Cursor). next x.0 x.1.at) g
    go (refused q) m = let w = err_from_is_err_and p m in absurd (let z : ◌≡◌ {A = ℕ} 0 1 = cc in omega arith)

-- what the closure of `map_err` says of a fault, said otherwise
pub err_weaker : {A E : Type 0} {P Q : E → Type 0} (r : Result A E) → IsErrAnd r P → ((e : E) → P e → Q e) → IsErrAnd r Q
err_weaker (Ok x) h g = h
err_weaker (Err e) h g = g e h

-- faults that are one have one field and one place, for omega, which reads no equation of faults
pub field_of : (f g : Fault) → f ≡ g → f.field ≡ g.field
field_of f g e = ap (λ (x : Fault). x.field) e

pub place_of : (f g : Fault) → f ≡ g → f.place ≡ g.place
place_of f g e = ap (λ (x : Fault). x.place) e

-- or its refusal at the field and its place is the fault
pub field_refused : {A B : Type 0} (k at : ℕ) (next : A → ℕ → Stage B) (reader : List ℕ → Found A) (s : List ℕ) (r : Result (A × Cursor) Refusal) (p : Result (A × Cursor) Fault) (f : Fault)
    → r ≡ found_at at (reader (drop at s)) → MatchResult r (λ x. p ≡ Ok x) (λ e. IsErrAnd p (λ f. f ≡ record { refusal = e; field = k; place = at }))
    → p ≡ Err f → field k reader s at next ≡ faulty f
field_refused {A} k at next reader s r p f e m h = go (reader (drop at s)) (subst (λ x. MatchResult x (λ x. p ≡ Ok x) (λ e. IsErrAnd p (λ f. f ≡ record { refusal = e; field = k; place = at }))) e m)
  where
    go : (o : Found A) → MatchResult (found_at at o) (λ x. p ≡ Ok x) (λ e. IsErrAnd p (λ f. f ≡ record { refusal = e; field = k; place = at })) → fielded k at o next ≡ faulty f
    go (done a) m = absurd (let z : ◌≡◌ {A = ℕ} 0 1 = cc in omega arith)
    go (refused q) m = let w = err_from_is_err_and p m in let g : f ≡ w.0 = cc in rw (g, w.2)
