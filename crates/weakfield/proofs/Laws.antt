-- What the reader of the weak list answers, and what the code's answers tell of it.
-- Assumes nothing.
use Prim.Native.Nat.{ℕ, ◌+◌, ◌-◌, ◌*◌, ◌≤◌}
use native.Mathlib.Nat.{add-zero, add_assoc}
use native.Mathlib.Omega.{arith}
use mathlib.Core.Path.{◌≡◌, refl, sym, ap, ◌∙◌}
use mathlib.Core.List.{List}
use mathlib.Core.Bool.{Bool, true, false, cond}
use Rattle.std.specs.Prelude.{Some, None, Result, Ok, Err}
use lib.ListN.{length, take, drop, length-drop}
use lib.Seq.{drop-drop}
use lib.Dec.{eqb}
use borrow.Author.Tests.{eq-eqb, ne_eqb, eqb-true, eqb-false}
use Rattle.alphabet.specs.Alphabet.{all_of}
use Rattle.alphabet.specs.declared.Class.TheVariants.{Digit}
use Rattle.numbers.specs.Numbers.{done, refused, and_then}
use Rattle.numbers.proofs.Laws.{then_done, value_of_lem}
use Rattle.numbers.specs.declared.Refusal.{Refusal}
use Rattle.numbers.specs.declared.Refusal.TheVariants.{WeakList03, Field15}
use Rattle.fields.specs.Fields.{Found, run, number, marked, behind}
use Rattle.fields.specs.Answers.{cursor_at, found_at, mark_from}
use Rattle.fields.specs.declared.Cursor.{Cursor}
use Rattle.fields.proofs.Laws.{run_whole, run_found, number_found, number_read, mark_there, mark_absent, found_ok, found_err, found_behind}
use Rattle.weak.specs.Answers.{Lies}
use Rattle.weak.specs.declared.Weak.{Weak}
use Rattle.weakfield.specs.WeakField.{none_at, listed, weak_field}

-- ---- behind the count

-- so many weak PINs of so many digits each, whose list begins at a place
abbrev pub list_at : ℕ → ℕ → ℕ → Weak
list_at list count each = record { count = count; length = each; list = list }

module _ (at count : ℕ) (cs : List ℕ) where
  -- no weak PINs: neither length nor list
  pub listed_none : count ≡ 0 → listed at count cs ≡ done (none_at at, 0)
  unfolding listed
  listed_none e = rw (eq-eqb count 0 e)

  -- the length is missing or out of its limits
  pub listed_unmeasured : (count ≡ 0 → ⊥) → (q : Refusal) → number 4 12 Field15 cs ≡ refused q → listed at count cs ≡ refused q
  unfolding listed
  listed_unmeasured some q e = rw (ne_eqb count 0 some, e)

  -- the list is too short, or has what is no digit
  pub listed_short : (count ≡ 0 → ⊥) → (each n : ℕ) (q : Refusal) → number 4 12 Field15 cs ≡ done (each, n)
      → run Digit WeakList03 WeakList03 (count * each) (drop 2 cs) ≡ refused q → listed at count cs ≡ refused q
  unfolding listed
  listed_short some each n q e d = rw (ne_eqb count 0 some, e, d)

  -- the list is there
  pub listed_whole : (count ≡ 0 → ⊥) → (each n v m : ℕ) → number 4 12 Field15 cs ≡ done (each, n) → run Digit WeakList03 WeakList03 (count * each) (drop 2 cs) ≡ done (v, m)
      → listed at count cs ≡ done (list_at (at + 2) count each, 2 + m)
  unfolding listed
  listed_whole some each n v m e d = rw (ne_eqb count 0 some, e, d)

-- what the code's answers tell of it, where the count ends at a place
module _ (s : List ℕ) (count at : ℕ) (some : count ≡ 0 → ⊥) where
  -- it found no length
  pub behind_unmeasured : (q : Refusal) → Err q ≡ found_at at (number 4 12 Field15 (drop at s)) → Err q ≡ found_at at (listed at count (drop at s))
  behind_unmeasured q e = rw (listed_unmeasured at count (drop at s) some q (found_err at (number 4 12 Field15 (drop at s)) q e))

  -- the list stands behind the length
  behind_place : (each : ℕ) (list : Cursor) → Ok (each, list) ≡ found_at at (number 4 12 Field15 (drop at s)) → list.at ≡ at + 2
  behind_place each list e = ap (λ (c : Cursor). c.at) (number_read s at each list 4 12 Field15 e).1

  -- so do the characters that it reads
  behind_list : (each : ℕ) (list : Cursor) → Ok (each, list) ≡ found_at at (number 4 12 Field15 (drop at s)) → drop 2 (drop at s) ≡ drop list.at s
  behind_list each list e = drop-drop 2 at s ∙ ap (λ (i : ℕ). drop i s) (sym (behind_place each list e))

  -- it found no list
  pub behind_short : (each : ℕ) (list : Cursor) (q : Refusal) → Ok (each, list) ≡ found_at at (number 4 12 Field15 (drop at s))
      → Err q ≡ found_at list.at (run Digit WeakList03 WeakList03 (count * each) (drop list.at s)) → Err q ≡ found_at at (listed at count (drop at s))
  behind_short each list q e d =
      let got = found_ok at (number 4 12 Field15 (drop at s)) each list e in
      let bad = found_err list.at (run Digit WeakList03 WeakList03 (count * each) (drop list.at s)) q d in
      rw (listed_short at count (drop at s) some each got.0 q got.1 (rw (behind_list each list e) bad))

  -- it found the list
  pub behind_whole : (each : ℕ) (list : Cursor) (v : ℕ) (next : Cursor) → Ok (each, list) ≡ found_at at (number 4 12 Field15 (drop at s))
      → Ok (v, next) ≡ found_at list.at (run Digit WeakList03 WeakList03 (count * each) (drop list.at s))
      → Ok ((list_at list.at count each), next) ≡ found_at at (listed at count (drop at s))
  behind_whole each list v next e d =
      let got = found_ok at (number 4 12 Field15 (drop at s)) each list e in
      let found = found_ok list.at (run Digit WeakList03 WeakList03 (count * each) (drop list.at s)) v next d in
      let whole = listed_whole at count (drop at s) some each got.0 v found.0 got.1 (rw (behind_list each list e) found.1) in
      placed list.at found.0 next (behind_place each list e) found.2 ∙ ap (found_at at) (sym whole)
    where
      placed : (i m : ℕ) (c : Cursor) → i ≡ at + 2 → c ≡ cursor_at (i + m)
          → ◌≡◌ {A = Result (Weak × Cursor) Refusal} (Ok (list_at i count each, c)) (Ok (list_at (at + 2) count each, cursor_at (at + (2 + m))))
      placed i m c a b = rw (b, a, add_assoc at 2 m)

-- ---- the field

-- what the code's answers tell of it
module _ (mark at : ℕ) (s : List ℕ) where
  -- without its mark it is empty
  pub field_absent : None ≡ mark_from at (marked mark (drop at s)) → Ok ((none_at at), (cursor_at at)) ≡ found_at at (weak_field mark at (drop at s))
  unfolding weak_field
  field_absent e = rw (mark_absent at (marked mark (drop at s)) e, add-zero at)

  module _ (digits : Cursor) (there : Some digits ≡ mark_from at (marked mark (drop at s))) where
    -- the count stands behind the mark
    counted_there : drop digits.at s ≡ drop 1 (drop at s)
    counted_there = ap (λ (c : Cursor). drop c.at s) (mark_there at (marked mark (drop at s)) digits there).1 ∙ sym (drop-drop 1 at s)

    -- without a count it is refused
    pub field_uncounted : (q : Refusal) → Err q ≡ found_at digits.at (number 0 99 WeakList03 (drop digits.at s)) → Err q ≡ found_at at (weak_field mark at (drop at s))
    unfolding weak_field
    field_uncounted q e =
        let bad = found_err digits.at (number 0 99 WeakList03 (drop digits.at s)) q e in
        rw ((mark_there at (marked mark (drop at s)) digits there).0, ← counted_there, bad)

    -- a count has two digits and ends three characters behind the beginning of the field
    pub counted_behind : (count : ℕ) (next : Cursor) → Ok (count, next) ≡ found_at digits.at (number 0 99 WeakList03 (drop digits.at s)) → (count ≤ 99) × (next.at ≡ at + 3)
    counted_behind count next e =
        let read = number_read s digits.at count next 0 99 WeakList03 e in
        let first = ap (λ (c : Cursor). c.at) (mark_there at (marked mark (drop at s)) digits there).1 in
        (read.4, ap (λ (c : Cursor). c.at) read.1 ∙ omega arith)

    -- with one the rest of it decides
    pub field_counted : (count : ℕ) (next : Cursor) → Ok (count, next) ≡ found_at digits.at (number 0 99 WeakList03 (drop digits.at s))
        → found_at at (weak_field mark at (drop at s)) ≡ found_at next.at (listed next.at count (drop next.at s))
    unfolding weak_field
    field_counted count next e =
        let got = found_ok digits.at (number 0 99 WeakList03 (drop digits.at s)) count next e in
        rw ((mark_there at (marked mark (drop at s)) digits there).0, ← counted_there, got.1, drop-drop 3 at s, (counted_behind count next e).1)
        (sym (found_behind at 3 (listed (at + 3) count (drop (at + 3) s))))

-- ---- what a field that was found tells of the characters ahead

-- the three ways in which it is found: without its mark, with the count 00, with a list
pub data Tells (mark at : ℕ) (cs : List ℕ) (w : Weak) (n : ℕ) : Type 0 where
  unmarked : marked mark cs ≡ false → w ≡ none_at at → n ≡ 0 → Tells mark at cs w n
  empty : marked mark cs ≡ true → number 0 99 WeakList03 (drop 1 cs) ≡ done (0, 2) → w ≡ none_at (at + 3) → n ≡ 3 → Tells mark at cs w n
  filled : (count each : ℕ) → marked mark cs ≡ true → number 0 99 WeakList03 (drop 1 cs) ≡ done (count, 2) → (count ≡ 0 → ⊥) → number 4 12 Field15 (drop 3 cs) ≡ done (each, 2)
      → run Digit WeakList03 WeakList03 (count * each) (drop 5 cs) ≡ done (count * each, count * each)
      → w ≡ list_at (at + 5) count each → n ≡ 5 + count * each → Tells mark at cs w n

module _ (mark at : ℕ) (cs : List ℕ) (w : Weak) (n : ℕ) where
  -- the parts of what was found
  found_weak : (v : Weak) (m : ℕ) → ◌≡◌ {A = Found Weak} (done (v, m)) (done (w, n)) → w ≡ v
  found_weak v m e = sym (ap (λ (r : Weak × ℕ). r.0) (value_of_lem e))

  found_count : (v : Weak) (m : ℕ) → ◌≡◌ {A = Found Weak} (done (v, m)) (done (w, n)) → n ≡ m
  found_count v m e = sym (ap (λ (r : Weak × ℕ). r.1) (value_of_lem e))

  found_both : (v : Weak) (m : ℕ) → w ≡ v → n ≡ m → ◌≡◌ {A = Found Weak} (done (v, m)) (done (w, n))
  found_both v m e l = rw (e, l)

  -- a number has two characters
  two : (low high : ℕ) (q : Refusal) (ds : List ℕ) (r : ℕ × ℕ) → number low high q ds ≡ done r → number low high q ds ≡ done (r.0, 2)
  two low high q ds r e = e ∙ ap (λ (m : ℕ). done (r.0, m)) (number_found low high q ds r.0 r.1 e).0

  -- what was found behind n characters
  behind_found : (k : ℕ) (o : Found Weak) → behind k o ≡ done (w, n) → (m : ℕ) × (o ≡ done (w, m)) × (n ≡ k + m)
  behind_found k (done r) e = (r.1, ap (λ (v : Weak). done (v, r.1)) (sym (found_weak r.0 (k + r.1) e)), found_count r.0 (k + r.1) e)
  behind_found k (refused q) e = absurd (let z : ◌≡◌ {A = ℕ} 0 1 = cc in omega arith)

  -- a field that was found was found in one of them
  pub weak_tells : weak_field mark at cs ≡ done (w, n) → Tells mark at cs w n
  unfolding weak_field listed
  weak_tells e = go (marked mark cs) refl e
    where
      digits : ℕ → ℕ → Found ℕ
      digits count each = run Digit WeakList03 WeakList03 (count * each) (drop 2 (drop 3 cs))

      measured : ℕ → ℕ × ℕ → Found Weak
      measured count each = and_then (digits count each.0) (λ r. done (list_at (at + 3 + 2) count each.0, 2 + r.1))

      -- behind the count, where it takes m characters
      counted : (count : ℕ) → marked mark cs ≡ true → number 0 99 WeakList03 (drop 1 cs) ≡ done (count, 2) → (m : ℕ) → n ≡ 3 + m → (b : Bool) → eqb count 0 ≡ b
          → cond {A = Found Weak} b (done (none_at (at + 3), 0)) (and_then (number 4 12 Field15 (drop 3 cs)) (measured count)) ≡ done (w, m) → Tells mark at cs w n
      counted count h c m l true z e =
          let v = value_of_lem e in
          empty h (c ∙ ap (λ (v : ℕ). done (v, 2)) (eqb-true count 0 z)) (sym (ap (λ (r : Weak × ℕ). r.0) v)) (l ∙ ap (λ (r : Weak × ℕ). 3 + r.1) (sym v))
      counted count h c m l false z e =
          let t = then_done (number 4 12 Field15 (drop 3 cs)) (measured count) (w, m) e in
          let each = t.0.0 in
          let r = then_done (digits count each) (λ (r : ℕ × ℕ). done (list_at (at + 3 + 2) count each, 2 + r.1)) (w, m) t.2 in
          let f = run_found Digit WeakList03 WeakList03 (count * each) (drop 2 (drop 3 cs)) r.0.0 r.0.1 r.1 in
          let v = value_of_lem r.2 in
          let taken : 2 + r.0.1 ≡ m = ap (λ (r : Weak × ℕ). r.1) v in
          let place : at + 3 + 2 ≡ at + 5 = omega arith in
          filled count each h c (eqb-false count 0 z) (two 4 12 Field15 (drop 3 cs) t.0 t.1)
          (run_whole Digit WeakList03 WeakList03 (count * each) (drop 5 cs) (rw (drop-drop 2 3 cs) at f.2) (rw (drop-drop 2 3 cs) at f.3))
          (sym (ap (λ (r : Weak × ℕ). r.0) v) ∙ ap (λ (i : ℕ). list_at i count each) place)
          (omega (arith, l, taken, f.1))

      go : (b : Bool) → marked mark cs ≡ b
          → cond {A = Found Weak} b (and_then (number 0 99 WeakList03 (drop 1 cs)) (λ count. behind 3 (listed (at + 3) count.0 (drop 3 cs)))) (done (none_at at, 0)) ≡ done (w, n) → Tells mark at cs w n
      go false h e = unmarked h (found_weak (none_at at) 0 e) (found_count (none_at at) 0 e)
      go true h e =
          let t = then_done (number 0 99 WeakList03 (drop 1 cs)) (λ (count : ℕ × ℕ). behind 3 (listed (at + 3) count.0 (drop 3 cs))) (w, n) e in
          let b = behind_found 3 (listed (at + 3) t.0.0 (drop 3 cs)) t.2 in
          counted t.0.0 h (two 0 99 WeakList03 (drop 1 cs) t.0 t.1) b.0 b.2 (eqb t.0.0 0) refl b.1

  -- and the field is found in each of them
  pub tells_weak : Tells mark at cs w n → weak_field mark at cs ≡ done (w, n)
  unfolding weak_field
  tells_weak (unmarked h e l) = rw h (found_both (none_at at) 0 e l)
  tells_weak (empty h c e l) = rw (h, c, listed_none (at + 3) 0 (drop 3 cs) refl) (found_both (none_at (at + 3)) 3 e l)
  tells_weak (filled count each h c some m r e l) =
      rw (h, c, listed_whole (at + 3) count (drop 3 cs) some each 2 (count * each) (count * each) m (rw (drop-drop 2 3 cs) r))
      (found_both (list_at (at + 3 + 2) count each) (3 + (2 + count * each)) (e ∙ ap (λ (i : ℕ). list_at i count each) (let place : at + 5 ≡ at + 3 + 2 = omega arith in place)) (omega (arith, l)))

  -- it goes onward, and not past the end
  pub weak_onward : weak_field mark at cs ≡ done (w, n) → n ≤ length cs
  weak_onward e = go (weak_tells e)
    where
      go : Tells mark at cs w n → n ≤ length cs
      go (unmarked h e l) = omega arith
      go (empty h c e l) =
          let f = (number_found 0 99 WeakList03 (drop 1 cs) 0 2 c).1 in
          omega (arith, length-drop 1 cs)
      go (filled count each h c some m r e l) =
          let f = (number_found 4 12 Field15 (drop 3 cs) each 2 m).1 in
          let g = (run_found Digit WeakList03 WeakList03 (count * each) (drop 5 cs) (count * each) (count * each) r).2 in
          omega (arith, length-drop 3 cs, length-drop 5 cs)

-- no characters are digits
no_digits : (cs : List ℕ) → all_of Digit (take 0 cs) ≡ true
unfolding all_of
no_digits cs = refl

-- a weak list that was found lies in the command
pub weak_lies : (mark at : ℕ) (s : List ℕ) (w : Weak) (n : ℕ) → weak_field mark at (drop at s) ≡ done (w, n) → at ≤ length s → Lies w s
weak_lies mark at s w n e h = go (weak_tells mark at (drop at s) w n e)
  where
    onward : n ≤ length s - at
    onward = rw length-drop at (weak_onward mark at (drop at s) w n e)

    go : Tells mark at (drop at s) w n → Lies w s
    go (unmarked t e l) = rw e (record { short = omega arith; few = omega arith; inside = omega arith; digits = no_digits (drop at s) })
    go (empty t c e l) = rw e (record { short = omega arith; few = omega arith; inside = omega (arith, onward, l); digits = no_digits (drop (at + 3) s) })
    go (filled count each t c some m r e l) =
        let high = (number_found 4 12 Field15 (drop 3 (drop at s)) each 2 m).3 in
        let most = (number_found 0 99 WeakList03 (drop 1 (drop at s)) count 2 c).3 in
        let whole = (run_found Digit WeakList03 WeakList03 (count * each) (drop 5 (drop at s)) (count * each) (count * each) r).3 in
        rw e (record { short = high; few = most; inside = omega (arith, onward); digits = rw (drop-drop 5 at s) at whole })
