-- The reader of a weak list is exact.
-- Assumes nothing.
use Prim.Native.Nat.{ℕ, zero, suc, ◌*◌, ◌≤◌}
use native.Mathlib.Nat.{suc-mul, zero-mul}
use native.Mathlib.Omega.{arith}
use mathlib.Core.Path.{◌≡◌, refl, sym, ap, ◌∙◌, subst}
use mathlib.Core.List.{List, [], ◌∷◌, ◌++◌}
use mathlib.Core.Bool.{true}
use lib.ListN.{length, take, drop, length-append, length-drop, take-append-drop}
use lib.Seq.{length-take-le, drop-drop}
use Rattle.alphabet.specs.Alphabet.{all_of}
use Rattle.alphabet.specs.declared.Class.TheVariants.{Digit}
use Rattle.numbers.specs.Numbers.{done}
use Rattle.numbers.specs.declared.Refusal.TheVariants.{Field15, WeakList03}
use Rattle.weakfield.specs.WeakField.{weak_field}
use Rattle.weak.specs.declared.Weak.{Weak}
use Rattle.weakfield.proofs.Laws.{Tells, unmarked, empty, filled, weak_tells, tells_weak}
use Rattle.texts.specs.Texts.{as_two_digits, together, Optional, absent, present}
use Rattle.texts.specs.Exact.{Opens, Exact}
use Rattle.texts.proofs.Runs.{all_append, all_both, fronts, two_told}
use Rattle.texts.proofs.Closing.{apart_of}
use Rattle.texts.proofs.Readers.{own_mark, mark_first, run_exact, number_exact}
use Rattle.texts_data.specs.DataTexts.{WeakList, no_pins, pins, weak_text, AreEntries, IsWeakList}
use Rattle.texts_data.specs.DataWritings.{weak_in, WeakFine, weak_lists}

-- ---- entries

pub entries_long : (n : ℕ) (es : List (List ℕ)) → AreEntries n es → length (together es) ≡ length es * n
entries_long n [] g = sym (zero-mul n)
entries_long n (e ∷ es) g = length-append e (together es) ∙ omega (arith, entries_long n es g.1, g.0.0, suc-mul (length es) n)

entries_digits : (n : ℕ) (es : List (List ℕ)) → AreEntries n es → all_of Digit (together es) ≡ true
unfolding all_of
entries_digits n [] g = refl
entries_digits n (e ∷ es) g = all_append Digit e (together es) ∙ rw g.0.1 (entries_digits n es g.1)

-- so many entries
record Cut (k n : ℕ) (cs : List ℕ) : Type 0 where
  es : List (List ℕ)
  many : length es ≡ k
  fine : AreEntries n es
  whole : together es ≡ cs

-- a list is cut into its entries
cut : (k n : ℕ) (cs : List ℕ) → length cs ≡ k * n → all_of Digit cs ≡ true → Cut k n cs
cut zero n [] l d = record { es = []; many = refl; fine = tt; whole = refl }
cut zero n (c ∷ cs) l d = absurd (omega (arith, zero-mul n))
cut (suc k) n cs l d =
    let room : n ≤ length cs = omega (arith, suc-mul k n) in
    let both = all_both Digit (take n cs) (drop n cs) (ap (all_of Digit) (take-append-drop n cs) ∙ d) in
    let r = cut k n (drop n cs) (length-drop n cs ∙ omega (arith, suc-mul k n)) both.1 in
    record {
      es = take n cs ∷ r.es;
      many = ap suc r.many;
      fine = ((length-take-le n cs room, both.0), r.fine);
      whole = ap (λ (x : List ℕ). take n cs ++ x) r.whole ∙ take-append-drop n cs;
    }

entries_told : (n : ℕ) (es fs : List (List ℕ)) → length es ≡ length fs → AreEntries n es → AreEntries n fs → together es ≡ together fs → es ≡ fs
entries_told n [] [] l g h t = refl
entries_told n [] (f ∷ fs) l g h t = absurd (omega arith)
entries_told n (e ∷ es) [] l g h t = absurd (omega arith)
entries_told n (e ∷ es) (f ∷ fs) l g h t =
    let a = fronts n e f (together es) (together fs) g.0.0 h.0.0 t in
    let r = entries_told n es fs (omega arith) g.1 h.1 a.1 in
    let s = a.0 in
    cc

-- ---- the list

module _ (mark at : ℕ) where
  weak_back : (p : Optional WeakList) (rest : List ℕ) → WeakFine mark p rest
      → weak_field mark at ((weak_lists mark at).text p ++ rest) ≡ done (weak_in at p, length ((weak_lists mark at).text p))
  weak_back absent rest g = tells_weak mark at rest _ _ (unmarked g refl refl)
  weak_back (present no_pins) rest g =
      tells_weak mark at (mark ∷ as_two_digits 0 ++ rest) _ _ (empty (own_mark mark (as_two_digits 0 ++ rest)) ((number_exact 0 99 WeakList03 (omega arith)).back 0 rest (omega arith, omega arith)) refl refl)
  weak_back (present (pins n es)) rest g =
      let x = together es in
      let long : length x ≡ length es * n = entries_long n es g.2 in
      let some = g.0.0 in
      tells_weak mark at (mark ∷ (as_two_digits (length es) ++ (as_two_digits n ++ (x ++ rest)))) _ _
      (filled (length es) n (own_mark mark _)
      ((number_exact 0 99 WeakList03 (omega arith)).back (length es) (as_two_digits n ++ (x ++ rest)) (omega arith, g.0.1))
      (λ z. omega arith)
      ((number_exact 4 12 Field15 (omega arith)).back n (x ++ rest) g.1)
      ((run_exact Digit WeakList03 WeakList03 (length es * n)).back x rest (long, entries_digits n es g.2) ∙ ap (λ (k : ℕ). done (length es * n, k)) long)
      refl (omega (arith, long)))

  some_of : (c : ℕ) → (c ≡ 0 → ⊥) → 1 ≤ c
  some_of zero f = absurd (f refl)
  some_of (suc c) f = omega arith

  weak_only : (cs : List ℕ) (w : Weak) (n : ℕ) → Tells mark at cs w n → Opens (weak_lists mark at) cs n w
  weak_only cs w n (unmarked h e l) = record { part = absent; rest = cs; good = h; whole = refl; count = l; same = e }
  weak_only cs w n (empty h c e l) =
      let o = (number_exact 0 99 WeakList03 (omega arith)).only (drop 1 cs) 0 2 c in
      record {
        part = present no_pins;
        rest = o.rest;
        good = tt;
        whole = mark_first mark cs h ∙ ap (λ (x : List ℕ). mark ∷ x) (o.whole ∙ ap (λ (v : ℕ). as_two_digits v ++ o.rest) (sym o.same));
        count = l;
        same = e;
      }
  weak_only cs w n (filled count each h c some m r e l) =
      let o = (number_exact 0 99 WeakList03 (omega arith)).only (drop 1 cs) count 2 c in
      let p = (number_exact 4 12 Field15 (omega arith)).only (drop 3 cs) each 2 m in
      let q = (run_exact Digit WeakList03 WeakList03 (count * each)).only (drop 5 cs) (count * each) (count * each) r in
      let k = cut count each q.part q.good.0 q.good.1 in
      let e₁ : drop 1 cs ≡ as_two_digits count ++ o.rest = o.whole ∙ ap (λ (v : ℕ). as_two_digits v ++ o.rest) (sym o.same) in
      let e₃ : drop 3 cs ≡ as_two_digits each ++ p.rest = p.whole ∙ ap (λ (v : ℕ). as_two_digits v ++ p.rest) (sym p.same) in
      let s₃ : o.rest ≡ drop 3 cs = sym (ap (drop 2) e₁) ∙ drop-drop 2 1 cs in
      let s₅ : p.rest ≡ drop 5 cs = sym (ap (drop 2) e₃) ∙ drop-drop 2 3 cs in
      let x = together k.es in
      let e₅ : p.rest ≡ x ++ q.rest = s₅ ∙ q.whole ∙ ap (λ (y : List ℕ). y ++ q.rest) (sym k.whole) in
      let long : length x ≡ count * each = ap length k.whole ∙ q.good.0 in
      let many = k.many in
      record {
        part = present (pins each k.es);
        rest = q.rest;
        good = ((omega (arith, some_of count some), omega (arith, o.good.1, o.same)), rw p.same p.good, k.fine);
        whole = mark_first mark cs h ∙ ap (λ (y : List ℕ). mark ∷ y) (e₁ ∙ rw (s₃, e₃, e₅, many));
        count = l ∙ omega (arith, long);
        same = e ∙ rw many;
      }

  -- no two lists write the same
  weak_told : (p q : WeakList) → IsWeakList p → IsWeakList q → weak_text p ≡ weak_text q → p ≡ q
  weak_told no_pins no_pins g h t = refl
  weak_told no_pins (pins m fs) g h t = absurd (let z : as_two_digits 0 ++ [] ≡ as_two_digits (length fs) ++ (as_two_digits m ++ together fs) = t in omega (arith, (two_told 0 (length fs) [] _ z).0, h.0.0))
  weak_told (pins n es) no_pins g h t = absurd (let z : as_two_digits (length es) ++ (as_two_digits n ++ together es) ≡ as_two_digits 0 ++ [] = t in omega (arith, (two_told (length es) 0 _ [] z).0, g.0.0))
  weak_told (pins n es) (pins m fs) g h t =
      let a = two_told (length es) (length fs) _ _ t in
      let b = two_told n m (together es) (together fs) a.1 in
      let c = entries_told n es fs a.0 g.2 (subst (λ (k : ℕ). AreEntries k fs) (sym b.0) h.2) b.1 in
      let d = b.0 in
      cc

  list_told : (p q : Optional WeakList) (rest rest' : List ℕ) → WeakFine mark p rest → WeakFine mark q rest' → (weak_lists mark at).text p ≡ (weak_lists mark at).text q → p ≡ q
  list_told absent absent rest rest' g h t = refl
  list_told absent (present q) rest rest' g h t = absurd (let z : ◌≡◌ {A = ℕ} 0 1 = cc in omega arith)
  list_told (present p) absent rest rest' g h t = absurd (let z : ◌≡◌ {A = ℕ} 0 1 = cc in omega arith)
  list_told (present p) (present q) rest rest' g h t = ap present (weak_told p q g h (ap (drop 1) t))

  pub weak_exact : Exact (weak_field mark at) (weak_lists mark at)
  weak_exact = record {
    back = weak_back;
    only = λ cs w n e. weak_only cs w n (weak_tells mark at cs w n e);
    apart = apart_of (weak_field mark at) (weak_lists mark at) weak_back (λ p q rest rest' g h t _. list_told p q rest rest' g h t);
  }
