-- The reader of each kind of field is exact, and so is one that is made of exact readers.
-- Assumes nothing.
use Prim.Native.Nat.{ℕ, ◌+◌, ◌*◌, ◌≤◌, ◌<◌, ◌/◌, ◌%◌}
use native.Mathlib.Omega.{arith}
use mathlib.Core.Path.{◌≡◌, refl, sym, ap, ◌∙◌}
use mathlib.Core.Logic.{◌⊎◌, inl, inr}
use mathlib.Core.List.{List, [], ◌∷◌, ◌++◌}
use mathlib.Core.Bool.{Bool, true, false, cond, ◌&&◌}
use lib.ListN.{length, take, drop, length-append, take-append-drop}
use lib.Seq.{take_at, length-take-le}
use lib.Dec.{leb, eqb}
use borrow.Author.Tests.{leb-true, le-leb, lt-leb, eq-eqb, eqb-true}
use Rattle.nibbles.proofs.Lists.{and_left, and_right}
use Rattle.alphabet.specs.Alphabet.{admits, all_of, begins, value_of}
use Rattle.alphabet.specs.declared.Class.{Class}
use Rattle.alphabet.specs.declared.Class.TheVariants.{Digit, Printable}
use Rattle.numbers.specs.Numbers.{done, refused, and_then}
use Rattle.numbers.specs.declared.Refusal.{Refusal}
use Rattle.numbers.specs.declared.Refusal.TheVariants.{Field15}
use Rattle.numbers.proofs.Laws.{then_done, value_of_lem}
use Rattle.fields.specs.Fields as fields
use Rattle.fields.specs.Fields.{Found, run, number, marked, behind, at_most, trailer}
use Rattle.fields.proofs.Laws.{run_whole, run_found, number_whole, number_found, number_digits}
use Rattle.fields.proofs.Reading.{behind_done}
use Rattle.texts.specs.Texts.{Optional, absent, present, optional_text, as_two_digits}
use Rattle.texts.specs.Exact.{Writing, Opens, Apart, Exact}
use Rattle.texts.specs.Joining.{mapped, either, EitherFine, either_text, either_value, optional, OptionalFine, optional_value}
use Rattle.texts.specs.Writings.{runs, numbers, trailing, trailers}
use Rattle.texts.proofs.Closing.{apart_of}

-- ---- readers of any kind

-- one whose value is turned into another
pub mapped_exact : {A B : Type 0} (f : A → B) (reader : List ℕ → Found A) (w : Writing A) → Exact reader w
    → Exact (λ cs. and_then (reader cs) (λ r. done (f r.0, r.1))) (mapped f w)
mapped_exact {A} {B} f reader w x = record {
  back = λ p rest g. rw (x.back p rest g);
  only = λ cs b n e.
      let t = then_done (reader cs) (λ (r : A × ℕ). done (f r.0, r.1)) (b, n) e in
      let u = value_of_lem t.2 in
      let o = x.only cs t.0.0 t.0.1 t.1 in
      record {
        part = o.part;
        rest = o.rest;
        good = o.good;
        whole = o.whole;
        count = sym (ap (λ (r : B × ℕ). r.1) u) ∙ o.count;
        same = sym (ap (λ (r : B × ℕ). r.0) u) ∙ ap f o.same;
      };
  apart = x.apart;
}

-- one that is asked only where a character is there
pub some_exact : {A : Type 0} (q : Refusal) (reader : List ℕ → Found A) (w : Writing A) → Exact reader w → ((p : w.Part) (rest : List ℕ) → w.fine p rest → 1 ≤ length (w.text p))
    → Exact (λ cs. cond (leb 1 (length cs)) (reader cs) (refused q)) w
some_exact {A} q reader w x some = record {
  back = λ p rest g. let l = some p rest g in rw (le-leb 1 (length (w.text p ++ rest)) (omega (arith, length-append (w.text p) rest))) (x.back p rest g);
  only = λ cs a n e. x.only cs a n (there (leb 1 (length cs)) (reader cs) a n e);
  apart = x.apart;
}
  where
    there : (b : Bool) (o : Found A) (a : A) (n : ℕ) → cond b o (refused q) ≡ done (a, n) → o ≡ done (a, n)
    there true o a n e = e
    there false o a n e = absurd (let z : ◌≡◌ {A = ℕ} 0 1 = cc in omega arith)

-- ---- behind a letter or a mark

pub own_mark : (m : ℕ) (cs : List ℕ) → marked m (m ∷ cs) ≡ true
unfolding begins
own_mark m cs = rw (eq-eqb m m refl)

pub mark_first : (m : ℕ) (cs : List ℕ) → marked m cs ≡ true → cs ≡ m ∷ drop 1 cs
unfolding begins
mark_first m [] h = absurd (let z : ◌≡◌ {A = ℕ} 0 1 = cc in omega arith)
mark_first m (c ∷ cs) h = let e : m ≡ c = eqb-true m c (and_left (eqb m c) true h) in rw e

-- characters that begin with a mark are not some that do not
not_both : (m : ℕ) (cs ds : List ℕ) → marked m ds ≡ false → m ∷ cs ≡ ds → ⊥
not_both m cs ds h e = let t : true ≡ false = sym (own_mark m cs) ∙ ap (marked m) e ∙ h in let z : ◌≡◌ {A = ℕ} 0 1 = cc in omega arith

behind_mark : {A : Type 0} (m : ℕ) (reader : List ℕ → Found A) (w : Writing A) → Exact reader w → (cs : List ℕ) (a : A) (n : ℕ) → marked m cs ≡ true
    → behind 1 (reader (drop 1 cs)) ≡ done (a, n) → (k : ℕ) × (n ≡ 1 + k) × (o : Opens w (drop 1 cs) k a) × (cs ≡ m ∷ (w.text o.part ++ o.rest))
behind_mark m reader w x cs a n h e =
    let f = behind_done (reader (drop 1 cs)) a n e in
    let o = x.only (drop 1 cs) a f.0 f.1 in
    (f.0, f.2, o, mark_first m cs h ∙ ap (λ (l : List ℕ). m ∷ l) o.whole)

-- one behind a letter, and another where the letter is not there
pub either_exact : {A : Type 0} (m : ℕ) (reader other : List ℕ → Found A) (w v : Writing A) → Exact reader w → Exact other v
    → Exact (λ cs. cond (marked m cs) (behind 1 (reader (drop 1 cs))) (other cs)) (either m w v)
either_exact {A} m reader other w v x y = record { back = back; only = λ cs a n e. only cs a n (marked m cs) refl e; apart = apart }
  where
    back : (p : w.Part ⊎ v.Part) (rest : List ℕ) → EitherFine m w v p rest
        → cond (marked m (either_text m w v p ++ rest)) (behind 1 (reader (drop 1 (either_text m w v p ++ rest)))) (other (either_text m w v p ++ rest))
        ≡ done (either_value w v p, length (either_text m w v p))
    back (inl p) rest g = rw (own_mark m (w.text p ++ rest), x.back p rest g) (ap (λ (k : ℕ). done (w.value p, k)) (omega arith))
    back (inr p) rest g = rw g.0 (y.back p rest g.1)

    only : (cs : List ℕ) (a : A) (n : ℕ) (b : Bool) → marked m cs ≡ b → cond b (behind 1 (reader (drop 1 cs))) (other cs) ≡ done (a, n) → Opens (either m w v) cs n a
    only cs a n true h e =
        let f = behind_mark m reader w x cs a n h e in
        let o = f.2 in
        record { part = inl o.part; rest = o.rest; good = o.good; whole = f.3; count = omega (arith, f.1, o.count); same = o.same }
    only cs a n false h e =
        let o = y.only cs a n e in
        record { part = inr o.part; rest = o.rest; good = (ap (marked m) (sym o.whole) ∙ h, o.good); whole = o.whole; count = o.count; same = o.same }

    apart : Apart (either m w v)
    apart (inl p) (inl q) rest rest' g h e = let r = x.apart p q rest rest' g h (ap (drop 1) e) in (ap inl r.0, r.1)
    apart (inl p) (inr q) rest rest' g h e = absurd (not_both m (w.text p ++ rest) (v.text q ++ rest') h.0 e)
    apart (inr p) (inl q) rest rest' g h e = absurd (not_both m (w.text q ++ rest') (v.text p ++ rest) g.0 (sym e))
    apart (inr p) (inr q) rest rest' g h e = let r = y.apart p q rest rest' g.1 h.1 e in (ap inr r.0, r.1)

-- a part that is there is not one that is absent
pub optional_apart : {A : Type 0} (m : ℕ) (w : Writing A) (none : A) → Apart w → Apart (optional (m ∷ []) w none)
optional_apart m w none x absent absent rest rest' g h e = (refl, e)
optional_apart m w none x absent (present q) rest rest' g h e = absurd (not_both m (w.text q ++ rest') rest g (sym e))
optional_apart m w none x (present p) absent rest rest' g h e = absurd (not_both m (w.text p ++ rest) rest' h e)
optional_apart m w none x (present p) (present q) rest rest' g h e = let r = x p q rest rest' g h (ap (drop 1) e) in (ap present r.0, r.1)

-- one behind a mark, or nothing
pub optional_exact : {A : Type 0} (m : ℕ) (reader : List ℕ → Found A) (w : Writing A) (none : A) → Exact reader w
    → Exact (λ cs. cond (marked m cs) (behind 1 (reader (drop 1 cs))) (done (none, 0))) (optional (m ∷ []) w none)
optional_exact {A} m reader w none x = record { back = back; only = λ cs a n e. only cs a n (marked m cs) refl e; apart = optional_apart m w none x.apart }
  where
    back : (p : Optional w.Part) (rest : List ℕ) → OptionalFine (m ∷ []) w p rest
        → cond (marked m (optional_text (m ∷ []) w.text p ++ rest)) (behind 1 (reader (drop 1 (optional_text (m ∷ []) w.text p ++ rest)))) (done (none, 0))
        ≡ done (optional_value w none p, length (optional_text (m ∷ []) w.text p))
    back absent rest g = rw g
    back (present p) rest g = rw (own_mark m (w.text p ++ rest), x.back p rest g) (ap (λ (k : ℕ). done (w.value p, k)) (omega arith))

    only : (cs : List ℕ) (a : A) (n : ℕ) (b : Bool) → marked m cs ≡ b → cond b (behind 1 (reader (drop 1 cs))) (done (none, 0)) ≡ done (a, n) → Opens (optional (m ∷ []) w none) cs n a
    only cs a n true h e =
        let f = behind_mark m reader w x cs a n h e in
        let o = f.2 in
        record { part = present o.part; rest = o.rest; good = o.good; whole = f.3; count = omega (arith, f.1, o.count); same = o.same }
    only cs a n false h e =
        let r = value_of_lem e in
        record { part = absent; rest = cs; good = h; whole = refl; count = sym (ap (λ (r : A × ℕ). r.1) r); same = sym (ap (λ (r : A × ℕ). r.0) r) }

-- ---- so many characters of a class

pub run_exact : (k : Class) (p q : Refusal) (n : ℕ) → Exact (run k p q n) (runs k n)
run_exact k p q n = record { back = back; only = only; apart = apart_of (run k p q n) (runs k n) back (λ _ _ _ _ _ _ t _. t) }
  where
    back : (t rest : List ℕ) → (runs k n).fine t rest → run k p q n (t ++ rest) ≡ done (n, length t)
    back t rest g =
        let long : length t ≡ n = g.0 in
        let all : all_of k (take n (t ++ rest)) ≡ true = rw (take_at t rest n long) g.1 in
        run_whole k p q n (t ++ rest) (omega (arith, length-append t rest, long)) all ∙ rw long

    only : (cs : List ℕ) (v m : ℕ) → run k p q n cs ≡ done (v, m) → Opens (runs k n) cs m v
    only cs v m e =
        let f = run_found k p q n cs v m e in
        let long = length-take-le n cs f.2 in
        record { part = take n cs; rest = drop n cs; good = (long, f.3); whole = sym (take-append-drop n cs); count = f.1 ∙ sym long; same = f.0 }

-- ---- a number in two digits

pub digit_value : (d : ℕ) → d < 10 → value_of (0x30 + d) ≡ d
unfolding value_of
digit_value d h = rw (lt-leb 0x41 (0x30 + d) (omega arith)) (omega arith)

pub digit_admits : (d : ℕ) → d < 10 → admits Digit (0x30 + d) ≡ true
digit_admits d h = rw (le-leb 0x30 (0x30 + d) (omega arith)) (le-leb (0x30 + d) 0x39 (omega arith))

pub digit_char : (c : ℕ) → admits Digit c ≡ true → (c ≡ 0x30 + value_of c) × (value_of c < 10)
unfolding value_of
digit_char c e =
    let low = leb-true 0x30 c (and_left (leb 0x30 c) (leb c 0x39) e) in
    let high = leb-true c 0x39 (and_right (leb 0x30 c) (leb c 0x39) e) in
    rw (lt-leb 0x41 c (omega arith)) (omega arith, omega arith)

two_back : (v : ℕ) (rest : List ℕ) → v ≤ 99 → (all_of Digit (take 2 (as_two_digits v ++ rest)) ≡ true) × (fields.two_digits 0 (as_two_digits v ++ rest) ≡ v)
unfolding all_of
two_back v rest h = (
  rw (digit_admits (v / 10) (omega arith), digit_admits (v % 10) (omega arith)),
  rw (digit_value (v / 10) (omega arith), digit_value (v % 10) (omega arith)) (omega arith),
)

two_only : (cs : List ℕ) → 2 ≤ length cs → all_of Digit (take 2 cs) ≡ true → take 2 cs ≡ as_two_digits (fields.two_digits 0 cs)
unfolding all_of
two_only [] h e = absurd (omega arith)
two_only (c ∷ []) h e = absurd (omega arith)
two_only (c ∷ d ∷ cs) h e =
    let first = digit_char c (and_left (admits Digit c) (admits Digit d && true) e) in
    let second = digit_char d (and_left (admits Digit d) true (and_right (admits Digit c) (admits Digit d && true) e)) in
    let p : c ≡ 0x30 + (value_of c * 10 + value_of d) / 10 = omega arith in
    let q : d ≡ 0x30 + (value_of c * 10 + value_of d) % 10 = omega arith in
    cc

pub number_exact : (low high : ℕ) (q : Refusal) → high ≤ 99 → Exact (number low high q) (numbers low high)
number_exact low high q top = record { back = back; only = only; apart = apart_of (number low high q) (numbers low high) back (λ _ _ _ _ _ _ _ v. v) }
  where
    back : (v : ℕ) (rest : List ℕ) → (numbers low high).fine v rest → number low high q (as_two_digits v ++ rest) ≡ done (v, 2)
    back v rest g =
        let d = two_back v rest (omega (arith, g.1)) in
        let cs = as_two_digits v ++ rest in
        let r = run_whole Digit q q 2 cs (omega arith) d.0 in
        number_whole low high q cs (2, 2) r (omega (arith, g.0, d.1)) (omega (arith, g.1, d.1)) ∙ ap (λ (k : ℕ). done (k, 2)) d.1

    only : (cs : List ℕ) (v m : ℕ) → number low high q cs ≡ done (v, m) → Opens (numbers low high) cs m v
    only cs v m e =
        let f = number_found low high q cs v m e in
        let t : take 2 cs ≡ as_two_digits v = two_only cs f.1 (number_digits low high q cs v m e) ∙ ap as_two_digits (sym f.4) in
        record { part = v; rest = drop 2 cs; good = (f.2, f.3); whole = sym (take-append-drop 2 cs) ∙ ap (λ (l : List ℕ). l ++ drop 2 cs) t; count = f.0; same = refl }

-- ---- a trailer

abbrev text_reader : List ℕ → Found ℕ
text_reader cs = run Printable Field15 Field15 (at_most 32 (length cs)) cs

-- what is left, or as much as it may have, is 32 characters at most
most_back : (cs rest : List ℕ) → length cs ≤ 32 → (rest ≡ []) ⊎ (length cs ≡ 32) → length cs ≡ at_most 32 (length (cs ++ rest))
most_back cs rest l (inl e) = rw (e, length-append cs [], le-leb (length cs + 0) 32 (omega arith)) (omega arith)
most_back cs rest l (inr e) = by (leb (length (cs ++ rest)) 32) refl
  where
    by : (b : Bool) → leb (length (cs ++ rest)) 32 ≡ b → length cs ≡ cond b (length (cs ++ rest)) 32
    by true h = omega (arith, leb-true (length (cs ++ rest)) 32 h, length-append cs rest, e)
    by false h = e

nothing : (rest : List ℕ) → length rest ≡ 0 → rest ≡ []
nothing [] l = refl
nothing (c ∷ rest) l = absurd (omega arith)

most_only : (cs rest : List ℕ) → length cs ≡ at_most 32 (length (cs ++ rest)) → (length cs ≤ 32) × ((rest ≡ []) ⊎ (length cs ≡ 32))
most_only cs rest e = by (leb (length (cs ++ rest)) 32) refl e
  where
    by : (b : Bool) → leb (length (cs ++ rest)) 32 ≡ b → length cs ≡ cond b (length (cs ++ rest)) 32 → (length cs ≤ 32) × ((rest ≡ []) ⊎ (length cs ≡ 32))
    by true h f = (omega (arith, leb-true (length (cs ++ rest)) 32 h, f), inl (nothing rest (omega (arith, length-append cs rest, f))))
    by false h f = (omega (arith, f), inr f)

text_exact : Exact text_reader trailing
text_exact = record { back = back; only = only; apart = apart_of text_reader trailing back (λ _ _ _ _ _ _ t _. t) }
  where
    back : (t rest : List ℕ) → trailing.fine t rest → text_reader (t ++ rest) ≡ done (length t, length t)
    back t rest g =
        let most = most_back t rest g.0.0 g.1 in
        (run_exact Printable Field15 Field15 (at_most 32 (length (t ++ rest)))).back t rest (most, g.0.1) ∙ ap (λ (k : ℕ). done (k, length t)) (sym most)

    only : (cs : List ℕ) (v m : ℕ) → text_reader cs ≡ done (v, m) → Opens trailing cs m v
    only cs v m e =
        let o = (run_exact Printable Field15 Field15 (at_most 32 (length cs))).only cs v m e in
        let most = most_only o.part o.rest (o.good.0 ∙ ap (λ (l : List ℕ). at_most 32 (length l)) o.whole) in
        record { part = o.part; rest = o.rest; good = ((most.0, o.good.1), most.1); whole = o.whole; count = o.count; same = o.same ∙ sym o.good.0 }

pub trailer_exact : Exact trailer trailers
unfolding trailer
trailer_exact = optional_exact 0x19 text_reader trailing 0 text_exact
