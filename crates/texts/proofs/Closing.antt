-- Readers that are exact stay so where they are joined: field after field, stage after stage.
-- Assumes nothing.
use Prim.Native.Nat.{ℕ, ◌+◌}
use native.Mathlib.Nat.{add_assoc}
use mathlib.Core.Path.{◌≡◌, refl, sym, ap, ◌∙◌, subst}
use mathlib.Core.List.{List, ◌++◌, append_assoc}
use lib.ListN.{length, take, drop, length-append}
use lib.Seq.{take_at, drop-drop, drop-append_seam}
use Rattle.numbers.specs.Numbers.{done, refused}
use Rattle.numbers.proofs.Laws.{value_of_lem}
use Rattle.fields.specs.Fields.{Found, Stage, read, field, fielded, onward}
use Rattle.fields.proofs.Reading.{field_read, onward_read, read_once}
use Rattle.texts.specs.Exact.{Writing, Opens, Apart, Exact, ExactAt}
use Rattle.texts.specs.Joining.{Same, joined, mapped}
use Rattle.texts.proofs.Runs.{fronts}

-- ---- parts that are told apart

-- a text that is read back ends in one place, so that parts are told apart where text and value tell them apart
pub apart_of : {A : Type 0} (reader : List ℕ → Found A) (w : Writing A)
    → ((p : w.Part) (rest : List ℕ) → w.fine p rest → reader (w.text p ++ rest) ≡ done (w.value p, length (w.text p)))
    → ((p q : w.Part) (rest rest' : List ℕ) → w.fine p rest → w.fine q rest' → w.text p ≡ w.text q → w.value p ≡ w.value q → p ≡ q) → Apart w
apart_of {A} reader w back told p q rest rest' g h e =
    let same = value_of_lem (sym (back p rest g) ∙ ap reader e ∙ back q rest' h) in
    let long : length (w.text p) ≡ length (w.text q) = ap (λ (r : A × ℕ). r.1) same in
    let f = fronts (length (w.text q)) (w.text p) (w.text q) rest rest' long refl e in
    (told p q rest rest' g h f.0 (ap (λ (r : A × ℕ). r.0) same), f.1)

-- ---- one after the other

-- what is behind a text begins where the text ends
pub past_text : (s : List ℕ) (at : ℕ) (t rest : List ℕ) → drop at s ≡ t ++ rest → drop (at + length t) s ≡ rest
past_text s at t rest e = sym (drop-drop (length t) at s) ∙ ap (drop (length t)) e ∙ drop-append_seam t rest

-- a text of so many characters
pub stands_at : (s : List ℕ) (at n : ℕ) (t rest : List ℕ) → length t ≡ n → drop at s ≡ t ++ rest → take n (drop at s) ≡ t
stands_at s at n t rest l e = ap (take n) e ∙ take_at t rest n l

module _ {A B : Type 0} (s : List ℕ) (at : ℕ) (w : Writing A) (next : A → ℕ → Stage B) (v : A → ℕ → Writing B) where
  -- two texts that follow each other
  both : (n : ℕ) (a : A) (b : B) (past : ℕ) (o : Opens w (drop at s) n a)
      → (m : ℕ) × (past ≡ at + length (w.text o.part) + m)
      × Opens (v (w.value o.part) (at + length (w.text o.part))) (drop (at + length (w.text o.part)) s) m b
      → (k : ℕ) × (past ≡ at + k) × Opens (joined at w v) (drop at s) k b
  both n a b past o (m, e, p) =
      let t = w.text o.part in
      let u = (v (w.value o.part) (at + length t)).text p.part in
      let behind : o.rest ≡ u ++ p.rest = sym (past_text s at t o.rest o.whole) ∙ p.whole in (
        length t + m,
        e ∙ add_assoc at (length t) m,
        record {
          part = (o.part, p.part);
          rest = p.rest;
          good = (subst (w.fine o.part) behind o.good, p.good);
          whole = o.whole ∙ ap (λ (l : List ℕ). t ++ l) behind ∙ sym (append_assoc t u p.rest);
          count = ap (λ (k : ℕ). length t + k) p.count ∙ sym (length-append t u);
          same = p.same;
        },
      )

  -- the first parts are told apart, and so what is behind them; then the second
  joined_apart : Apart w → ((a : A) (at' : ℕ) → Apart (v a at')) → Apart (joined at w v)
  joined_apart x y p q rest rest' g h e =
      let t = w.text p.0 in
      let u = w.text q.0 in
      let t₂ = (v (w.value p.0) (at + length t)).text p.1 in
      let u₂ = (v (w.value q.0) (at + length u)).text q.1 in
      let f = x p.0 q.0 (t₂ ++ rest) (u₂ ++ rest') g.0 h.0 (sym (append_assoc t t₂ rest) ∙ e ∙ append_assoc u u₂ rest') in
      subst (λ (q₁ : w.Part). (q₂ : (v (w.value q₁) (at + length (w.text q₁))).Part) → (v (w.value q₁) (at + length (w.text q₁))).fine q₂ rest'
      → t₂ ++ rest ≡ (v (w.value q₁) (at + length (w.text q₁))).text q₂ ++ rest' → (◌≡◌ {A = (joined at w v).Part} p (q₁, q₂)) × (rest ≡ rest'))
      f.0
      (λ q₂ k d. let r = y (w.value p.0) (at + length t) p.1 q₂ rest rest' g.1 k d in (ap (λ (z : (v (w.value p.0) (at + length t)).Part). (p.0, z)) r.0, r.1))
      q.1 h.1 f.1

  -- a stage, and what comes next
  pub onward_exact : (stage : Stage A) → ExactAt s at stage w → ((a : A) (at' : ℕ) → ExactAt s at' (next a at') (v a at'))
      → ExactAt s at (onward stage next) (joined at w v)
  onward_exact stage x y = record {
    back = λ p rest g e.
        let t = w.text p.0 in
        let u = (v (w.value p.0) (at + length t)).text p.1 in
        let whole : drop at s ≡ t ++ (u ++ rest) = e ∙ append_assoc t u rest in
        let one = x.back p.0 (u ++ rest) g.0 whole in
        let two = (y (w.value p.0) (at + length t)).back p.1 rest g.1 (past_text s at t (u ++ rest) whole) in
        rw one (two ∙ rw (length-append t u, add_assoc at (length t) (length u)));
    only = λ b past e.
        let o = onward_read stage next b past e in
        let f = x.only o.0 o.1 o.2 in
        let p = f.2 in
        let place : o.1 ≡ at + length (w.text p.part) = f.1 ∙ ap (λ (k : ℕ). at + k) p.count in
        both f.0 o.0 b past p ((y (w.value p.part) (at + length (w.text p.part))).only b past (rw (← p.same, ← place) o.3));
    apart = joined_apart x.apart (λ a at'. (y a at').apart);
  }

-- ---- fields

-- a field alone is a stage
pub field_alone : {A : Type 0} (s : List ℕ) (at k : ℕ) (reader : List ℕ → Found A) (w : Writing A) → Exact reader w → ExactAt s at (field k reader s at read) w
field_alone s at k reader w x = record {
  back = λ p rest g e. rw (e, x.back p rest g);
  only = λ a past e.
      let f = field_read k reader s at read a past e in
      (f.1, sym (read_once f.3).1, rw (read_once f.3).0 at (x.only (drop at s) f.0 f.1 f.2));
  apart = x.apart;
}

as_onward : {A B : Type 0} (k at : ℕ) (o : Found A) (next : A → ℕ → Stage B) → fielded k at o next ≡ onward (fielded k at o read) next
as_onward k at (done r) next = refl
as_onward k at (refused q) next = refl

-- a field, and what comes next
pub field_exact : {A B : Type 0} (s : List ℕ) (at k : ℕ) (reader : List ℕ → Found A) (w : Writing A) (next : A → ℕ → Stage B) (v : A → ℕ → Writing B)
    → Exact reader w → ((a : A) (at' : ℕ) → ExactAt s at' (next a at') (v a at')) → ExactAt s at (field k reader s at next) (joined at w v)
field_exact s at k reader w next v x y =
    rw (as_onward k at (reader (drop at s)) next) (onward_exact s at w next v (field k reader s at read) (field_alone s at k reader w x) y)

-- ---- the last stage, and the last field

pub onward_last : {A B : Type 0} (s : List ℕ) (at : ℕ) (stage : Stage A) (w : Writing A) (f : A → B) → ExactAt s at stage w
    → ExactAt s at (onward stage (λ a past. read (f a) past)) (mapped f w)
onward_last s at stage w f x = record {
  back = λ p rest g e. rw (x.back p rest g e);
  only = λ b past e.
      let o = onward_read stage (λ a past. read (f a) past) b past e in
      let r = read_once o.3 in
      let h = x.only o.0 o.1 o.2 in
      let p = h.2 in
      (h.0, sym r.1 ∙ h.1, record { part = p.part; rest = p.rest; good = p.good; whole = p.whole; count = p.count; same = sym r.0 ∙ ap f p.same });
  apart = x.apart;
}

pub field_last_lem : {A B : Type 0} (s : List ℕ) (at k : ℕ) (reader : List ℕ → Found A) (w : Writing A) (f : A → B) → Exact reader w
    → ExactAt s at (field k reader s at (λ a past. read (f a) past)) (mapped f w)
field_last_lem s at k reader w f x =
    rw (as_onward k at (reader (drop at s)) (λ a past. read (f a) past)) (onward_last s at (field k reader s at read) w f (field_alone s at k reader w x))

-- ---- the same texts, in other parts

module _ {A : Type 0} (w v : Writing A) (m : Same w v) where
  opens_as : (cs : List ℕ) (n : ℕ) (a : A) → Opens w cs n a → Opens v cs n a
  opens_as cs n a o = record {
    part = m.to o.part;
    rest = o.rest;
    good = m.good o.part o.rest o.good;
    whole = o.whole ∙ ap (λ (l : List ℕ). l ++ o.rest) (sym (m.text o.part));
    count = o.count ∙ ap length (sym (m.text o.part));
    same = o.same ∙ sym (m.value o.part);
  }

  apart_as : Apart w → Apart v
  apart_as x p q rest rest' g h e =
      let f = m.from p rest g in
      let k = m.from q rest' h in
      let left : v.text p ≡ w.text f.0 = ap v.text (sym f.1) ∙ m.text f.0 in
      let right : v.text q ≡ w.text k.0 = ap v.text (sym k.1) ∙ m.text k.0 in
      let r = x f.0 k.0 rest rest' f.2 k.2 (ap (λ (l : List ℕ). l ++ rest) (sym left) ∙ e ∙ ap (λ (l : List ℕ). l ++ rest') right) in
      (sym f.1 ∙ ap m.to r.0 ∙ k.1, r.1)

  pub exact_as : (reader : List ℕ → Found A) → Exact reader w → Exact reader v
  exact_as reader x = record {
    back = λ q rest g.
        let f = m.from q rest g in
        subst (λ (p : v.Part). reader (v.text p ++ rest) ≡ done (v.value p, length (v.text p))) f.1
        (rw (m.text f.0, m.value f.0) (x.back f.0 rest f.2));
    only = λ cs a n e. opens_as cs n a (x.only cs a n e);
    apart = apart_as x.apart;
  }

  pub stage_as : (s : List ℕ) (at : ℕ) (stage : Stage A) → ExactAt s at stage w → ExactAt s at stage v
  stage_as s at stage x = record {
    back = λ q rest g.
        let f = m.from q rest g in
        subst (λ (p : v.Part). drop at s ≡ v.text p ++ rest → stage ≡ read (v.value p) (at + length (v.text p))) f.1
        (rw (m.text f.0, m.value f.0) (x.back f.0 rest f.2));
    only = λ a past e. let o = x.only a past e in (o.0, o.1, opens_as (drop at s) o.0 a o.2);
    apart = apart_as x.apart;
  }
