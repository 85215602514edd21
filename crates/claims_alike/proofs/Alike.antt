-- Commands that are alike outside the characters of the PIN block are read alike.
-- Assumes nothing.
use Prim.Native.Nat.{ℕ, ◌+◌, ◌-◌, ◌≤◌}
use native.Mathlib.Omega.{arith}
use mathlib.Core.Path.{◌≡◌, sym, ap, ap₂, ◌∙◌, subst}
use mathlib.Core.List.{List, ◌++◌}
use lib.ListN.{take, drop, take-append-drop}
use lib.Seq.{take_at, drop-drop}
use Rattle.fields.specs.Fields.{Stage, read}
use Rattle.fields.proofs.Laws.{slice_ahead}
use Rattle.fields.proofs.Reading.{onward_read, read_once}
use Rattle.texts.specs.Exact.{Writing, ExactAt}
use Rattle.claims_alike.specs.Alike.{Layout, fields, Outside, Alike, ReadAlike}

module _ {A : Type 0} (s t : List ℕ) (at : ℕ) (x y : Stage A) (w : Writing A) (here : ExactAt s at x w) (there : ExactAt t at y w) (a : A) (past : ℕ) (e : x ≡ read a past) where
  -- what is written is read alike where what is ahead is the same
  pub ahead : drop at s ≡ drop at t → y ≡ read a past
  ahead alike =
      let h = here.only a past e in
      let o = h.2 in
      there.back o.part o.rest o.good (sym alike ∙ o.whole) ∙ ap₂ read (sym o.same) (sym (h.1 ∙ ap (λ (k : ℕ). at + k) o.count))

  -- and, where it is fine whatever is behind it, where all before its end is the same
  pub before : ((p : w.Part) (rest rest' : List ℕ) → w.fine p rest → w.fine p rest') → take past s ≡ take past t → y ≡ read a past
  before whatever alike =
      let h = here.only a past e in
      let n = h.0 in
      let o = h.2 in
      let text = w.text o.part in
      let same : take (at + n) s ≡ take (at + n) t = rw (← h.1) alike in
      let front : take n (drop at t) ≡ text = sym (slice_ahead at n t) ∙ ap (drop at) (sym same) ∙ slice_ahead at n s ∙ ap (take n) o.whole ∙ take_at text o.rest n (sym o.count) in
      let whole : drop at t ≡ text ++ drop n (drop at t) = sym (take-append-drop n (drop at t)) ∙ ap (λ (l : List ℕ). l ++ drop n (drop at t)) front in
      there.back o.part (drop n (drop at t)) (whatever o.part o.rest (drop n (drop at t)) o.good) whole
      ∙ ap₂ read (sym o.same) (sym (h.1 ∙ ap (λ (k : ℕ). at + k) o.count))

-- the same further on
further : (at later : ℕ) (s t : List ℕ) → at ≤ later → drop at s ≡ drop at t → drop later s ≡ drop later t
further at later s t l e =
    let k : at + (later - at) ≡ later = omega arith in
    rw (← k) (sym (drop-drop (later - at) at s) ∙ ap (drop (later - at)) e ∙ drop-drop (later - at) at t)

module _ {n : ℕ} {F X A S : Type 0} (c : Layout n F X A S) (s t : List ℕ) (at : ℕ) (a b : A) (past past' : ℕ) where
  -- from what the three parts of one command read, and what they read in the other
  parts_alike :
      (f f' : F) (x x' : X) (at₂ at₂' at₃ at₃' : ℕ)
      → c.front.stage s at ≡ read f at₂ → c.block.stage s at₂ ≡ read x at₃ → (c.tail f x).stage s at₃ ≡ read a past
      → c.front.stage t at ≡ read f' at₂' → c.block.stage t at₂' ≡ read x' at₃' → fields c t at ≡ read b past'
      → Outside n (c.place a) s t → Alike c s t at a b
  parts_alike f f' x x' at₂ at₂' at₃ at₃' e₁ e₂ e₃ d₁ d₂ e' alike =
      let over = c.passes.over s at₂ x at₃ e₂ in
      let h = ((c.tail f x).exact s at₃).only a past e₃ in
      let o = h.2 in
      let place : c.place a ≡ at₂ = ap c.place o.same ∙ c.placed f x at₃ o.part ∙ over.0 in
      let out = subst (λ (i : ℕ). Outside n i s t) place alike in
      let fronted = before s t at (c.front.stage s at) (c.front.stage t at) (c.front.writing at) (c.front.exact s at) (c.front.exact t at) f at₂ e₁ (c.whatever at) out.before in
      let there : at₂ ≡ at₂' = (read_once (sym fronted ∙ d₁)).1 in
      let blocked = c.passes.blind s t at₂ x x' at₃ at₃' out.behind e₂ (rw there d₂) in
      let from : (i : ℕ) → at₃ ≤ i → drop i s ≡ drop i t = λ i l. further (at₂ + n) i s t (omega (arith, over.1)) out.behind in
      let tailed = ahead s t at₃ ((c.tail f x).stage s at₃) ((c.tail f x).stage t at₃) ((c.tail f x).writing at₃) ((c.tail f x).exact s at₃) ((c.tail f x).exact t at₃) a past e₃ (from at₃ (omega arith)) in
      let whole : fields c t at ≡ read a past = rw (fronted, blocked) tailed in
      let same = (read_once (sym whole ∙ e')).0 in
      record {
        same = same;
        within = omega (arith, place, ((c.front.exact s at).only f at₂ e₁).1);
        seen = subst (λ (v : A). c.seen v s ≡ c.seen v t) (sym o.same) (c.looked f x at₃ o.part s t from) ∙ ap (λ (v : A). c.seen v t) same;
      }

pub read_alike : ReadAlike
read_alike n F X A S c s t at a b past past' e e' alike =
    let f = onward_read (c.front.stage s at) _ a past e in
    let x = onward_read (c.block.stage s f.1) _ a past f.3 in
    let f' = onward_read (c.front.stage t at) _ b past' e' in
    let x' = onward_read (c.block.stage t f'.1) _ b past' f'.3 in
    parts_alike c s t at a b past past' f.0 f'.0 x.0 x'.0 f.1 f'.1 x.1 x'.1 f.2 x.2 x.3 f'.2 x'.2 e' alike
