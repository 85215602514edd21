-- What the last fields come to, and what an end that was read says of its places.
-- Assumes nothing.
use Prim.Native.Nat.{ℕ, ◌+◌, ◌<◌, ◌≤◌}
use native.Mathlib.Omega.{arith}
use mathlib.Core.Path.{◌≡◌, refl, sym}
use mathlib.Core.List.{List}
use mathlib.Core.Bool.{Bool, true, false, cond}
use Rattle.std.specs.Prelude.{Option, Ok, Err}
use lib.ListN.{length, drop}
use lib.Dec.{leb}
use borrow.Author.Tests.{lt-leb, le-leb, leb-true}
use Rattle.numbers.specs.declared.Refusal.TheVariants.{Field15}
use Rattle.fields.specs.Fields.{Stage, read, faulty, trailer}
use Rattle.fields.specs.declared.Fault.{Fault}
use Rattle.fields.proofs.Reading.{field_read, read_once, inside_from, trailer_33}
use Rattle.lmk.specs.Lmk.{lmk_field}
use Rattle.lmk.proofs.Laws.{lmk_onward}
use Rattle.endings.specs.Answers.{end_of}
use Rattle.endings.specs.Endings.{closed, end, all_agree, last_id}
use Rattle.keyfields.specs.declared.Keys.{Keys}

-- ---- behind the code's answer: the trailer's place, or the fault

pub end_found : (o : Stage ℕ) (mark : ℕ) → Ok mark ≡ end_of o → (past : ℕ) × (o ≡ read mark past)
end_found (read m past) mark e = (past, (let p : m ≡ mark = cc in rw p))
end_found (faulty f) mark e = absurd (let z : ◌≡◌ {A = ℕ} 0 1 = cc in omega arith)

pub end_bad : (o : Stage ℕ) (f : Fault) → Err f ≡ end_of o → o ≡ faulty f
end_bad (read m past) f e = absurd (let z : ◌≡◌ {A = ℕ} 0 1 = cc in omega arith)
end_bad (faulty g) f e = cc

-- ---- the last fields, answer by answer

module _ (ks : Keys) (own : Option ℕ) (first at : ℕ) (s : List ℕ) (mark past : ℕ) where
  -- something is left over
  pub closed_over : past < length s → closed ks own first at s mark past ≡ faulty (record { refusal = Field15; field = 0; place = past })
  closed_over h = rw (lt-leb (length s) past h)

  -- the ids do not agree
  pub closed_apart : length s ≤ past → all_agree ks own ≡ false → closed ks own first at s mark past ≡ faulty (last_id ks own first at)
  closed_apart h e = rw (le-leb (length s) past h, e)

  pub closed_whole : length s ≤ past → all_agree ks own ≡ true → closed ks own first at s mark past ≡ read mark past
  closed_whole h e = rw (le-leb (length s) past h, e)

-- ---- an end that was read

-- it is the trailer's mark, and nothing is left over
closed_read : (ks : Keys) (own : Option ℕ) (first at : ℕ) (s : List ℕ) (mark past m p : ℕ) → closed ks own first at s mark past ≡ read m p → (m ≡ mark) × (length s ≤ past)
closed_read ks own first at s mark past m p e = by_rest (leb (length s) past) refl e where
  none : {A : Type 0} {a : A} {n : ℕ} {f : Fault} → faulty f ≡ read a n → ⊥
  none h = let z : ◌≡◌ {A = ℕ} 0 1 = cc in omega arith

  by_ids : (b : Bool) → cond b (read mark past) (faulty (last_id ks own first at)) ≡ read m p → m ≡ mark
  by_ids true h = sym (read_once h).0
  by_ids false h = absurd (none h)

  by_rest : (b : Bool) → leb (length s) past ≡ b → cond b (cond (all_agree ks own) (read mark past) (faulty (last_id ks own first at))) (faulty (record { refusal = Field15; field = 0; place = past })) ≡ read m p → (m ≡ mark) × (length s ≤ past)
  by_rest true t h = (by_ids (all_agree ks own) h, leb-true (length s) past t)
  by_rest false t h = absurd (none h)

-- the trailer's mark, or the end: no more than 33 bytes are behind it
pub end_held : (first : ℕ) (ks : Keys) (s : List ℕ) (at mark past : ℕ) → end first ks s at ≡ read mark past → at ≤ length s → (mark ≤ length s) × (length s ≤ mark + 33)
unfolding end
end_held first ks s at mark past e h =
    let f₁ = field_read first lmk_field s at _ mark past e in
    let f₂ = field_read (first + 1) trailer s (at + f₁.1) _ mark past f₁.3 in
    let shut = closed_read ks f₁.0 first at s (at + f₁.1) (at + f₁.1 + f₂.1) mark past f₂.3 in
    let own = inside_from s at f₁.1 h (lmk_onward (drop at s) f₁.0 f₁.1 f₁.2) in
    let short = trailer_33 (drop (at + f₁.1) s) f₂.0 f₂.1 f₂.2 in
    (omega (arith, shut.0, own), omega (arith, shut.0, shut.1, short))
