-- What is left over decides, and points at its first byte.
-- Assumes nothing.
use Prim.Native.Nat.{ℕ, ◌+◌, ◌≤◌, ◌<◌}
use native.Mathlib.Omega.{arith}
use mathlib.Core.Path.{◌≡◌, ap, ◌∙◌}
use mathlib.Core.Logic.{inr}
use mathlib.Core.List.{List, ◌++◌}
use lib.ListN.{length, drop, length-append, length-drop}
use Rattle.numbers.specs.declared.Refusal.TheVariants.{Field15}
use Rattle.fields.specs.Fields.{Stage, faulty}
use Rattle.keyfields.specs.declared.Keys.{Keys}
use Rattle.endings.proofs.Laws.{closed_over}
use Rattle.texts.specs.Texts.{Optional, absent, present, WherePresent, IsTrailer, mark_of_trailer, trailer_text}
use Rattle.texts.specs.Writings.{trailers}
use Rattle.texts_keys.specs.KeyTexts.{IsId, mark_of_id, id_text}
use Rattle.texts_keys.specs.KeyWritings.{ids}
use Rattle.texts_data.specs.DataTexts.{WeakList, IsWeakList, mark_of_weak_list}
use Rattle.texts_data.specs.DataWritings.{WeakFine}
use Rattle.texts_stages.specs.StageTexts.{EndFields, end_text, AreEnd}
use Rattle.claims_exactly.specs.BkText.{bk_text}
use Rattle.claims_exactly.specs.VerifyText.{verify_text}
use Rattle.claims_places.specs.Begins.{Unmarked, FullTrailer, EndTook}
use Rattle.claims_places.specs.Leftovers.{over_at, LeftoversDecide}
use Rattle.claims_places.proofs.Ends.{end_read, Ends, bk_ends, verify_ends}

-- ---- fields that took what they can may stand before what is left

id_may : (v : Optional ℕ) (behind : List ℕ) → WherePresent IsId v → Unmarked mark_of_id v behind → ids.fine v behind
id_may absent behind g free = free
id_may (present n) behind g free = g

weak_may : (w : Optional WeakList) (behind : List ℕ) → WherePresent IsWeakList w → Unmarked mark_of_weak_list w behind → WeakFine 0x3B w behind
weak_may absent behind g free = free
weak_may (present w) behind g free = g

trailer_may : (t : Optional (List ℕ)) (left : List ℕ) → WherePresent IsTrailer t → Unmarked mark_of_trailer t left → FullTrailer t → trailers.fine t left
trailer_may absent left g free full = free
trailer_may (present cs) left g free full = (g, inr full)

-- ---- the end decides

decides : {A : Type 0} (command : Stage A) (ks : Keys) (s : List ℕ) (start : ℕ) (texts : List (List ℕ)) (e : EndFields) (text left : List ℕ)
    → Ends command ks s start texts (end_text e ++ left) → AreEnd e → EndTook e left → drop start s ≡ text ++ left → 1 ≤ length left → command ≡ faulty (over_at start text)
decides command ks s start texts e text left ends g took whole more =
    let t₁ = id_text e.id in
    let t₂ = trailer_text e.trailer in
    let mark = ends.from + length t₁ in
    let past = mark + length t₂ in
    let all = ap length whole ∙ length-append text left in
    let last = ap length ends.bytes ∙ length-append (end_text e) left in
    let long = length-append t₁ t₂ in
    let over : past < length s = omega (arith, length-drop ends.from s, last, long, more) in
    let place : past ≡ start + length text = omega (arith, length-drop ends.from s, length-drop start s, all, last, long, more) in
    let read = end_read ks s ends.from e left (id_may e.id (t₂ ++ left) g.id took.id) (trailer_may e.trailer left g.trailer took.trailer took.full) ends.bytes in
    ends.fault (over_at start text)
    (read ∙ closed_over ks (ids.value e.id) 11 ends.from s mark past over ∙ ap (λ (n : ℕ). faulty (record { refusal = Field15; field = 0; place = n })) place)

pub leftovers_decide : LeftoversDecide
leftovers_decide = (
  λ limited s start p left g took w more.
      decides _ _ s start _ p.end (bk_text p) left (bk_ends limited s start p left g (weak_may p.weak (end_text p.end ++ left) g.weak took.0) w) g.end took.1 w more,
  λ v s start p left g took w more. decides _ _ s start _ p.end (verify_text p) left (verify_ends v s start p left g w) g.end took w more,
)
