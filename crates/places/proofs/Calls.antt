-- What the calls come to points into the command or at its end.
-- Assumes nothing.
use Prim.Native.Nat.{ℕ, ◌+◌, ◌≤◌}
use native.Mathlib.Omega.{arith}
use mathlib.Core.Path.{◌≡◌, refl, subst}
use mathlib.Core.List.{List}
use mathlib.Core.Bool.{Bool}
use lib.ListN.{length, drop}
use lib.Dec.{leb}
use Rattle.numbers.specs.Numbers.{Outcome, done, refused, and_then, unless}
use Rattle.numbers.specs.declared.Refusal.TheVariants.{Room901, Frame902}
use Rattle.numbers.proofs.Laws.{then_done, passed}
use Rattle.settings.specs.declared.Settings.{Settings}
use Rattle.frame.specs.Frame.{is_framed, framed, code_of}
use Rattle.frame.specs.declared.Code.{Code}
use Rattle.frame.specs.declared.Code.TheVariants.{Bk, Da, Ea, Other}
use Rattle.frame.proofs.Laws.{framed_bounds}
use Rattle.fields.specs.Fields.{Stage, read, faulty, Ruling, ruled, pointing, unpointed, shown}
use Rattle.keybox.specs.KeyBox.{slices, parities, boxed}
use Rattle.responses.specs.Responses.{Payload, offset, nothing, answering}
use Rattle.uses.specs.Uses.{terminal_key, zone_key}
use Rattle.uses.specs.declared.Use.{Use}
use Rattle.pairing.specs.Pairing.{asked_at}
use Rattle.bkfields.specs.BkFields.{bk_fields}
use Rattle.bkfinish.specs.BkFinish.{bk_finish}
use Rattle.bk.specs.Bk.{bk_ask, bk_extract, bk_answer}
use Rattle.verifyfields.specs.VerifyFields.{verify_fields}
use Rattle.verifyfinish.specs.VerifyFinish.{verify_finish}
use Rattle.verify.specs.Verify.{verify_ask, verify_extract, verify_answer}
use Rattle.commands.specs.Commands.{ask_by, extract_by, answer_by, opened, asking, extracting, replying}
use Rattle.places.specs.Places.{StaysIn, RulesIn, RulesShort}
use Rattle.places.proofs.Stages.{Any, bk_stays, verify_stays}

module _ (s : List ℕ) where
  -- judgement after judgement
  then_rules : {A B : Type 0} (o : Ruling A) (next : A → Ruling B) → RulesIn s o → ((a : A) → o ≡ done a → RulesIn s (next a)) → RulesIn s (and_then o next)
  then_rules (done a) next r go = go a refl
  then_rules (refused f) next r go = r

  stage_rules : {A : Type 0} (stage : Stage A) → StaysIn s Any stage → RulesIn s (ruled stage)
  stage_rules (read a past) h = tt
  stage_rules (faulty f) h = h

  pointing_rules : {A : Type 0} (at : ℕ) (o : Outcome A) → at ≤ length s → RulesIn s (pointing 0 at o)
  pointing_rules at (done a) h = tt
  pointing_rules at (refused q) h = record { place = h; field = omega arith }

  unpointed_rules : {A : Type 0} (o : Outcome A) → RulesIn s (unpointed o)
  unpointed_rules o = pointing_rules 0 o (omega arith)

  boxed_rules : (g h : Bool) (block enciphered : List ℕ) → RulesIn s (boxed (length s) g h block enciphered)
  unfolding boxed
  boxed_rules g h block enciphered =
      then_rules (pointing 0 (length s) (slices block enciphered)) _ (pointing_rules (length s) (slices block enciphered) (omega arith))
      (λ rows _. then_rules (unpointed (parities g h)) _ (unpointed_rules (parities g h)) (λ _ _. tt))

  -- a command that is fields, key box and finish
  answering_rules : {A R : Type 0} (stage : Stage A) (box : Ruling R) (finish : A → R → Outcome Payload) (mark : A → ℕ) → StaysIn s Any stage → RulesIn s box → RulesIn s (answering stage box finish mark)
  answering_rules stage box finish mark h b =
      then_rules (ruled stage) _ (stage_rules stage h)
      (λ p _. then_rules box _ b
      (λ rows _. then_rules (unpointed (finish p rows)) _ (unpointed_rules (finish p rows)) (λ _ _. tt)))

  -- ---- by the code

  module _ (settings : Settings) (at : ℕ) (l : at ≤ length s) where
    verify_asks : (pin_key : Use) → RulesIn s (verify_ask pin_key s at)
    unfolding verify_ask
    verify_asks pin_key = then_rules (ruled (verify_fields pin_key s at)) _ (stage_rules (verify_fields pin_key s at) (verify_stays s pin_key at l)) (λ v _. unpointed_rules (asked_at s v.offsetting))

    ask_rules : (code : Code) → RulesIn s (ask_by code settings s at)
    unfolding ask_by bk_ask
    ask_rules Bk = then_rules (ruled (bk_fields settings.restricted s at)) _ (stage_rules (bk_fields settings.restricted s at) (bk_stays s settings.restricted at l)) (λ p _. unpointed_rules (asked_at s p.offsetting))
    ask_rules Da = verify_asks terminal_key
    ask_rules Ea = verify_asks zone_key
    ask_rules Other = record { place = omega arith; field = omega arith }

    verify_extracts : (pin_key : Use) → RulesIn s (verify_extract pin_key s at)
    unfolding verify_extract
    verify_extracts pin_key = then_rules (ruled (verify_fields pin_key s at)) _ (stage_rules (verify_fields pin_key s at) (verify_stays s pin_key at l)) (λ _ _. tt)

    extract_rules : (code : Code) → RulesIn s (extract_by code settings s at)
    unfolding extract_by bk_extract
    extract_rules Bk = then_rules (ruled (bk_fields settings.restricted s at)) _ (stage_rules (bk_fields settings.restricted s at) (bk_stays s settings.restricted at l)) (λ _ _. tt)
    extract_rules Da = verify_extracts terminal_key
    extract_rules Ea = verify_extracts zone_key
    extract_rules Other = record { place = omega arith; field = omega arith }

    module _ (g h : Bool) (block enciphered : List ℕ) where
      verify_answers : (pin_key : Use) → RulesIn s (verify_answer pin_key settings.variable g h s at block enciphered)
      unfolding verify_answer
      verify_answers pin_key =
          answering_rules (verify_fields pin_key s at) (boxed (length s) g h block enciphered) (λ v rows. and_then (verify_finish settings.variable s v rows) (λ _. done nothing)) (λ v. v.trailer) (verify_stays s pin_key at l) (boxed_rules g h block enciphered)

      answer_rules : (code : Code) → RulesIn s (answer_by code settings g h s at block enciphered)
      unfolding answer_by bk_answer
      answer_rules Bk =
          answering_rules (bk_fields settings.restricted s at) (boxed (length s) g h block enciphered) (λ p rows. and_then (bk_finish settings.variable s p rows) (λ ds. done (offset ds))) (λ p. p.trailer) (bk_stays s settings.restricted at l) (boxed_rules g h block enciphered)
      answer_rules Da = verify_answers terminal_key
      answer_rules Ea = verify_answers zone_key
      answer_rules Other = record { place = omega arith; field = omega arith }

  -- ---- the calls

  -- what is opened has a frame, and its code stands behind the header
  opened_frame : (least room header code : ℕ) → opened least room header s ≡ done code → (length s ≤ 4096) × (code + 2 ≤ length s)
  opened_frame least room header code e =
      let r = then_done (unless Room901 (leb least room) room) (λ _. framed header s) code e in
      let p = passed Frame902 (is_framed header s) header code r.2 in
      let bounds = framed_bounds header s p.0 in
      (bounds.1, subst (λ (at : ℕ). at + 2 ≤ length s) p.1 bounds.2)

  -- 901 and 902 point at nothing, and what has a frame is short
  opened_rules : {A : Type 0} (least room header : ℕ) (next : ℕ → Ruling A) → ((code : ℕ) → code + 2 ≤ length s → RulesIn s (next code)) → RulesShort s (and_then (unpointed (opened least room header s)) next)
  opened_rules least room header next go = by_frame (opened least room header s) refl
    where
      short : {A : Type 0} (o : Ruling A) → length s ≤ 4096 → RulesIn s o → RulesShort s o
      short (done a) l h = tt
      short (refused f) l h = (h, omega (arith, h.place))

      by_frame : (o : Outcome ℕ) → opened least room header s ≡ o → RulesShort s (and_then (unpointed o) next)
      by_frame (done code) e = let f = opened_frame least room header code e in short (next code) f.0 (go code f.1)
      by_frame (refused q) e = (record { place = omega arith; field = omega arith }, omega arith)

  pub asking_rules : (settings : Settings) (room : ℕ) → RulesShort s (asking settings s room)
  unfolding asking
  asking_rules settings room = opened_rules 8 room settings.header _ (λ code l. ask_rules settings (code + 2) l (code_of (drop code s)))

  pub extracting_rules : (settings : Settings) (room : ℕ) → RulesShort s (extracting settings s room)
  unfolding extracting
  extracting_rules settings room = opened_rules 16 room settings.header _ (λ code l. extract_rules settings (code + 2) l (code_of (drop code s)))

  pub replying_rules : (settings : Settings) (g h : Bool) (block enciphered : List ℕ) (room : ℕ) → RulesShort s (replying settings g h s block enciphered room)
  unfolding replying
  replying_rules settings g h block enciphered room =
      opened_rules 65 room settings.header _
      (λ code l. then_rules (answer_by (code_of (drop code s)) settings g h s (code + 2) block enciphered) _ (answer_rules settings (code + 2) l g h block enciphered (code_of (drop code s))) (λ _ _. tt))

-- what is shown of it, in numbers that the C face has room for
pub shown_short : {A : Type 0} (s : List ℕ) (o : Ruling A) → RulesShort s o → ((shown o).place ≤ 4096) × ((shown o).field ≤ 4096)
shown_short s (done a) r = (omega arith, omega arith)
shown_short s (refused f) r = (r.1, omega (arith, r.0.field))
