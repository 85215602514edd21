-- What the calls come to.
-- Assumes nothing.
use Prim.Native.Nat.{ℕ, ◌+◌, ◌≤◌, ◌<◌}
use native.Mathlib.Omega.{arith}
use mathlib.Core.Path.{◌≡◌, refl, sym, ap, ◌∙◌}
use mathlib.Core.List.{List}
use mathlib.Core.Bool.{Bool, true, false}
use Rattle.std.specs.Prelude.{Ok, Err}
use lib.ListN.{drop}
use lib.Dec.{leb}
use borrow.Author.Tests.{leb-true}
use Rattle.nibbles.specs.Nibbles.{packs}
use Rattle.numbers.specs.Numbers.{Outcome, done, refused, and_then, unless, number_of}
use Rattle.numbers.specs.Promise.{Does, quietly}
use Rattle.numbers.specs.declared.Refusal.{Refusal}
use Rattle.numbers.specs.declared.Refusal.TheVariants.{Room901, Frame902}
use Rattle.numbers.specs.declared.Reply.{Reply}
use Rattle.numbers.proofs.Laws.{then_done, passed, result_ok, result_err}
use Rattle.settings.specs.declared.Settings.{Settings}
use Rattle.pins.specs.Answers.{count_of}
use Rattle.answers.proofs.Laws.{Sixteen}
use Rattle.frame.specs.Frame.{is_framed, framed, code_of}
use Rattle.frame.specs.declared.Code.{Code}
use Rattle.frame.specs.declared.Code.TheVariants.{Bk, Da, Ea, Other}
use Rattle.fields.specs.Fields.{Ruling, unpointed, heard, nowhere, shown}
use Rattle.fields.proofs.Rulings.{pointing_done}
use Rattle.responses.specs.Responses.{Payload, responding}
use Rattle.responses.proofs.Laws.{Blocky, Sound}
use Rattle.uses.specs.Uses.{terminal_key, zone_key}
use Rattle.bk.proofs.Places.{asked_row_lem, extracted_row, answer_sound}
use Rattle.verify.proofs.Places as verify
use Rattle.commands.specs.Commands.{ask_by, extract_by, answer_by, opened, asking, asked, extracting, answered, commanded, replying}

-- ---- 901, 902

module _ (least room header : ℕ) (s : List ℕ) where
  -- where both are passed the command's code stands behind the header, and there is room
  pub opened_ok : (code : ℕ) → Ok code ≡ count_of (opened least room header s) → (opened least room header s ≡ done code) × (least ≤ room) × (code ≡ header) × (is_framed header s ≡ true)
  opened_ok code e =
      let o = result_ok (λ (n : ℕ). n) (opened least room header s) code e in
      let r = then_done (unless Room901 (leb least room) room) (λ _. framed header s) o.0 o.1 in
      let f = passed Frame902 (is_framed header s) header o.0 r.2 in
      (o.1 ∙ ap done (sym o.2), leb-true least room (passed Room901 (leb least room) room r.0 r.1).0, o.2 ∙ sym f.1, f.0)

  pub opened_err : (q : Refusal) → Err q ≡ count_of (opened least room header s) → opened least room header s ≡ refused q
  opened_err q e = result_err (λ (n : ℕ). n) (opened least room header s) q e

-- ---- the asking call

-- what a call with room for eight bytes writes is a block, and there is room for it, where behind the frame it is the bytes of a row
opened_block :
    (least room header : ℕ) (s : List ℕ) (next : ℕ → Ruling (List ℕ)) → 8 ≤ least
    → ((code : ℕ) (bs : List ℕ) → next code ≡ done bs → (ns : List ℕ) × Sixteen ns × (bs ≡ packs ns))
    → Blocky (and_then (unpointed (opened least room header s)) next) room
opened_block least room header s next enough rowed bs e =
    let f = then_done (unpointed (opened least room header s)) next bs e in
    let o = pointing_done 0 0 (opened least room header s) f.0 f.1 in
    let r = then_done (unless Room901 (leb least room) room) (λ _. framed header s) f.0 o in
    (omega (arith, leb-true least room (passed Room901 (leb least room) room r.0 r.1).0), rowed f.0 bs f.2)

-- so what is asked for
pub asked_block : (settings : Settings) (s : List ℕ) (room : ℕ) → Blocky (asking settings s room) room
unfolding asking ask_by
asked_block settings s room = opened_block 8 room settings.header s _ (omega arith) (λ code bs h. by_code (code_of (drop code s)) (code + 2) bs h) where
  by_code : (code : Code) (at : ℕ) (bs : List ℕ) → ask_by code settings s at ≡ done bs → (ns : List ℕ) × Sixteen ns × (bs ≡ packs ns)
  by_code Bk at bs h = asked_row_lem settings s at bs h
  by_code Da at bs h = verify.asked_row_lem terminal_key s at bs h
  by_code Ea at bs h = verify.asked_row_lem zone_key s at bs h
  by_code Other at bs h = absurd (let z : ◌≡◌ {A = ℕ} 0 1 = cc in omega arith)

-- and the PIN block
pub extracted_block : (settings : Settings) (s : List ℕ) (room : ℕ) → Blocky (extracting settings s room) room
unfolding extracting extract_by
extracted_block settings s room = opened_block 16 room settings.header s _ (omega arith) (λ code bs h. by_code (code_of (drop code s)) (code + 2) bs h) where
  by_code : (code : Code) (at : ℕ) (bs : List ℕ) → extract_by code settings s at ≡ done bs → (ns : List ℕ) × Sixteen ns × (bs ≡ packs ns)
  by_code Bk at bs h = extracted_row settings s at bs h
  by_code Da at bs h = verify.extracted_row terminal_key s at bs h
  by_code Ea at bs h = verify.extracted_row zone_key s at bs h
  by_code Other at bs h = absurd (let z : ◌≡◌ {A = ℕ} 0 1 = cc in omega arith)

-- ---- the answering call

-- what a command answers fits a response
pub answer_by_sound :
    (code : Code) (settings : Settings) (g h : Bool) (s : List ℕ) (at : ℕ) (block enciphered : List ℕ) (d : Payload × ℕ)
    → answer_by code settings g h s at block enciphered ≡ done d → Sound s d
unfolding answer_by
answer_by_sound Bk settings g h s at block enciphered d e = answer_sound settings g h s at block enciphered d e
answer_by_sound Da settings g h s at block enciphered d e = verify.answer_sound terminal_key settings.variable g h s at block enciphered d e
answer_by_sound Ea settings g h s at block enciphered d e = verify.answer_sound zone_key settings.variable g h s at block enciphered d e
answer_by_sound Other settings g h s at block enciphered d e = absurd (let z : ◌≡◌ {A = ℕ} 0 1 = cc in omega arith)

module _ (settings : Settings) (g h : Bool) (s block enciphered : List ℕ) (room : ℕ) where
  -- what is refused before the frame is answered with no byte, and shown nowhere
  pub answered_silent : (q : Refusal) → opened 65 room settings.header s ≡ refused q → answered settings g h s block enciphered room ≡ quietly (refused q)
  unfolding answered
  answered_silent q e = rw e

  pub answered_framed : (code : ℕ) → opened 65 room settings.header s ≡ done code → answered settings g h s block enciphered room ≡ responding settings.header s (heard (commanded settings g h s block enciphered code))
  unfolding answered
  answered_framed code e = rw e

  -- and the fault that is shown
  pub replying_silent : (q : Refusal) → opened 65 room settings.header s ≡ refused q → shown (replying settings g h s block enciphered room) ≡ nowhere
  unfolding replying
  replying_silent q e = rw e

  pub replying_framed : (code : ℕ) → opened 65 room settings.header s ≡ done code → replying settings g h s block enciphered room ≡ commanded settings g h s block enciphered code
  unfolding replying
  replying_framed code e = rw e

  -- a refusal that wrote nothing
  pub does_nothing : (q : Refusal) (before : List ℕ) (r : Reply) → answered settings g h s block enciphered room ≡ quietly (refused q) → r.number ≡ number_of q → r.written ≡ 0 → Does (answered settings g h s block enciphered room) before r before
  does_nothing q before r e n w = rw e (record { number = n; count = w; buffer = refl })

  -- a response that was written
  pub does_answered : (header : ℕ) (o : Outcome (List ℕ)) (before after : List ℕ) (r : Reply) → answered settings g h s block enciphered room ≡ responding header s o → Does (responding header s o) before r after → Does (answered settings g h s block enciphered room) before r after
  does_answered header o before after r e d = rw e d
