-- What the PIN block's call refuses, and what it writes.
-- Assumes nothing.
use Prim.Native.Nat.{ℕ, ◌+◌, ◌≤◌}
use native.Mathlib.Omega.{arith}
use mathlib.Core.Path.{◌≡◌, refl, sym, ap, ◌∙◌}
use mathlib.Core.Logic.{◌↔◌, inl, inr}
use mathlib.Core.List.{List, map}
use mathlib.Core.Bool.{Bool, true, false}
use lib.ListN.{length, drop}
use borrow.Author.Tests.{le-leb, lt-leb}
use Rattle.nibbles.specs.Nibbles.{packs}
use Rattle.nibbles.proofs.Runs.{every_below}
use Rattle.alphabet.specs.Alphabet.{value_of}
use Rattle.alphabet.specs.declared.Class.TheVariants.{CapitalHex}
use Rattle.numbers.specs.Numbers.{Outcome, done, refused, and_then}
use Rattle.numbers.specs.declared.Refusal.TheVariants.{Frame902}
use Rattle.numbers.proofs.Laws.{value_of_lem}
use Rattle.settings.specs.declared.Settings.{Settings}
use Rattle.frame.specs.Frame.{is_framed, code_of}
use Rattle.frame.specs.declared.Code.{Code}
use Rattle.frame.specs.declared.Code.TheVariants.{Bk, Da, Ea, Other}
use Rattle.fields.specs.Fields.{Stage, read, faulty, Ruling, ruled, unpointed, heard, shown}
use Rattle.fields.specs.declared.Fault.{Fault}
use Rattle.sealed.specs.Sealed.{block_in}
use Rattle.sealed.specs.declared.Sealed.{Sealed}
use Rattle.bkfields.specs.BkFields.{bk_fields}
use Rattle.bk.specs.Bk.{bk_ask, bk_extract}
use Rattle.verifyfields.specs.VerifyFields.{verify_fields}
use Rattle.verify.specs.Verify.{verify_ask, verify_extract}
use Rattle.commands.specs.Commands.{opened, ask_by, extract_by, asking, extracting, extracted}
use Rattle.places.specs.Places.{RulesShort}
use Rattle.places.proofs.Calls.{extracting_rules}
use Rattle.texts.specs.Texts.{Run}
use Rattle.claims_commands.specs.Runs.{Verifying, terminal, zone, code_for, key_for, code_in}
use Rattle.claims_commands.proofs.Shapes.{Shape}
use Rattle.claims_commands.proofs.Cores.{asked_done, verify_asked}
use Rattle.claims_exactly.specs.BkText.{BkParts, IsBk}
use Rattle.claims_exactly.specs.VerifyText.{pin_key_rule_of, VerifyParts, IsVerify}
use Rattle.claims_exactly.specs.Sent.{IsHeader}
use Rattle.claims_exactly.specs.Responses.{OneOfThePapers, bk_sent, verify_sent}
use Rattle.claims_exactly.proofs.Claims.{parts_stand, verify_parts_stand}
use Rattle.claims_exactly.proofs.Sent.{sent_of, sent_framed, sent_code, sent_fields, sent_read}
use Rattle.claims_exactly.proofs.Calls.{Called}
use Rattle.claims_exactly.proofs.BkCalls.{bk_known, bk_called}
use Rattle.claims_exactly.proofs.VerifyCalls.{verify_known, verify_called}
use Rattle.claims_extracting.specs.Extracting.{RefusesAsAsking, RoomOf16, PlaceInside, block_field, hex_text, WritesTheField}
use Rattle.claims_extracting.proofs.Hex.{hex_read, hex_written}

-- ---- behind the frame

-- a call that has room: 902, or what stands behind the frame
module _ {A : Type 0} (least room header : ℕ) (s : List ℕ) (next : ℕ → Ruling A) (roomy : least ≤ room) where
  frameless : is_framed header s ≡ false → and_then (unpointed (opened least room header s)) next ≡ unpointed (refused Frame902)
  frameless f = rw (le-leb least room roomy, f)

  framed : is_framed header s ≡ true → and_then (unpointed (opened least room header s)) next ≡ next header
  framed f = rw (le-leb least room roomy, f)

pub extracting_framed : (settings : Settings) (s : List ℕ) (room : ℕ) → 16 ≤ room → is_framed settings.header s ≡ true
    → extracting settings s room ≡ extract_by (code_in settings s) settings s (settings.header + 2)
unfolding extracting
extracting_framed settings s room = framed 16 room settings.header s (λ code. extract_by (code_of (drop code s)) settings s (code + 2))

pub extracting_frameless : (settings : Settings) (s : List ℕ) (room : ℕ) → 16 ≤ room → is_framed settings.header s ≡ false → extracting settings s room ≡ unpointed (refused Frame902)
unfolding extracting
extracting_frameless settings s room = frameless 16 room settings.header s (λ code. extract_by (code_of (drop code s)) settings s (code + 2))

pub room_of_16 : RoomOf16
unfolding extracting
room_of_16 settings s room h = rw (lt-leb 16 room h)

-- ---- what it refuses

-- where what is asked for is there whenever the fields are read, both are refused in the fields
same_faults : {A : Type 0} (stage : Stage A) (given : A → List ℕ) (asked : A → Outcome (List ℕ)) → ((a : A) (past : ℕ) → stage ≡ read a past → (bytes : List ℕ) × (asked a ≡ done bytes))
    → (f : Fault) → (and_then (ruled stage) (λ a. done (given a)) ≡ refused f) ↔ (and_then (ruled stage) (λ a. unpointed (asked a)) ≡ refused f)
same_faults (read a past) given asked there f = (
  λ e. absurd (let z : ◌≡◌ {A = ℕ} 0 1 = cc in omega arith),
  λ e. absurd (let d = there a past refl in let x = rw d.1 at e in let z : ◌≡◌ {A = ℕ} 0 1 = cc in omega arith),
)
same_faults (faulty q) given asked there f = (λ e. e, λ e. e)

refused_alike : (settings : Settings) (s : List ℕ) (at : ℕ) (f : Fault) (c : Code) → (extract_by c settings s at ≡ refused f) ↔ (ask_by c settings s at ≡ refused f)
unfolding ask_by extract_by bk_ask bk_extract verify_ask verify_extract
refused_alike settings s at f Bk = same_faults (bk_fields settings.restricted s at) _ _ (asked_done settings.restricted s at) f
refused_alike settings s at f Da = same_faults (verify_fields (key_for terminal) s at) _ _ (verify_asked (key_for terminal) s at) f
refused_alike settings s at f Ea = same_faults (verify_fields (key_for zone) s at) _ _ (verify_asked (key_for zone) s at) f
refused_alike settings s at f Other = (λ e. e, λ e. e)

pub refuses_as_asking : RefusesAsAsking
unfolding asking
refuses_as_asking settings s room room' f k k' = by_frame (is_framed settings.header s) refl
  where
    by_frame : (b : Bool) → is_framed settings.header s ≡ b → (extracting settings s room ≡ refused f) ↔ (asking settings s room' ≡ refused f)
    by_frame true h = rw (extracting_framed settings s room k h, framed 8 room' settings.header s (λ code. ask_by (code_of (drop code s)) settings s (code + 2)) k' h) (refused_alike settings s (settings.header + 2) f (code_in settings s))
    by_frame false h = rw (extracting_frameless settings s room k h, frameless 8 room' settings.header s (λ code. ask_by (code_of (drop code s)) settings s (code + 2)) k' h) (λ e. e, λ e. e)

shown_inside : {A : Type 0} (s : List ℕ) (o : Ruling A) → RulesShort s o → (shown o).place ≤ length s
shown_inside s (done a) r = omega arith
shown_inside s (refused f) r = r.0.place

pub place_inside : PlaceInside
place_inside settings s room = shown_inside s (extracting settings s room) (extracting_rules s settings room)

-- ---- what it writes

-- of any command of the shape that has its PIN block where its fields say
sent_extracted : {code : Code} {settings : Settings} {A B : Type 0} {c : Shape code settings A B} (k : Called c) (sealed : A → Sealed)
    → ((s : List ℕ) (at : ℕ) → extract_by code settings s at ≡ and_then (ruled (c.reader s at)) (λ a. done (block_in s (sealed a))))
    → (header : List ℕ) (p : k.known.command.Parts) → IsHeader settings.header header → k.known.command.is p
    → (room : ℕ) → 16 ≤ room
    → extracting settings (sent_of k.known header p) room ≡ done (block_in (sent_of k.known header p) (sealed (k.known.command.placed (settings.header + 2) p)))
sent_extracted {settings = settings} k sealed extracts header p h g room roomy =
    let s = sent_of k.known header p in
    let coded = ap code_of (sent_code k.known settings.header header p h g) ∙ k.coded (k.known.command.text p) in
    extracting_framed settings s room roomy (sent_framed k.known settings.header header p h g)
    ∙ rw (coded, extracts s (settings.header + 2), k.fields s (settings.header + 2), sent_read k.known settings.header header p h g)

pub bk_extracts : (settings : Settings) (s : List ℕ) (at : ℕ) → extract_by Bk settings s at ≡ and_then (ruled (bk_fields settings.restricted s at)) (λ p. done (block_in s p.sealed))
unfolding extract_by bk_extract
bk_extracts settings s at = refl

pub verify_extracts : (w : Verifying) (settings : Settings) (s : List ℕ) (at : ℕ) → extract_by (code_for w) settings s at ≡ and_then (ruled (verify_fields (key_for w) s at)) (λ v. done (block_in s v.sealed))
unfolding extract_by verify_extract
verify_extracts terminal settings s at = refl
verify_extracts zone settings s at = refl

abbrev bytes_of : List ℕ → List ℕ
bytes_of cs = packs (map value_of cs)

pub bk_written : (settings : Settings) (room : ℕ) (header : List ℕ) (p : BkParts) → 16 ≤ room → IsHeader settings.header header → IsBk settings.restricted p
    → extracted settings (bk_sent settings header p) room ≡ done (bytes_of p.sealed.block)
bk_written settings room header p roomy h g =
    let s = bk_sent settings header p in
    let stand = parts_stand settings.restricted s (settings.header + 2) p g (sent_fields (bk_known settings.restricted) settings.header header p h g) in
    ap heard (sent_extracted (bk_called settings) (λ v. v.sealed) (bk_extracts settings) header p h g room roomy) ∙ ap (λ (cs : List ℕ). done (bytes_of cs)) stand.block

verify_same : (w : Verifying) (header : List ℕ) (p : VerifyParts) → verify_sent w header p ≡ sent_of (verify_known w) header p
verify_same terminal header p = refl
verify_same zone header p = refl

pub verify_written : (w : Verifying) (settings : Settings) (room : ℕ) (header : List ℕ) (p : VerifyParts) → 16 ≤ room → IsHeader settings.header header → IsVerify (pin_key_rule_of w) p
    → extracted settings (verify_sent w header p) room ≡ done (bytes_of p.sealed.block)
verify_written w settings room header p roomy h g =
    let s = sent_of (verify_known w) header p in
    let stand = verify_parts_stand w s (settings.header + 2) p g (sent_fields (verify_known w) settings.header header p h g) in
    rw (verify_same w header p)
    (ap heard (sent_extracted (verify_called w settings) (λ v. v.sealed) (verify_extracts w settings) header p h g room roomy) ∙ ap (λ (cs : List ℕ). done (bytes_of cs)) stand.block)

-- the field's characters are hex, and their bytes are written
field_written : (settings : Settings) (s : List ℕ) (room : ℕ) (command : OneOfThePapers settings s) → 16 ≤ room
    → Run CapitalHex 16 (block_field settings s command) × (extracted settings s room ≡ done (bytes_of (block_field settings s command)))
field_written settings s room (inl c) roomy =
    (c.is.sealed.block, ap (λ (t : List ℕ). extracted settings t room) c.bytes ∙ bk_written settings room c.header c.parts roomy c.is_header c.is)
field_written settings s room (inr (w, c)) roomy =
    (c.is.sealed.block, ap (λ (t : List ℕ). extracted settings t room) c.bytes ∙ verify_written w settings room c.header c.parts roomy c.is_header c.is)

pub writes_the_field : WritesTheField
writes_the_field settings s room command bytes roomy b =
    let field = block_field settings s command in
    let (run, written) = field_written settings s room command roomy in (
      λ e. sym (hex_written field run) ∙ ap hex_text (value_of_lem (sym written ∙ e)),
      λ e. written ∙ ap done (ap bytes_of e ∙ hex_read bytes (every_below 255 bytes b)),
    )
