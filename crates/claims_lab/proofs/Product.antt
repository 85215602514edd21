-- The product is the core's answering call at what its keys make.
-- Assumes nothing.
use Prim.Native.Nat.{ℕ}
use native.Mathlib.Omega.{arith}
use mathlib.Core.Path.{◌≡◌, refl, sym, ap, ◌∙◌}
use mathlib.Core.Logic.{◌⊎◌, inl, inr}
use mathlib.Core.List.{List, []}
use mathlib.Core.Bool.{Bool, true, cond}
use borrow.Author.Tests.{le-leb, lt-leb}
use Rattle.numbers.specs.Numbers.{Outcome, done, refused, and_then}
use Rattle.settings.specs.declared.Settings.{Settings}
use Rattle.fields.specs.Fields.{Ruling, unpointed, heard}
use Rattle.fields.specs.declared.Fault.{Fault}
use Rattle.responses.specs.Responses.{responding}
use Rattle.commands.specs.Commands.{opened, asking, asked, extracting, extracted, answered, commanded, silently, replying}
use Rattle.parity.specs.Parity.{odd_parity}
use Rattle.ciphers.specs.Ciphers.{is_lab_key, triple_block}
use Rattle.ciphers.specs.declared.Way.{Way}
use Rattle.ciphers.specs.declared.Way.TheVariants.{Encipher, Decipher}
use Rattle.lab.specs.Lab.{made_of_written, clear_block, validation_cipher, lab_answered, lab_replying}
use Rattle.lab.proofs.Laws.{answers_lab, replies_lab}
use Rattle.claims_extracting.proofs.Extracting.{refuses_as_asking}
use Rattle.claims_places.proofs.Claims.{both_point_alike}
use Rattle.claims_lab.specs.Product.{IsLabKey, BothOrNeither, AnswersAsTheCore, RepliesAsTheCore, RoomFirst, FrameNext, FieldsFirst}

-- ---- what a key makes

-- either length passes the test
pub lab_key_passes : (key : List ℕ) → IsLabKey key → is_lab_key key ≡ true
lab_key_passes key (inl e) = rw e refl
lab_key_passes key (inr e) = rw e refl

made : (way : Way) (key block : List ℕ) (o : Outcome (List ℕ)) → IsLabKey key → o ≡ done block → made_of_written way key o ≡ triple_block way key block
made way key block o k e = ap (made_of_written way key) e ∙ ap (λ (b : Bool). cond b (triple_block way key block) []) (lab_key_passes key k)

pub clear_made : (settings : Settings) (s pin_key b : List ℕ) → IsLabKey pin_key → extracted settings s 16 ≡ done b → clear_block settings s pin_key ≡ triple_block Decipher pin_key b
clear_made settings s pin_key b k e = made Decipher pin_key b (extracted settings s 16) k e

pub cipher_made : (settings : Settings) (s pvk v : List ℕ) → IsLabKey pvk → asked settings s 8 ≡ done v → validation_cipher settings s pvk ≡ triple_block Encipher pvk v
cipher_made settings s pvk v k e = made Encipher pvk v (asked settings s 8) k e

-- ---- both calls refuse, or each writes

pub both_or_neither : BothOrNeither
both_or_neither settings s = by (asking settings s 8) refl (extracting settings s 16) refl
  where
    by : (o : Ruling (List ℕ)) → asking settings s 8 ≡ o → (o' : Ruling (List ℕ)) → extracting settings s 16 ≡ o'
        → ((f : Fault) × (asking settings s 8 ≡ refused f) × (extracting settings s 16 ≡ refused f))
        ⊎ ((v : List ℕ) × (b : List ℕ) × (asked settings s 8 ≡ done v) × (extracted settings s 16 ≡ done b))
    by (refused f) e o' e' = inl (f, e, (refuses_as_asking settings s 16 8 f (omega arith) (omega arith)).1 e)
    by (done v) e (refused f) e' = inl (f, (refuses_as_asking settings s 16 8 f (omega arith) (omega arith)).0 e', e')
    by (done v) e (done b) e' = inr (v, b, ap heard e, ap heard e')

-- ---- where they write

pub answers_as_the_core : AnswersAsTheCore
answers_as_the_core settings s pin_key pvk v b room kp kv ev eb =
    sym (answers_lab settings s pin_key pvk _ _ _ _ room refl refl (sym (clear_made settings s pin_key b kp eb)) (sym (cipher_made settings s pvk v kv ev)))

pub replies_as_the_core : RepliesAsTheCore
replies_as_the_core settings s pin_key pvk v b room kp kv ev eb =
    sym (replies_lab settings s pin_key pvk _ _ _ _ room refl refl (sym (clear_made settings s pin_key b kp eb)) (sym (cipher_made settings s pvk v kv ev)))

-- ---- refusals

pub room_first : RoomFirst
unfolding lab_replying lab_answered replying answered
room_first settings s pin_key pvk room k = (rw (lt-leb 65 room k) refl, rw (lt-leb 65 room k) refl)

pub frame_next : FrameNext
unfolding lab_replying lab_answered replying answered
frame_next settings s pin_key pvk room k h = (rw (le-leb 65 room k, h) refl, rw (le-leb 65 room k, h) refl)

-- where the fault is the same, so is what is written
pub same_said : (settings : Settings) (g h g' h' : Bool) (s block enciphered block' enciphered' : List ℕ) (room : ℕ)
    → replying settings g h s block enciphered room ≡ replying settings g' h' s block' enciphered' room
    → answered settings g h s block enciphered room ≡ answered settings g' h' s block' enciphered' room
unfolding replying answered
same_said settings g h g' h' s block enciphered block' enciphered' room e =
    by_frame (opened 65 room settings.header s) (commanded settings g h s block enciphered) (commanded settings g' h' s block' enciphered') e
  where
    by_frame : (o : Outcome ℕ) (c c' : ℕ → Ruling (List ℕ)) → and_then (unpointed o) c ≡ and_then (unpointed o) c'
        → silently (and_then o (λ code. done (responding settings.header s (heard (c code))))) ≡ silently (and_then o (λ code. done (responding settings.header s (heard (c' code)))))
    by_frame (done code) c c' same = ap (λ (o : Ruling (List ℕ)). responding settings.header s (heard o)) same
    by_frame (refused q) c c' same = refl

pub fields_first : FieldsFirst
unfolding lab_replying lab_answered
fields_first settings s pin_key pvk room f k e = (
  here,
  λ g h block enciphered. same_said settings _ _ g h s _ _ block enciphered room (here ∙ sym (both_point_alike settings g h s block enciphered 8 room f (omega arith) k e)),
)
  where
    here : lab_replying settings s pin_key pvk room ≡ refused f
    here = both_point_alike settings (odd_parity pin_key) (odd_parity pvk) s (clear_block settings s pin_key) (validation_cipher settings s pvk) 8 room f (omega arith) k e
