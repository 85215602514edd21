-- What the two calls say to a DA or an EA of the paper's.
-- Assumes nothing.
use Prim.Native.Nat.{ℕ, ◌+◌}
use native.Mathlib.Omega.{arith}
use mathlib.Core.Path.{◌≡◌, refl, ◌∙◌}
use mathlib.Core.List.{List, [], ◌∷◌, ◌++◌}
use mathlib.Core.Bool.{true}
use lib.ListN.{length-map}
use Rattle.nibbles.specs.Nibbles.{every}
use Rattle.alphabet.specs.Alphabet.{begins, value_of}
use Rattle.settings.specs.declared.Settings.{Settings}
use Rattle.frame.specs.Frame.{raised, code_of}
use Rattle.frame.specs.declared.Code.TheVariants as codes
use Rattle.fields.specs.Fields.{outcome}
use Rattle.verifyfields.specs.VerifyFields.{verify_fields}
use Rattle.verifyfields.specs.declared.Verification.{Verification}
use Rattle.verifyfinish.specs.VerifyFinish.{verify_finish}
use Rattle.texts_data.proofs.ValidationData.{row_of_parts}
use Rattle.claims_blocks.proofs.Judged.{Only}
use Rattle.claims_commands.specs.Runs.{Verifying, terminal, zone, code_for, key_for}
use Rattle.claims_commands.proofs.Fields.{In, wider, shared_numbers, field_numbers, verify_fields_give}
use Rattle.claims_commands.proofs.Verifying.{verify_shape}
use Rattle.claims_exactly.specs.VerifyText.{verify_code, pin_key_rule_of, VerifyParts, IsVerify}
use Rattle.claims_exactly.specs.Claims.{verify_command, verify_placed, VerifyStand}
use Rattle.claims_exactly.specs.Sent.{IsHeader}
use Rattle.claims_exactly.specs.Responses.{PapersVerify, verify_sent, account_digits, VerifyAsksParts, verdict_code, VerifyAnswersParts}
use Rattle.claims_exactly.proofs.Codes.{code_told, da_coded, ea_coded}
use Rattle.claims_exactly.proofs.Claims.{verify_parts_stand, verify_exactly}
use Rattle.claims_exactly.proofs.Sizes.{verify_size}
use Rattle.claims_exactly.proofs.Sent.{Known, code_bytes, Papers, sent_fields}
use Rattle.claims_exactly.proofs.Calls.{Called, sent_asked, sent_answered}

-- `D` or `E`; the second byte is `A`
abbrev first_byte : Verifying → ℕ
first_byte terminal = 0x44
first_byte zone = 0x45

abbrev pub verify_known : Verifying → Known Verification
verify_known w = record {
  first = first_byte w;
  second = 0x41;
  command = verify_command w;
  fields = verify_fields (key_for w);
  exactly = verify_exactly w;
  short = λ p g. let size = verify_size w p g in omega arith;
}

-- the code that is sent and the one that answers
code_sent : (w : Verifying) → code_bytes (verify_known w) ≡ verify_code w
code_sent terminal = refl
code_sent zone = refl

code_answers : (w : Verifying) → first_byte w ∷ raised 0x41 ∷ [] ≡ verdict_code w
code_answers terminal = refl
code_answers zone = refl

pub as_papers : (w : Verifying) (settings : Settings) (s : List ℕ) → Papers (verify_known w) settings.header s → PapersVerify w settings s
as_papers terminal settings s c = c
as_papers zone settings s c = c

pub verify_coded : (w : Verifying) (cs : List ℕ) → code_of (code_bytes (verify_known w) ++ cs) ≡ code_for w
verify_coded terminal cs = da_coded cs
verify_coded zone cs = ea_coded cs

pub verify_begun : (w : Verifying) (cs : List ℕ) → code_of cs ≡ code_for w → begins (code_bytes (verify_known w)) cs ≡ true
verify_begun terminal cs = code_told cs codes.Da
verify_begun zone cs = code_told cs codes.Ea

pub verify_gives : (w : Verifying) (s : List ℕ) (at : ℕ) → Only (In field_numbers) (outcome (verify_fields (key_for w) s at))
unfolding every
verify_gives w s at = wider shared_numbers field_numbers _ refl (verify_fields_give (key_for w) s at)

abbrev pub verify_called : (w : Verifying) (settings : Settings) → Called (verify_shape w settings)
verify_called w settings = record { known = verify_known w; fields = λ s at. refl; coded = verify_coded w; begun = verify_begun w; gives = verify_gives w }

module _ (w : Verifying) (settings : Settings) (header : List ℕ) (p : VerifyParts) (h : IsHeader settings.header header) (g : IsVerify (pin_key_rule_of w) p) where
  abbrev whole : List ℕ
  whole = header ++ (code_bytes (verify_known w) ++ (verify_command w).text p)

  sent_stand : VerifyStand whole (verify_placed (settings.header + 2) p) p
  sent_stand = verify_parts_stand w whole (settings.header + 2) p g (sent_fields (verify_known w) settings.header header p h g)

  sent_same : verify_sent w header p ≡ whole
  sent_same = rw (← code_sent w)

pub verify_asks_parts : VerifyAsksParts
verify_asks_parts w settings room header p roomy h g =
    let stand = (sent_stand w settings header p h g).inputs in
    rw (sent_same w settings header p h g)
    (sent_asked (verify_called w settings) header p h g room roomy
    ∙ rw (stand.account, stand.validation, row_of_parts (account_digits p.inputs) p.inputs.validation g.inputs.validation))

pub verify_answers_parts : VerifyAnswersParts
unfolding verify_finish
verify_answers_parts w settings block enciphered room header p b c roomy h g =
    let stand = sent_stand w settings header p h g in
    rw (sent_same w settings header p h g)
    (sent_answered (verify_called w settings) header p h g block enciphered room b c roomy
    ∙ rw (code_answers w, stand.inputs.account, stand.inputs.table, stand.offset, stand.trailer, length-map p.offset value_of))
