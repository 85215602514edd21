-- DA and EA as commands of the one shape, and for what they are refused behind their fields.
-- Assumes nothing.
use Prim.Native.Nat.{ℕ, ◌+◌}
use mathlib.Core.Path.{◌≡◌, refl, subst}
use mathlib.Core.List.{List, []}
use mathlib.Core.Bool.{Bool}
use lib.ListN.{length, drop}
use lib.Dec.{eqb}
use Rattle.nibbles.specs.Nibbles.{same}
use Rattle.numbers.specs.Numbers.{done, and_then, unless}
use Rattle.numbers.specs.declared.Refusal.{Refusal}
use Rattle.numbers.specs.declared.Refusal.TheVariants.{Unverified01, Check81}
use Rattle.settings.specs.declared.Settings.{Settings}
use Rattle.ibm3624.specs.Ibm3624.{covers, offset_of}
use Rattle.verdicts.specs.Verdicts.{verdict_on}
use Rattle.fields.specs.Fields.{read, ruled, unpointed}
use Rattle.fields.proofs.Reading.{field_read, onward_read, read_once}
use Rattle.uses.specs.declared.Use.{Use}
use Rattle.sealed.specs.Sealed.{sealed}
use Rattle.sealed.specs.declared.Sealed.{Sealed}
use Rattle.offsetting.specs.Offsetting.{offsetting}
use Rattle.offsetting.specs.declared.Offsetting.{Offsetting}
use Rattle.offsetfield.specs.OffsetField.{offset_field}
use Rattle.endings.specs.Endings.{end}
use Rattle.keybox.specs.KeyBox.{boxed}
use Rattle.responses.specs.Responses.{nothing, answering}
use Rattle.pairing.specs.Pairing.{asked_at}
use Rattle.verifyfields.specs.VerifyFields.{front, restricted, verify_fields, offset_in}
use Rattle.verifyfields.specs.declared.Verification.{Verification}
use Rattle.verifyfinish.specs.VerifyFinish.{verify_finish}
use Rattle.verify.specs.Verify.{verify_ask, verify_answer}
use Rattle.commands.specs.Commands.{ask_by, answer_by}
use Rattle.claims_blocks.proofs.Judged.{Only, test_only, then_only}
use Rattle.claims_numbers.proofs.Refused.{covers_only}
use Rattle.claims_commands.specs.Runs.{Verifying, terminal, zone, code_for, key_for}
use Rattle.claims_commands.proofs.Shapes.{Shape}

-- ---- the shape

pub verify_asks : (w : Verifying) (settings : Settings) (s : List ℕ) (at : ℕ)
    → ask_by (code_for w) settings s at ≡ and_then (ruled (verify_fields (key_for w) s at)) (λ v. unpointed (asked_at s v.offsetting))
unfolding ask_by verify_ask
verify_asks terminal settings s at = refl
verify_asks zone settings s at = refl

pub verify_answers : (w : Verifying) (settings : Settings) (g h : Bool) (s : List ℕ) (at : ℕ) (block enciphered : List ℕ)
    → answer_by (code_for w) settings g h s at block enciphered
    ≡ answering (verify_fields (key_for w) s at) (boxed (length s) g h block enciphered) (λ v rows. and_then (verify_finish settings.variable s v rows) (λ _. done nothing)) (λ v. v.trailer)
unfolding answer_by verify_answer
verify_answers terminal settings g h s at block enciphered = refl
verify_answers zone settings g h s at block enciphered = refl

abbrev pub verify_shape : (w : Verifying) (settings : Settings) → Shape (code_for w) settings Verification (List ℕ)
verify_shape w settings = record {
  reader = verify_fields (key_for w);
  asked = λ s v. asked_at s v.offsetting;
  finish = verify_finish settings.variable;
  payload = λ _. nothing;
  mark = λ v. v.trailer;
  asks = verify_asks w settings;
  answers = verify_answers w settings;
}

-- ---- what was read

-- the check length and the fields behind it, and the offset that is presented
pub record Parts (s : List ℕ) (v : Verification) : Type 0 where
  pub check : ℕ
  pub past : ℕ
  pub inputs : offsetting 6 s check ≡ read v.offsetting past
  pub width : ℕ
  pub shown : offset_field (drop v.offset s) ≡ done (v.digits, width)

pub parts : (for : Use) (s : List ℕ) (at : ℕ) (v : Verification) (past : ℕ) → verify_fields for s at ≡ read v past → Parts s v
unfolding verify_fields
parts for s at v past e =
    let o₁ = onward_read (front for s at) _ v past e in
    let o₄ = onward_read (sealed 4 restricted s o₁.1) _ v past o₁.3 in
    let o₆ = onward_read (offsetting 6 s o₄.1) _ v past o₄.3 in
    let o₁₀ = field_read 10 offset_field s o₆.1 _ v past o₆.3 in
    let o₁₁ = onward_read (end 11 o₁.0 s (o₆.1 + o₁₀.1)) _ v past o₁₀.3 in
    subst (Parts s) (read_once o₁₁.3).0 (from o₄.0 o₆.0 o₁₁.0 o₁₀.0 o₄.1 o₆.1 o₁₀.1 o₆.2 o₁₀.2)
  where
    from : (block : Sealed) (inputs : Offsetting) (mark digits at₆ at₁₀ width : ℕ) → offsetting 6 s at₆ ≡ read inputs at₁₀ → offset_field (drop at₁₀ s) ≡ done (digits, width)
        → Parts s (record { sealed = block; offsetting = inputs; offset = at₁₀; digits = digits; trailer = mark })
    from block inputs mark digits at₆ at₁₀ width e₆ e₁₀ = record { check = at₆; past = at₁₀; inputs = e₆; width = width; shown = e₁₀ }

-- ---- behind the PIN

-- over any refusals that hold those named: 81 and 01
pub verdict_only : (these : Refusal → Type 0) → these Check81 → these Unverified01 → (variable : Bool) (s : List ℕ) (v : Verification) (pair : List ℕ × List ℕ)
    → Only these (verdict_on variable v.offsetting.check (offset_in s v) pair)
verdict_only these c u variable s v (pin, natural) =
    then_only these (covers variable v.offsetting.check (length pin)) _ (covers_only these variable (λ _. c) v.offsetting.check (length pin))
    (λ m. then_only these (unless Check81 (eqb (length (offset_in s v)) m) m) _ (test_only these Check81 c (eqb (length (offset_in s v)) m) m)
    (λ _. test_only these Unverified01 u (same (offset_in s v) (offset_of m pin natural)) []))
