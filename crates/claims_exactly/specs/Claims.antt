-- The fields of a BK command are read exactly, and so are those of a DA and an EA.
use Rattle.std.specs.Prelude.{ℕ, ◌+◌, ◌≡◌, List, Bool, length, drop}
use Rattle.weak.specs.Weak.{weak_pins}
use Rattle.offsetting.specs.Offsetting.{part}
use Rattle.bkfields.specs.BkFields.{bk_fields}
use Rattle.bkfields.specs.declared.Bk.{Bk}
use Rattle.verifyfields.specs.VerifyFields.{verify_fields}
use Rattle.verifyfields.specs.declared.Verification.{Verification}
use Rattle.texts.specs.Texts.{optional_text, trailer_text}
use Rattle.texts.specs.Whole.{Command, Exactly}
use Rattle.texts_keys.specs.KeyTexts.{id_text}
use Rattle.texts_data.specs.DataTexts.{weak_text, mark_of_weak_list, weak_pins_of, presented_text}
use Rattle.texts_data.specs.DataWritings.{weak_in}
use Rattle.texts_stages.specs.StageTexts.{keys_text, sealed_text, inputs_text}
use Rattle.texts_stages.specs.StageWritings.{sealed_placed, inputs_placed, InputsStand}
use Rattle.claims_commands.specs.Runs.{Verifying, key_for}
use Rattle.claims_exactly.specs.BkText.{BkParts, bk_text, IsBk}
use Rattle.claims_exactly.specs.VerifyText.{pin_key_rule_of, VerifyParts, front_text, verify_text, IsVerify}

-- ---- BK

-- what is read of parts that begin at a place: each stage begins behind the text of the one before
abbrev pub bk_placed : ℕ → BkParts → Bk
bk_placed at₁ p =
    let at₄ = at₁ + length (keys_text p.keys) in
    let at₆ = at₄ + length (sealed_text p.sealed) in
    let at₁₀ = at₆ + length (inputs_text p.inputs) in
    let at₁₁ = at₁₀ + length (optional_text mark_of_weak_list weak_text p.weak) in
    record { sealed = sealed_placed at₄ p.sealed; offsetting = inputs_placed at₆ p.inputs; weak = weak_in at₁₀ p.weak; trailer = at₁₁ + length (id_text p.end.id) }

-- BK, as a command of texts
abbrev pub bk_command : Bool → Command Bk
bk_command restricted = record { Parts = BkParts; is = IsBk restricted; text = bk_text; placed = bk_placed }

-- its text is read back, nothing else is read, the fields are refused exactly when no parts write the command, and no two parts write
-- the same bytes
abbrev pub BkExactly : Type 0
BkExactly = (restricted : Bool) → Exactly (bk_command restricted) (bk_fields restricted)

-- what stands at the places that are read are the parts
pub record Stand (s : List ℕ) (v : Bk) (p : BkParts) : Type 0 where
  pub block : part s v.sealed.block 16 ≡ p.sealed.block
  pub inputs : InputsStand s v.offsetting p.inputs
  pub weak : weak_pins v.weak s ≡ weak_pins_of p.weak
  pub trailer : drop v.trailer s ≡ trailer_text p.end.trailer

abbrev pub PartsStand : Type 0
PartsStand = (restricted : Bool) (s : List ℕ) (at : ℕ) (p : BkParts) → IsBk restricted p → drop at s ≡ bk_text p → Stand s (bk_placed at p) p

-- ---- DA and EA

abbrev pub verify_placed : ℕ → VerifyParts → Verification
verify_placed at₁ p =
    let at₄ = at₁ + length (front_text p.keys) in
    let at₆ = at₄ + length (sealed_text p.sealed) in
    let at₁₀ = at₆ + length (inputs_text p.inputs) in
    let at₁₁ = at₁₀ + length (presented_text p.offset) in
    record { sealed = sealed_placed at₄ p.sealed; offsetting = inputs_placed at₆ p.inputs; offset = at₁₀; digits = length p.offset; trailer = at₁₁ + length (id_text p.end.id) }

abbrev pub verify_command : Verifying → Command Verification
verify_command w = record { Parts = VerifyParts; is = IsVerify (pin_key_rule_of w); text = verify_text; placed = verify_placed }

-- no setting touches their fields
abbrev pub VerifyExactly : Type 0
VerifyExactly = (w : Verifying) → Exactly (verify_command w) (verify_fields (key_for w))

pub record VerifyStand (s : List ℕ) (v : Verification) (p : VerifyParts) : Type 0 where
  pub block : part s v.sealed.block 16 ≡ p.sealed.block
  pub inputs : InputsStand s v.offsetting p.inputs
  pub offset : part s v.offset v.digits ≡ p.offset
  pub trailer : drop v.trailer s ≡ trailer_text p.end.trailer

abbrev pub VerifyPartsStand : Type 0
VerifyPartsStand = (w : Verifying) (s : List ℕ) (at : ℕ) (p : VerifyParts) → IsVerify (pin_key_rule_of w) p → drop at s ≡ verify_text p → VerifyStand s (verify_placed at p) p
