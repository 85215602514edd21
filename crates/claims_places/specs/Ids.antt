-- "For disagreeing LMK ids, point at the last id that is present."
use Rattle.std.specs.Prelude.{ℕ, ◌+◌, ◌-◌, ◌≡◌, List, [], ◌∷◌, Bool, length, take, drop}
use Rattle.numbers.specs.declared.Refusal.TheVariants.{Field15}
use Rattle.fields.specs.Fields.{faulty}
use Rattle.fields.specs.declared.Fault.{Fault}
use Rattle.bkfields.specs.BkFields.{bk_fields}
use Rattle.verifyfields.specs.VerifyFields.{verify_fields}
use Rattle.texts.specs.Texts.{together}
use Rattle.texts_keys.specs.KeyTexts.{key_ids, own_ids, AllSame}
use Rattle.claims_commands.specs.Runs.{Verifying, key_for}
use Rattle.claims_exactly.specs.BkText.{BkParts, bk_text, bk_ids}
use Rattle.claims_exactly.specs.VerifyText.{VerifyParts, verify_text, verify_ids, pin_key_rule_of}
use Rattle.claims_places.specs.FieldTexts.{bk_field_texts, verify_field_texts}
use Rattle.claims_places.specs.Begins.{AreBk, AreVerify}

-- fields by their numbers, each with the ids that it holds: the last of them that holds one, or else a number from before
abbrev pub last_present : ℕ → List (ℕ × List ℕ) → ℕ
last_present before [] = before
last_present before ((field, []) ∷ later) = last_present before later
last_present before ((field, id ∷ ids) ∷ later) = last_present field later

-- "LMK ids present in fields 2, 3 and 11"; of DA and EA those in fields 1, 2 and 11
abbrev pub bk_last : BkParts → ℕ
bk_last p = last_present 0 ((2, key_ids p.keys.first) ∷ (3, key_ids p.keys.second) ∷ (11, own_ids p.end.id) ∷ [])

abbrev pub verify_last : VerifyParts → ℕ
verify_last p = last_present 0 ((1, key_ids p.keys.first) ∷ (2, key_ids p.keys.second) ∷ (11, own_ids p.end.id) ∷ [])

-- 15 at a field of a command that begins at a start: behind the texts of the fields before it
abbrev pub field_fault : ℕ → List (List ℕ) → ℕ → Fault
field_fault start texts field = record { refusal = Field15; field = field; place = start + length (together (take (field - 1) texts)) }

-- a command whose fields are as they must be, with nothing left over and ids that do not all agree
abbrev pub IdsPointAtTheLast : Type 0
IdsPointAtTheLast =
    ((restricted : Bool) (s : List ℕ) (start : ℕ) (p : BkParts) → AreBk restricted p → drop start s ≡ bk_text p → (AllSame (bk_ids p) → ⊥)
    → bk_fields restricted s start ≡ faulty (field_fault start (bk_field_texts p) (bk_last p)))
    × ((w : Verifying) (s : List ℕ) (start : ℕ) (p : VerifyParts) → AreVerify (pin_key_rule_of w) p → drop start s ≡ verify_text p → (AllSame (verify_ids p) → ⊥)
    → verify_fields (key_for w) s start ≡ faulty (field_fault start (verify_field_texts p) (verify_last p)))
