-- The fields of a command as texts, one by one, in the order in which its table counts them.
use Rattle.std.specs.Prelude.{ℕ, ◌≡◌, List, [], ◌∷◌, ◌++◌, length}
use Rattle.texts.specs.Texts.{as_two_digits, optional_text, trailer_text, together}
use Rattle.texts_keys.specs.KeyTexts.{type_text, key_text, id_text}
use Rattle.texts_data.specs.DataTexts.{format_text, validation_text, weak_text, mark_of_weak_list, maximum_text, presented_text}
use Rattle.texts_stages.specs.StageTexts.{PairFields, KeyFields, SealedFields, InputFields, EndFields}
use Rattle.claims_exactly.specs.BkText.{BkParts, bk_text}
use Rattle.claims_exactly.specs.VerifyText.{VerifyParts, verify_text}

-- "2. PIN key, then 3. PVK"; in DA and EA 1 and 2
abbrev pub pair_fields : PairFields → List (List ℕ)
pair_fields k = key_text k.first ∷ key_text k.second ∷ []

-- "1. Key type", then the keys
abbrev pub key_fields : KeyFields → List (List ℕ)
key_fields k = type_text k.type ∷ key_text k.first ∷ key_text k.second ∷ []

-- "4. PIN block"; "5. Format"
abbrev pub sealed_fields : SealedFields → List (List ℕ)
sealed_fields p = p.block ∷ format_text p.format ∷ []

-- "6. Check length"; "7. Account"; "8. Decimalisation table"; "9. Validation data"
abbrev pub input_fields : InputFields → List (List ℕ)
input_fields p = as_two_digits p.check ∷ p.account ∷ p.table ∷ validation_text p.validation ∷ []

-- "11. Optional `%` and LMK id"; "12. Optional byte 19 hex and a trailer"
abbrev pub end_fields : EndFields → List (List ℕ)
end_fields p = id_text p.id ∷ trailer_text p.trailer ∷ []

-- BK's twelve; the tenth is the weak list
abbrev pub bk_field_texts : BkParts → List (List ℕ)
bk_field_texts p =
    key_fields p.keys ++ (sealed_fields p.sealed ++ (input_fields p.inputs ++ (optional_text mark_of_weak_list weak_text p.weak ∷ end_fields p.end)))

-- the twelve of DA and EA: the third is the maximum PIN length, the tenth the offset
abbrev pub verify_field_texts : VerifyParts → List (List ℕ)
verify_field_texts p =
    pair_fields p.keys ++ (maximum_text ∷ (sealed_fields p.sealed ++ (input_fields p.inputs ++ (presented_text p.offset ∷ end_fields p.end))))

-- twelve of each, and together they are the command's text
abbrev pub TextsAreFields : Type 0
TextsAreFields =
    ((p : BkParts) → (length (bk_field_texts p) ≡ 12) × (together (bk_field_texts p) ≡ bk_text p))
    × ((p : VerifyParts) → (length (verify_field_texts p) ≡ 12) × (together (verify_field_texts p) ≡ verify_text p))
