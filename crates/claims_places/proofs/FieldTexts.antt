-- The texts of stages and commands, field by field.
-- Assumes nothing.
use Prim.Native.Nat.{ℕ}
use mathlib.Core.Path.{◌≡◌, refl, sym, ap, ap₂, ◌∙◌}
use mathlib.Core.List.{List, ◌∷◌, ◌++◌, append_assoc, append-nil}
use Rattle.texts.specs.Texts.{as_two_digits, optional_text, trailer_text, together}
use Rattle.texts_keys.specs.KeyTexts.{type_text, key_text, id_text}
use Rattle.texts_data.specs.DataTexts.{validation_text, weak_text, mark_of_weak_list, maximum_text, presented_text}
use Rattle.texts_stages.specs.StageTexts.{PairFields, pair_text, KeyFields, keys_text, SealedFields, sealed_text, InputFields, inputs_text, EndFields, end_text}
use Rattle.claims_exactly.specs.BkText.{BkParts, bk_text}
use Rattle.claims_exactly.specs.VerifyText.{VerifyParts, verify_text}
use Rattle.claims_places.specs.FieldTexts.{pair_fields, key_fields, sealed_fields, input_fields, end_fields, bk_field_texts, verify_field_texts, TextsAreFields}
use Rattle.claims_places.proofs.Between.{together_append}

-- ---- the texts of stages, field by field

pub pair_fields_lem : (k : PairFields) → pair_text k ≡ together (pair_fields k)
pair_fields_lem k = ap (λ (l : List ℕ). key_text k.first ++ l) (sym (append-nil (key_text k.second)))

pub key_fields_lem : (k : KeyFields) → keys_text k ≡ together (key_fields k)
key_fields_lem k = ap (λ (l : List ℕ). type_text k.type ++ l) (pair_fields_lem (record { first = k.first; second = k.second }))

pub sealed_fields_lem : (p : SealedFields) → sealed_text p ≡ together (sealed_fields p)
sealed_fields_lem p = ap (λ (l : List ℕ). p.block ++ l) (sym (append-nil _))

pub input_fields_lem : (p : InputFields) → inputs_text p ≡ together (input_fields p)
input_fields_lem p = ap (λ (l : List ℕ). as_two_digits p.check ++ (p.account ++ (p.table ++ l))) (sym (append-nil (validation_text p.validation)))

pub end_fields_lem : (p : EndFields) → end_text p ≡ together (end_fields p)
end_fields_lem p = ap (λ (l : List ℕ). id_text p.id ++ l) (sym (append-nil (trailer_text p.trailer)))

-- ---- the fields together are the command

-- the texts of one stage, and then the others'
joined_fields : (t : List ℕ) (ts us : List (List ℕ)) (rest : List ℕ) → t ≡ together ts → together us ≡ rest → together (ts ++ us) ≡ t ++ rest
joined_fields t ts us rest e f = together_append ts us ∙ ap₂ ◌++◌ (sym e) f

-- what both have behind their first fields: block and inputs, then a field of their own, then the end
behind_front : (b : SealedFields) (i : InputFields) (t : List ℕ) (e : EndFields)
    → together (sealed_fields b ++ (input_fields i ++ (t ∷ end_fields e))) ≡ sealed_text b ++ (inputs_text i ++ (t ++ end_text e))
behind_front b i t e =
    joined_fields (sealed_text b) (sealed_fields b) (input_fields i ++ (t ∷ end_fields e)) _ (sealed_fields_lem b)
    (joined_fields (inputs_text i) (input_fields i) (t ∷ end_fields e) _ (input_fields_lem i) (ap (λ (l : List ℕ). t ++ l) (sym (end_fields_lem e))))

bk_fields_lem : (p : BkParts) → together (bk_field_texts p) ≡ bk_text p
bk_fields_lem p =
    joined_fields (keys_text p.keys) (key_fields p.keys) (sealed_fields p.sealed ++ (input_fields p.inputs ++ (optional_text mark_of_weak_list weak_text p.weak ∷ end_fields p.end))) _ (key_fields_lem p.keys)
    (behind_front p.sealed p.inputs (optional_text mark_of_weak_list weak_text p.weak) p.end)

verify_fields_lem : (p : VerifyParts) → together (verify_field_texts p) ≡ verify_text p
verify_fields_lem p =
    joined_fields (pair_text p.keys) (pair_fields p.keys) (maximum_text ∷ (sealed_fields p.sealed ++ (input_fields p.inputs ++ (presented_text p.offset ∷ end_fields p.end)))) _ (pair_fields_lem p.keys)
    (ap (λ (l : List ℕ). maximum_text ++ l) (behind_front p.sealed p.inputs (presented_text p.offset) p.end))
    ∙ sym (append_assoc (pair_text p.keys) maximum_text _)

pub texts_are_fields : TextsAreFields
texts_are_fields = (λ p. (refl, bk_fields_lem p), λ p. (refl, verify_fields_lem p))
