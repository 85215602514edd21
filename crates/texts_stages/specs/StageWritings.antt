-- How the stages are written, with what is read of each where it begins at a place: places, and the few values that are kept.
use Rattle.std.specs.Prelude.{ℕ, ◌+◌, ◌≡◌, List, [], ◌++◌, Bool, length}
use Rattle.uses.specs.declared.Use.{Use}
use Rattle.offsetting.specs.Offsetting.{part, validation_in}
use Rattle.keys.specs.declared.Letters.{Letters}
use Rattle.keyfields.specs.declared.Keys.{Keys}
use Rattle.sealed.specs.declared.Sealed.{Sealed}
use Rattle.offsetting.specs.declared.Offsetting.{Offsetting}
use Rattle.texts.specs.Texts.{as_two_digits}
use Rattle.texts.specs.Exact.{Writing}
use Rattle.texts_keys.specs.KeyTexts.{type_text, key_text, IsKey, own_ids, AllSame, id_text}
use Rattle.texts_keys.specs.KeyWritings.{rule_for, Admits, lmk_of, ids_read}
use Rattle.texts_data.specs.DataTexts.{validation_text}
use Rattle.texts_data.specs.DataWritings.{shape}
use Rattle.texts_stages.specs.StageTexts.{PairFields, pair_text, KeyFields, keys_text, AreKeys, SealedFields, sealed_text, AreSealed, InputFields, inputs_text, AreInputs, EndFields, end_text, AreEnd}

-- of two keys: their LMK ids, and where the second begins
abbrev pub pair_placed : ℕ → ℕ → PairFields → Keys
pair_placed which at k = record { first = lmk_of k.first; second = lmk_of k.second; field = which + 1; place = at + length (key_text k.first) }

-- each field admits its key by the letter, and it is a key of its rule
abbrev pub pair_at : ℕ → Letters → Use → Letters → Use → ℕ → Writing Keys
pair_at which letters₁ use₁ letters₂ use₂ at = record {
  Part = PairFields;
  fine = λ k _. (Admits letters₁ k.first × IsKey (rule_for use₁) k.first) × (Admits letters₂ k.second × IsKey (rule_for use₂) k.second);
  text = pair_text;
  value = pair_placed which at;
}

-- of a key type and two keys the same: the keys begin behind the type
abbrev pub keys_placed : ℕ → ℕ → KeyFields → Keys
keys_placed which at k = pair_placed (which + 1) (at + length (type_text k.type)) (record { first = k.first; second = k.second })

abbrev pub keys_at : ℕ → Use → Use → ℕ → Writing Keys
keys_at which use₁ use₂ at = record { Part = KeyFields; fine = λ k _. AreKeys (rule_for use₁) (rule_for use₂) k; text = keys_text; value = keys_placed which at }

-- of block and format: where the block begins, and the format
abbrev pub sealed_placed : ℕ → SealedFields → Sealed
sealed_placed at p = record { block = at; format = p.format }

abbrev pub sealed_at : Bool → ℕ → Writing Sealed
sealed_at restricted at = record { Part = SealedFields; fine = λ p _. AreSealed restricted p; text = sealed_text; value = sealed_placed at }

-- of the inputs: where each begins, the check length, and the shape of the validation data
abbrev pub inputs_placed : ℕ → InputFields → Offsetting
inputs_placed at p =
    let account = at + length (as_two_digits p.check) in
    let table = account + length p.account in
    record { check = p.check; account = account; table = table; validation = table + length p.table; shape = shape p.validation }

abbrev pub inputs_at : ℕ → Writing Offsetting
inputs_at at = record { Part = InputFields; fine = λ p _. AreInputs p; text = inputs_text; value = inputs_placed at }

-- they stand there
pub record InputsStand (s : List ℕ) (o : Offsetting) (p : InputFields) : Type 0 where
  pub account : part s o.account 12 ≡ p.account
  pub table : part s o.table 16 ≡ p.table
  pub validation : validation_in s o ≡ validation_text p.validation

-- of the end, which has nothing behind it: where the trailer's mark is, or the command's end. "At the end, LMK ids present […] must all
-- agree": those that were read before, and its own
abbrev pub end_at : Keys → ℕ → Writing ℕ
end_at ks at = record {
  Part = EndFields;
  fine = λ p rest. (rest ≡ []) × AreEnd p × AllSame (ids_read ks.first ++ (ids_read ks.second ++ own_ids p.id));
  text = end_text;
  value = λ p. at + length (id_text p.id);
}
