-- The BK command: its twelve fields, one after the other.
use Rattle.std.specs.Prelude.{ℕ, List, ◌++◌, Bool}
use Rattle.texts.specs.Texts.{Optional, WherePresent, optional_text}
use Rattle.texts_keys.specs.KeyTexts.{pin_key_rule, pvk_rule, key_ids, own_ids, AllSame}
use Rattle.texts_data.specs.DataTexts.{WeakList, weak_text, IsWeakList, mark_of_weak_list}
use Rattle.texts_stages.specs.StageTexts.{KeyFields, keys_text, AreKeys, SealedFields, sealed_text, AreSealed, InputFields, inputs_text, AreInputs, EndFields, end_text, AreEnd}

-- fields 1 to 3; 4 and 5; 6 to 9; 10; 11 and 12
pub record BkParts : Type 0 where
  pub keys : KeyFields
  pub sealed : SealedFields
  pub inputs : InputFields
  pub weak : Optional WeakList
  pub end : EndFields

-- "The BK command, field after field"
abbrev pub bk_text : BkParts → List ℕ
bk_text p = keys_text p.keys ++ (sealed_text p.sealed ++ (inputs_text p.inputs ++ (optional_text mark_of_weak_list weak_text p.weak ++ end_text p.end)))

-- "LMK ids present in fields 2, 3 and 11"
abbrev pub bk_ids : BkParts → List ℕ
bk_ids p = key_ids p.keys.first ++ (key_ids p.keys.second ++ own_ids p.end.id)

-- which parts are a command: its fields are as the paper has them, and "LMK ids […] must all agree"
pub record IsBk (restricted : Bool) (p : BkParts) : Type 0 where
  pub keys : AreKeys pin_key_rule pvk_rule p.keys
  pub sealed : AreSealed restricted p.sealed
  pub inputs : AreInputs p.inputs
  pub weak : WherePresent IsWeakList p.weak
  pub end : AreEnd p.end
  pub ids : AllSame (bk_ids p)
