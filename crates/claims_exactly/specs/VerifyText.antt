-- The DA and the EA command: their twelve fields, one after the other. They differ in their code and in the rule of the PIN key.
use Rattle.std.specs.Prelude.{ℕ, List, ◌++◌, false}
use Rattle.texts.specs.Characters.{printed}
use Rattle.texts_keys.specs.KeyTexts.{KeyRule, terminal_key_rule, zone_key_rule, verifying_pvk_rule, Key, IsKey, HasLetter, key_ids, own_ids, AllSame}
use Rattle.texts_data.specs.DataTexts.{maximum_text, presented_text, IsPresented}
use Rattle.texts_stages.specs.StageTexts.{PairFields, pair_text, SealedFields, sealed_text, AreSealed, InputFields, inputs_text, AreInputs, EndFields, end_text, AreEnd}
use Rattle.claims_commands.specs.Runs.{Verifying, terminal, zone}

-- DA has a terminal's key, EA a zone's
abbrev pub verify_code : Verifying → List ℕ
verify_code terminal = printed "DA"
verify_code zone = printed "EA"

abbrev pub pin_key_rule_of : Verifying → KeyRule
pin_key_rule_of terminal = terminal_key_rule
pin_key_rule_of zone = zone_key_rule

-- fields 1 and 2; 4 and 5; 6 to 9; 10, the digits of the offset; 11 and 12. Field 3, the maximum PIN length, has no choice
pub record VerifyParts : Type 0 where
  pub keys : PairFields
  pub sealed : SealedFields
  pub inputs : InputFields
  pub offset : List ℕ
  pub end : EndFields

-- fields 1 to 3
abbrev pub front_text : PairFields → List ℕ
front_text k = pair_text k ++ maximum_text

-- field after field
abbrev pub verify_text : VerifyParts → List ℕ
verify_text p = front_text p.keys ++ (sealed_text p.sealed ++ (inputs_text p.inputs ++ (presented_text p.offset ++ end_text p.end)))

-- the LMK ids that are present in fields 1, 2 and 11
abbrev pub verify_ids : VerifyParts → List ℕ
verify_ids p = key_ids p.keys.first ++ (key_ids p.keys.second ++ own_ids p.end.id)

-- a key that goes by its own letter and is one of a rule
pub record IsOwnKey (rule : KeyRule) (k : Key) : Type 0 where
  pub letter : HasLetter k
  pub is : IsKey rule k

-- which parts are a command: its fields are as their table has them, all six formats whatever the setting of restricted ones, and the
-- ids agree
pub record IsVerify (pin_key_rule : KeyRule) (p : VerifyParts) : Type 0 where
  pub pin_key : IsOwnKey pin_key_rule p.keys.first
  pub pvk : IsOwnKey verifying_pvk_rule p.keys.second
  pub sealed : AreSealed false p.sealed
  pub inputs : AreInputs p.inputs
  pub offset : IsPresented p.offset
  pub end : AreEnd p.end
  pub ids : AllSame (verify_ids p)
