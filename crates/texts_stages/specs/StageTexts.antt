-- What the runs of fields are that commands share, as texts: the fields one after the other.
use Rattle.std.specs.Prelude.{ℕ, List, ◌++◌, Bool}
use Rattle.alphabet.specs.declared.Class.TheVariants.{Digit, CapitalHex}
use Rattle.formats.specs.declared.Format.{Format}
use Rattle.texts.specs.Texts.{Run, Within, as_two_digits, Optional, WherePresent, IsTrailer, trailer_text}
use Rattle.texts_keys.specs.KeyTexts.{KeyType, type_text, KeyRule, Key, key_text, IsKey, Wants, IsId, id_text}
use Rattle.texts_data.specs.DataTexts.{format_text, Allows, Validation, validation_text, IsValidation}

-- ---- "PIN key, then […] PVK"

pub record PairFields : Type 0 where
  pub first : Key
  pub second : Key

abbrev pub pair_text : PairFields → List ℕ
pair_text k = key_text k.first ++ key_text k.second

-- ---- "1. Key type"; "2. PIN key, then 3. PVK"

pub record KeyFields : Type 0 where
  pub type : KeyType
  pub first : Key
  pub second : Key

abbrev pub keys_text : KeyFields → List ℕ
keys_text k = type_text k.type ++ (key_text k.first ++ key_text k.second)

-- each key has a letter that the type wants, and is a key of its rule
pub record AreKeys (rule₁ rule₂ : KeyRule) (k : KeyFields) : Type 0 where
  pub wanted : Wants k.type k.first × Wants k.type k.second
  pub first : IsKey rule₁ k.first
  pub second : IsKey rule₂ k.second

-- ---- "4. PIN block, 16 hex"; "5. Format"

pub record SealedFields : Type 0 where
  pub block : List ℕ
  pub format : Format

abbrev pub sealed_text : SealedFields → List ℕ
sealed_text p = p.block ++ format_text p.format

pub record AreSealed (restricted : Bool) (p : SealedFields) : Type 0 where
  pub block : Run CapitalHex 16 p.block
  pub format : Allows restricted p.format

-- ---- "6. Check length, 04 to 12"; "7. Account, 12 digits"; "8. Decimalisation table, 16 digits"; "9. Validation data"

pub record InputFields : Type 0 where
  pub check : ℕ
  pub account : List ℕ
  pub table : List ℕ
  pub validation : Validation

abbrev pub inputs_text : InputFields → List ℕ
inputs_text p = as_two_digits p.check ++ (p.account ++ (p.table ++ validation_text p.validation))

pub record AreInputs (p : InputFields) : Type 0 where
  pub check : Within 4 12 p.check
  pub account : Run Digit 12 p.account
  pub table : Run Digit 16 p.table
  pub validation : IsValidation p.validation

-- ---- "11. Optional `%` and LMK id `00` to `09`"; "12. Optional byte 19 hex and a trailer"

pub record EndFields : Type 0 where
  pub id : Optional ℕ
  pub trailer : Optional (List ℕ)

abbrev pub end_text : EndFields → List ℕ
end_text p = id_text p.id ++ trailer_text p.trailer

pub record AreEnd (p : EndFields) : Type 0 where
  pub id : WherePresent IsId p.id
  pub trailer : WherePresent IsTrailer p.trailer
