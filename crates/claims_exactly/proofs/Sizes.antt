-- How long the stages of a command can be, and so BK, DA and EA: well within the paper's 4,096 bytes.
-- Assumes nothing.
use Prim.Native.Nat.{ℕ, ◌+◌, ◌≤◌}
use native.Mathlib.Nat.{mul-le-mul}
use native.Mathlib.Omega.{arith}
use mathlib.Core.Path.{sym, subst}
use mathlib.Core.List.{List, ◌∷◌, ◌++◌}
use mathlib.Core.Bool.{Bool, false}
use lib.ListN.{length, length-append}
use Rattle.formats.specs.declared.Format.{Format}
use Rattle.formats.specs.declared.Format.TheVariants.{F01, F03, F05, F34, F35, F47}
use Rattle.uses.specs.Uses.{pin_key, pvk, verifying_pvk}
use Rattle.uses.specs.declared.Use.{Use}
use Rattle.texts.specs.Texts.{as_two_digits, Optional, absent, present, WherePresent, optional_text, IsTrailer, trailer_text}
use Rattle.texts_keys.specs.KeyTexts.{KeyType, is001, is002, isFFF, type_text, KeyRule, Key, bare, double, triple, block, key_text, IsKey, id_text}
use Rattle.texts_keys.specs.KeyWritings.{rule_for}
use Rattle.texts_keys.proofs.KeyBlocks.{block_long}
use Rattle.texts_data.specs.DataTexts.{format_text, Validation, with_n, with_p, validation_text, IsValidation, WeakList, no_pins, pins, weak_text, IsWeakList, mark_of_weak_list, maximum_text, presented_text}
use Rattle.texts_data.proofs.WeakLists.{entries_long}
use Rattle.texts_data.proofs.Offsets.{presented_long}
use Rattle.texts_stages.specs.StageTexts.{pair_text, KeyFields, keys_text, AreKeys, SealedFields, sealed_text, AreSealed, InputFields, inputs_text, AreInputs, EndFields, end_text, AreEnd}
use Rattle.claims_commands.specs.Runs.{Verifying, key_for}
use Rattle.claims_exactly.specs.BkText.{BkParts, bk_text, IsBk}
use Rattle.claims_exactly.specs.VerifyText.{pin_key_rule_of, VerifyParts, front_text, verify_text, IsVerify}
use Rattle.claims_exactly.proofs.VerifyFields.{key_ruled}

-- one text behind another
pub both : (xs ys : List ℕ) {m n : ℕ} → length xs ≤ m → length ys ≤ n → length (xs ++ ys) ≤ m + n
both xs ys p q = omega (arith, length-append xs ys)

-- ---- fields

type_size : (t : KeyType) → length (type_text t) ≤ 3
type_size is001 = omega arith
type_size is002 = omega arith
type_size isFFF = omega arith

pub key_size : (for : Use) (k : Key) → IsKey (rule_for for) k → length (key_text k) ≤ 513
key_size for (bare cs) g = omega (arith, g.0)
key_size for (double cs) g = omega (arith, g.0)
key_size for (triple cs) g = omega (arith, g.0)
key_size for (block k) g = omega (arith, block_long for k g, g.size)

format_size : (f : Format) → length (format_text f) ≤ 2
format_size F01 = omega arith
format_size F03 = omega arith
format_size F05 = omega arith
format_size F34 = omega arith
format_size F35 = omega arith
format_size F47 = omega arith

data_size : (v : Validation) → IsValidation v → length (validation_text v) ≤ 17
data_size (with_n front back) g = omega (arith, g.0, length-append front back, length-append front (0x4E ∷ back))
data_size (with_p cs) g = omega (arith, g.0)

id_size : (v : Optional ℕ) → length (id_text v) ≤ 3
id_size absent = omega arith
id_size (present n) = omega arith

trailer_size : (t : Optional (List ℕ)) → WherePresent IsTrailer t → length (trailer_text t) ≤ 33
trailer_size absent g = omega arith
trailer_size (present cs) g = omega (arith, g.0)

-- ---- stages

pub keys_size : (use₁ use₂ : Use) (k : KeyFields) → AreKeys (rule_for use₁) (rule_for use₂) k → length (keys_text k) ≤ 1029
keys_size use₁ use₂ k g =
    both (type_text k.type) (key_text k.first ++ key_text k.second) (type_size k.type)
    (both (key_text k.first) (key_text k.second) (key_size use₁ k.first g.first) (key_size use₂ k.second g.second))

pub sealed_size : (restricted : Bool) (p : SealedFields) → AreSealed restricted p → length (sealed_text p) ≤ 18
sealed_size restricted p g = both p.block (format_text p.format) {m = 16} (omega (arith, g.block.0)) (format_size p.format)

pub inputs_size : (p : InputFields) → AreInputs p → length (inputs_text p) ≤ 47
inputs_size p g =
    let data-text = validation_text p.validation in
    both (as_two_digits p.check) (p.account ++ (p.table ++ data-text)) {m = 2} (omega arith)
    (both p.account (p.table ++ data-text) {m = 12} (omega (arith, g.account.0))
    (both p.table data-text {m = 16} (omega (arith, g.table.0)) (data_size p.validation g.validation)))

pub weak_size : (w : Optional WeakList) → WherePresent IsWeakList w → length (optional_text mark_of_weak_list weak_text w) ≤ 1193
weak_size absent g = omega arith
weak_size (present no_pins) g = omega arith
weak_size (present (pins n es)) g = omega (arith, entries_long n es g.2, mul-le-mul g.0.1 g.1.1)

pub end_size : (p : EndFields) → AreEnd p → length (end_text p) ≤ 36
end_size p g = both (id_text p.id) (trailer_text p.trailer) (id_size p.id) (trailer_size p.trailer g.trailer)

-- ---- BK: 2,323 characters at most

pub bk_size : (restricted : Bool) (p : BkParts) → IsBk restricted p → length (bk_text p) ≤ 2323
bk_size restricted p g =
    let weak = optional_text mark_of_weak_list weak_text p.weak in
    both (keys_text p.keys) (sealed_text p.sealed ++ (inputs_text p.inputs ++ (weak ++ end_text p.end))) (keys_size pin_key pvk p.keys g.keys)
    (both (sealed_text p.sealed) (inputs_text p.inputs ++ (weak ++ end_text p.end)) (sealed_size restricted p.sealed g.sealed)
    (both (inputs_text p.inputs) (weak ++ end_text p.end) (inputs_size p.inputs g.inputs)
    (both weak (end_text p.end) (weak_size p.weak g.weak) (end_size p.end g.end))))

-- ---- DA and EA: 1,141 at most

verify_front_size : (w : Verifying) (p : VerifyParts) → IsVerify (pin_key_rule_of w) p → length (front_text p.keys) ≤ 1028
verify_front_size w p g =
    let first = subst (λ (r : KeyRule). IsKey r p.keys.first) (sym (key_ruled w)) g.pin_key.is in
    both (pair_text p.keys) maximum_text {n = 2}
    (both (key_text p.keys.first) (key_text p.keys.second) (key_size (key_for w) p.keys.first first) (key_size verifying_pvk p.keys.second g.pvk.is))
    (omega arith)

pub verify_size : (w : Verifying) (p : VerifyParts) → IsVerify (pin_key_rule_of w) p → length (verify_text p) ≤ 1141
verify_size w p g =
    let offset = presented_text p.offset in
    both (front_text p.keys) (sealed_text p.sealed ++ (inputs_text p.inputs ++ (offset ++ end_text p.end))) (verify_front_size w p g)
    (both (sealed_text p.sealed) (inputs_text p.inputs ++ (offset ++ end_text p.end)) (sealed_size false p.sealed g.sealed)
    (both (inputs_text p.inputs) (offset ++ end_text p.end) (inputs_size p.inputs g.inputs)
    (both offset (end_text p.end) {m = 12} (omega (arith, presented_long p.offset g.offset)) (end_size p.end g.end))))
