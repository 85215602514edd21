-- Where a fault points, said by texts and not by reading: before the place stand the fields before it, each as the paper has it, and at
-- the place the field that is told does not stand.
use Rattle.std.specs.Prelude.{ℕ, ◌+◌, ◌-◌, ◌≤◌, ◌<◌, ◌≡◌, ◌⊎◌, List, [], ◌++◌, Bool, false, length, take, drop}
use Rattle.alphabet.specs.Alphabet.{begins}
use Rattle.fields.specs.Fields.{faulty, pointer_of}
use Rattle.fields.specs.declared.Pointer.{Pointer}
use Rattle.fields.specs.declared.Fault.{Fault}
use Rattle.bkfields.specs.BkFields.{bk_fields}
use Rattle.verifyfields.specs.VerifyFields.{verify_fields}
use Rattle.texts.specs.Texts.{Optional, absent, present, WherePresent, trailer_text, mark_of_trailer, together}
use Rattle.texts_keys.specs.KeyTexts.{KeyRule, pin_key_rule, pvk_rule, verifying_pvk_rule, mark_of_id, AllSame}
use Rattle.texts_data.specs.DataTexts.{IsWeakList, mark_of_weak_list, IsPresented}
use Rattle.texts_stages.specs.StageTexts.{EndFields, end_text, AreKeys, AreSealed, AreInputs, AreEnd}
use Rattle.claims_commands.specs.Runs.{Verifying, key_for}
use Rattle.claims_exactly.specs.BkText.{BkParts, bk_ids}
use Rattle.claims_exactly.specs.VerifyText.{VerifyParts, verify_ids, pin_key_rule_of, IsOwnKey}
use Rattle.claims_places.specs.FieldTexts.{bk_field_texts, verify_field_texts}

-- ---- what stands before a place

-- the bytes from a start to a place are these texts, one behind the other
pub record Between (s : List ℕ) (start place : ℕ) (texts : List (List ℕ)) : Type 0 where
  pub bytes : drop start s ≡ together texts ++ drop place s
  pub reached : place ≡ start + length (together texts)

-- ---- commands, whatever their LMK ids: these are judged at the end

-- a BK's fields are as the paper has them
pub record AreBk (restricted : Bool) (p : BkParts) : Type 0 where
  pub keys : AreKeys pin_key_rule pvk_rule p.keys
  pub sealed : AreSealed restricted p.sealed
  pub inputs : AreInputs p.inputs
  pub weak : WherePresent IsWeakList p.weak
  pub end : AreEnd p.end

-- those of a DA or an EA are as their table has them
pub record AreVerify (rule : KeyRule) (p : VerifyParts) : Type 0 where
  pub pin_key : IsOwnKey rule p.keys.first
  pub pvk : IsOwnKey verifying_pvk_rule p.keys.second
  pub sealed : AreSealed false p.sealed
  pub inputs : AreInputs p.inputs
  pub offset : IsPresented p.offset
  pub end : AreEnd p.end

-- ---- what no field took

-- an optional field is absent where its mark is not there
abbrev pub Unmarked : {A : Type 0} → List ℕ → Optional A → List ℕ → Type 0
Unmarked mark absent behind = begins mark behind ≡ false
Unmarked mark (present a) behind = Unit {0}

-- "bytes past a full trailer too": a trailer has all of its 32 characters before something is left over
abbrev pub FullTrailer : Optional (List ℕ) → Type 0
FullTrailer absent = Unit {0}
FullTrailer (present cs) = length cs ≡ 32

-- id and trailer took what they can of what stands behind the other fields
pub record EndTook (end : EndFields) (left : List ℕ) : Type 0 where
  pub id : Unmarked mark_of_id end.id (trailer_text end.trailer ++ left)
  pub trailer : Unmarked mark_of_trailer end.trailer left
  pub full : FullTrailer end.trailer

-- of BK the weak list too
abbrev pub BkTook : BkParts → List ℕ → Type 0
BkTook p left = Unmarked mark_of_weak_list p.weak (end_text p.end ++ left) × EndTook p.end left

-- ---- what is said of any command of twelve fields

-- its parts, which are each as it must be; its fields as texts; its id and trailer; that those of its first n fields which are absent are
-- not there; that its last fields took what they can of what stands behind; the LMK ids that are present
pub record Form (P : Type 0) : Type 1 where
  pub Are : P → Type 0
  pub texts : P → List (List ℕ)
  pub end : P → EndFields
  pub Skipped : P → ℕ → List ℕ → Type 0
  pub Took : P → List ℕ → Type 0
  pub ids : P → List ℕ

-- what stands behind the first n of some fields, of which k are passed over
abbrev behind_field : ℕ → ℕ → List (List ℕ) → List ℕ → List ℕ
behind_field k n texts left = together (drop k (take n texts)) ++ left

-- the LMK id, field 11; of BK the weak list, field 10, too
abbrev IdSkipped : EndFields → ℕ → List ℕ → Type 0
IdSkipped end n left = 11 ≤ n → Unmarked mark_of_id end.id left

abbrev WeakSkipped : BkParts → ℕ → List ℕ → Type 0
WeakSkipped p n left = 10 ≤ n → Unmarked mark_of_weak_list p.weak (behind_field 10 n (bk_field_texts p) left)

abbrev pub bk_form : Bool → Form BkParts
bk_form restricted = record {
  Are = AreBk restricted;
  texts = bk_field_texts;
  end = λ p. p.end;
  Skipped = λ p n left. WeakSkipped p n left × IdSkipped p.end n left;
  Took = BkTook;
  ids = bk_ids;
}

abbrev pub verify_form : KeyRule → Form VerifyParts
verify_form rule = record {
  Are = AreVerify rule;
  texts = verify_field_texts;
  end = λ p. p.end;
  Skipped = λ p n left. IdSkipped p.end n left;
  Took = λ p left. EndTook p.end left;
  ids = verify_ids;
}

module _ {P : Type 0} (form : Form P) (s : List ℕ) (start : ℕ) where
  -- before a place stand the first n fields of some parts
  abbrev pub Before : ℕ → ℕ → P → Type 0
  Before place n p = form.Are p × Between s start place (take n (form.texts p))

  -- a trailer ends with the command, or has its 32 characters
  abbrev pub Ended : P → List ℕ → Type 0
  Ended p left = (left ≡ []) ⊎ FullTrailer (form.end p).trailer

  -- field n + 1 does not stand at the place: whatever parts have the same n fields before it, their next one is not there
  abbrev pub Fails : ℕ → ℕ → P → Type 0
  Fails place n p = (q : P) → form.Are q → take n (form.texts q) ≡ take n (form.texts p)
      → (end : ℕ) → place < end → Between s place end (take 1 (drop n (form.texts q))) → (n ≡ 11 → Ended q (drop end s)) → ⊥

  -- every field stands, and nothing is left over, but the LMK ids do not all agree
  abbrev pub IdsApart : Type 0
  IdsApart = (p : P) × form.Are p × (drop start s ≡ together (form.texts p)) × (AllSame (form.ids p) → ⊥)

  -- a field fails at a place: those before it stand, and it does not; or ids point back at it
  pub record FailsAt (place n : ℕ) : Type 0 where
    pub parts : P
    pub before : Before place n parts
    pub skipped : form.Skipped parts n (drop place s)
    pub failed : Fails place n parts ⊎ IdsApart

  -- all fields stand before the place, the last ones took what they can, and there is a byte at the place
  pub record LeftOver (place : ℕ) : Type 0 where
    pub parts : P
    pub before : Before place 12 parts
    pub took : form.Took parts (drop place s)
    pub more : place < length s

  -- what is pointed at: a field from 1 to 12, which fails there; or no field, and then it is the first byte that no field took
  pub record PointsAt (at : Pointer) : Type 0 where
    pub field : 1 ≤ at.field → (at.field ≤ 12) × FailsAt at.place (at.field - 1)
    pub over : at.field ≡ 0 → LeftOver at.place

-- ---- the claims

abbrev pub BkPointsAt : Type 0
BkPointsAt = (restricted : Bool) (s : List ℕ) (start : ℕ) (f : Fault) → bk_fields restricted s start ≡ faulty f → PointsAt (bk_form restricted) s start (pointer_of f)

abbrev pub VerifyPointsAt : Type 0
VerifyPointsAt = (w : Verifying) (s : List ℕ) (start : ℕ) (f : Fault) → verify_fields (key_for w) s start ≡ faulty f → PointsAt (verify_form (pin_key_rule_of w)) s start (pointer_of f)

-- what stands before the place stands there in every command that shares the bytes before it, whatever comes from there on
abbrev pub SharedAlike : Type 1
SharedAlike = (P : Type 0) (form : Form P) (s t : List ℕ) (start place n : ℕ) (p : P) → place ≤ length t → take place s ≡ take place t
    → Before form s start place n p → Before form t start place n p
