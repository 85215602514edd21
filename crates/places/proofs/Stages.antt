-- A stage goes on in the command, and its fault points into it.
-- Assumes nothing.
use Rattle.std.specs.Prelude.{Option}
use Prim.Native.Nat.{ℕ, ◌+◌, ◌≤◌}
use native.Mathlib.Omega.{arith}
use mathlib.Core.Path.{◌≡◌, refl}
use mathlib.Core.List.{List}
use mathlib.Core.Bool.{Bool, true, false, cond}
use lib.ListN.{length, drop}
use lib.Dec.{leb}
use Rattle.alphabet.specs.declared.Class.TheVariants.{Digit, CapitalHex}
use Rattle.numbers.specs.Numbers.{done, refused}
use Rattle.numbers.specs.declared.Refusal.TheVariants.{Field15, Table25}
use Rattle.fields.specs.Fields.{Found, Stage, read, faulty, field, fielded, onward, run, number, trailer}
use Rattle.fields.proofs.Reading.{inside_from}
use Rattle.lmk.specs.Lmk.{lmk_field, present}
use Rattle.lmk.proofs.Laws.{lmk_onward}
use Rattle.uses.specs.Uses.{pin_key, pvk, verifying_pvk}
use Rattle.uses.specs.declared.Use.{Use}
use Rattle.keys.specs.Keys.{key_type, key, any_letter}
use Rattle.keys.specs.declared.Letters.{Letters}
use Rattle.weakfield.specs.WeakField.{weak_field}
use Rattle.weakfield.proofs.Laws.{weak_onward}
use Rattle.formatfield.specs.FormatField.{format_field}
use Rattle.validationfield.specs.ValidationField.{validation_field}
use Rattle.validationfield.proofs.Laws.{validation_found}
use Rattle.offsetfield.specs.OffsetField.{offset_field}
use Rattle.offsetfield.proofs.Laws.{offset_held}
use Rattle.keyfields.specs.KeyFields.{key_pair, keys}
use Rattle.keyfields.specs.declared.Keys.{Keys}
use Rattle.sealed.specs.Sealed.{sealed}
use Rattle.offsetting.specs.Offsetting.{offsetting}
use Rattle.weaklist.specs.WeakList.{weak}
use Rattle.endings.specs.Endings.{all_agree, last_id, closed, end}
use Rattle.bkfields.specs.BkFields.{weak_mark, bk_fields}
use Rattle.verifyfields.specs.VerifyFields.{maximum, restricted, front, verify_fields}
use Rattle.places.specs.Places.{last_field, Points, StaysIn}
use Rattle.places.proofs.Readers.{Takes, run_takes, number_takes, trailer_takes, type_takes, key_takes, format_takes}

-- nothing is asked of what was read
abbrev pub Any : {A : Type 0} → A → Type 0
Any a = Unit {0}

-- what the end asks of the keys: the second key's field, where ids that disagree may point
abbrev pub SecondIn : List ℕ → Keys → Type 0
SecondIn s ks = (ks.place ≤ length s) × (ks.field ≤ last_field)

offset_takes : Takes offset_field
offset_takes cs n width e = let h = offset_held cs 0 n width e in omega (arith, h.twelve, h.inside)

module _ (s : List ℕ) where
  -- a field, and what comes next
  field_stays : {A B : Type 0} (Asked : B → Type 0) (k at : ℕ) (reader : List ℕ → Found A) (next : A → ℕ → Stage B)
      → k ≤ last_field → at ≤ length s → Takes reader → ((a : A) (past : ℕ) → past ≤ length s → StaysIn s Asked (next a past)) → StaysIn s Asked (field k reader s at next)
  field_stays {A} {B} Asked k at reader next h l takes go = by_found (reader (drop at s)) refl
    where
      by_found : (o : Found A) → reader (drop at s) ≡ o → StaysIn s Asked (fielded k at o next)
      by_found (done r) e = go r.0 (at + r.1) (inside_from s at r.1 l (takes (drop at s) r.0 r.1 e))
      by_found (refused q) e = record { place = l; field = h }

  -- a stage, and what comes next
  onward_stays : {A B : Type 0} (Asked : A → Type 0) (Wanted : B → Type 0) (stage : Stage A) (next : A → ℕ → Stage B)
      → StaysIn s Asked stage → ((a : A) (past : ℕ) → Asked a → past ≤ length s → StaysIn s Wanted (next a past)) → StaysIn s Wanted (onward stage next)
  onward_stays Asked Wanted (read a past) next (l, w) go = go a past w l
  onward_stays Asked Wanted (faulty f) next p go = p

  -- ---- the stages that commands share

  pair_stays : (first : ℕ) (letters₁ : Letters) (use₁ : Use) (letters₂ : Letters) (use₂ : Use) (at : ℕ) → first + 1 ≤ last_field → at ≤ length s
      → StaysIn s (SecondIn s) (key_pair first letters₁ use₁ letters₂ use₂ s at)
  unfolding key_pair
  pair_stays first letters₁ use₁ letters₂ use₂ at h l =
      field_stays (SecondIn s) first at (key letters₁ use₁) _ (omega arith) l (key_takes letters₁ use₁)
      (λ _ at₂ l₂. field_stays (SecondIn s) (first + 1) at₂ (key letters₂ use₂) _ h l₂ (key_takes letters₂ use₂)
      (λ _ past l₃. (l₃, (l₂, h))))

  keys_stay : (use₁ use₂ : Use) (at : ℕ) → at ≤ length s → StaysIn s (SecondIn s) (keys 1 use₁ use₂ s at)
  unfolding keys
  keys_stay use₁ use₂ at l =
      field_stays (SecondIn s) 1 at key_type _ (omega arith) l type_takes
      (λ letters at₂ l₂. pair_stays 2 letters use₁ letters use₂ at₂ (omega arith) l₂)

  sealed_stays : (restricted : Bool) (at : ℕ) → at ≤ length s → StaysIn s Any (sealed 4 restricted s at)
  unfolding sealed
  sealed_stays restricted at l =
      field_stays Any 4 at (run CapitalHex Field15 Field15 16) _ (omega arith) l (run_takes CapitalHex Field15 Field15 16)
      (λ _ at₂ l₂. field_stays Any 5 at₂ (format_field restricted) _ (omega arith) l₂ (format_takes restricted)
      (λ _ past l₃. (l₃, tt)))

  offsetting_stays : (at : ℕ) → at ≤ length s → StaysIn s Any (offsetting 6 s at)
  unfolding offsetting
  offsetting_stays at l =
      field_stays Any 6 at (number 4 12 Field15) _ (omega arith) l (number_takes 4 12 Field15)
      (λ _ at₂ l₂. field_stays Any 7 at₂ (run Digit Field15 Field15 12) _ (omega arith) l₂ (run_takes Digit Field15 Field15 12)
      (λ _ at₃ l₃. field_stays Any 8 at₃ (run Digit Field15 Table25 16) _ (omega arith) l₃ (run_takes Digit Field15 Table25 16)
      (λ _ at₄ l₄. field_stays Any 9 at₄ validation_field _ (omega arith) l₄ (λ cs x n e. (validation_found cs x n e).1)
      (λ _ past l₅. (l₅, tt)))))

  weak_stays : (mark at : ℕ) → at ≤ length s → StaysIn s Any (weak 10 mark s at)
  unfolding weak
  weak_stays mark at l = field_stays Any 10 at (weak_field mark at) _ (omega arith) l (λ cs w n e. weak_onward mark at cs w n e) (λ _ past l₂. (l₂, tt))

  closed_stays : (ks : Keys) (own : Option ℕ) (at mark past : ℕ) → SecondIn s ks → at ≤ length s → past ≤ length s → StaysIn s Any (closed ks own 11 at s mark past)
  closed_stays ks own at mark past h l m = by_rest (leb (length s) past)
    where
      by_last : (there : Bool) → Points s (cond there (record { refusal = Field15; field = 11; place = at }) (record { refusal = Field15; field = ks.field; place = ks.place }))
      by_last true = record { place = l; field = omega arith }
      by_last false = record { place = h.0; field = h.1 }

      by_ids : (agree : Bool) → StaysIn {A = ℕ} s Any (cond agree (read mark past) (faulty (last_id ks own 11 at)))
      by_ids true = (m, tt)
      by_ids false = by_last (present own)

      by_rest : (over : Bool) → StaysIn {A = ℕ} s Any (cond over (cond (all_agree ks own) (read mark past) (faulty (last_id ks own 11 at))) (faulty (record { refusal = Field15; field = 0; place = past })))
      by_rest true = by_ids (all_agree ks own)
      by_rest false = record { place = m; field = omega arith }

  end_stays : (ks : Keys) (at : ℕ) → SecondIn s ks → at ≤ length s → StaysIn s Any (end 11 ks s at)
  unfolding end
  end_stays ks at h l =
      field_stays Any 11 at lmk_field _ (omega arith) l lmk_onward
      (λ own mark l₂. field_stays Any 12 mark trailer _ (omega arith) l₂ trailer_takes
      (λ _ past l₃. closed_stays ks own at mark past h l l₃))

  -- ---- the commands

  pub bk_stays : (restricted : Bool) (at : ℕ) → at ≤ length s → StaysIn s Any (bk_fields restricted s at)
  unfolding bk_fields
  bk_stays restricted at l =
      onward_stays (SecondIn s) Any (keys 1 pin_key pvk s at) _ (keys_stay pin_key pvk at l)
      (λ ks at₄ h l₄. onward_stays Any Any (sealed 4 restricted s at₄) _ (sealed_stays restricted at₄ l₄)
      (λ _ at₆ _ l₆. onward_stays Any Any (offsetting 6 s at₆) _ (offsetting_stays at₆ l₆)
      (λ _ at₁₀ _ l₁₀. onward_stays Any Any (weak 10 weak_mark s at₁₀) _ (weak_stays weak_mark at₁₀ l₁₀)
      (λ _ at₁₁ _ l₁₁. onward_stays Any Any (end 11 ks s at₁₁) _ (end_stays ks at₁₁ h l₁₁)
      (λ _ past _ l₁₂. (l₁₂, tt))))))

  front_stays : (pin_key : Use) (at : ℕ) → at ≤ length s → StaysIn s (SecondIn s) (front pin_key s at)
  unfolding front
  front_stays pin_key at l =
      onward_stays (SecondIn s) (SecondIn s) (key_pair 1 any_letter pin_key any_letter verifying_pvk s at) _ (pair_stays 1 any_letter pin_key any_letter verifying_pvk at (omega arith) l)
      (λ ks at₃ h l₃. field_stays (SecondIn s) 3 at₃ (number maximum maximum Field15) _ (omega arith) l₃ (number_takes maximum maximum Field15)
      (λ _ past l₄. (l₄, h)))

  pub verify_stays : (pin_key : Use) (at : ℕ) → at ≤ length s → StaysIn s Any (verify_fields pin_key s at)
  unfolding verify_fields
  verify_stays pin_key at l =
      onward_stays (SecondIn s) Any (front pin_key s at) _ (front_stays pin_key at l)
      (λ ks at₄ h l₄. onward_stays Any Any (sealed 4 restricted s at₄) _ (sealed_stays restricted at₄ l₄)
      (λ _ at₆ _ l₆. onward_stays Any Any (offsetting 6 s at₆) _ (offsetting_stays at₆ l₆)
      (λ _ at₁₀ _ l₁₀. field_stays Any 10 at₁₀ offset_field _ (omega arith) l₁₀ offset_takes
      (λ _ at₁₁ l₁₁. onward_stays Any Any (end 11 ks s at₁₁) _ (end_stays ks at₁₁ h l₁₁)
      (λ _ past _ l₁₂. (l₁₂, tt))))))
