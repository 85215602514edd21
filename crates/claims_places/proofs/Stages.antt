-- The stages that commands share halt at one of their fields: before it stand the fields before it.
-- Assumes nothing.
use Prim.Native.Nat.{ℕ, ◌+◌, ◌≤◌, ◌<◌}
use Prim.Native.Char.{code}
use native.Mathlib.Nat.{add-zero}
use native.Mathlib.Omega.{arith}
use mathlib.Core.Path.{◌≡◌, refl, sym, ap, ◌∙◌, subst}
use mathlib.Core.Logic.{◌⊎◌, inl, inr}
use mathlib.Core.List.{List, [], ◌∷◌, ◌++◌, append-nil}
use mathlib.Core.Bool.{Bool, true, false, cond}
use lib.ListN.{length, take, drop, replicate, length-drop, drop_of_length-le}
use lib.Dec.{leb}
use borrow.Author.Tests.{leb-true, leb-false}
use Rattle.alphabet.specs.Alphabet.{all_of}
use Rattle.alphabet.specs.declared.Class.TheVariants.{Digit, CapitalHex}
use Rattle.numbers.specs.declared.Refusal.TheVariants.{Field15, Table25}
use Rattle.formats.specs.declared.Format.TheVariants.{F01}
use Rattle.fields.specs.Fields.{Stage, read, faulty, run, number, trailer}
use Rattle.fields.specs.declared.Fault.{Fault}
use Rattle.lmk.specs.Lmk.{lmk_field, present}
use Rattle.uses.specs.declared.Use.{Use}
use Rattle.keys.specs.Keys.{key}
use Rattle.keys.specs.declared.Letters.{Letters}
use Rattle.formatfield.specs.FormatField.{format_field}
use Rattle.validationfield.specs.ValidationField.{validation_field}
use Rattle.keyfields.specs.KeyFields.{key_pair}
use Rattle.keyfields.specs.declared.Keys.{Keys}
use Rattle.sealed.specs.Sealed.{sealed}
use Rattle.offsetting.specs.Offsetting.{offsetting}
use Rattle.endings.specs.Endings.{all_agree, last_id, closed, end}
use Rattle.texts.specs.Texts.{Optional, absent, WherePresent, IsTrailer, trailer_text, mark_of_trailer, together}
use Rattle.texts.specs.Texts as text
use Rattle.texts.specs.Writings.{runs, numbers, trailers}
use Rattle.texts.proofs.Readers.{run_exact, number_exact, trailer_exact}
use Rattle.texts_keys.specs.KeyTexts.{IsKey, IsId, id_text, mark_of_id, own_ids, AllSame}
use Rattle.texts_keys.specs.KeyWritings.{rule_for, Admits, keyed, ids, ids_read}
use Rattle.texts_keys.proofs.KeyFields.{key_exact, id_exact, own_ids_lem, ids_agree_lem}
use Rattle.texts_data.specs.DataTexts.{Allows, with_n}
use Rattle.texts_data.specs.DataWritings.{formats, validations}
use Rattle.texts_data.proofs.Formats.{format_exact}
use Rattle.texts_data.proofs.ValidationData.{data_exact}
use Rattle.texts_stages.specs.StageTexts.{PairFields, SealedFields, AreSealed, InputFields, AreInputs, EndFields, AreEnd}
use Rattle.claims_places.specs.FieldTexts.{pair_fields, sealed_fields, input_fields, end_fields}
use Rattle.claims_places.specs.Begins.{Between, Unmarked, FullTrailer, EndTook}
use Rattle.claims_places.proofs.Between.{between_none, between_append, None, field_fault_lem, no_fault_lem, Halts}

-- nothing is asked beside the text
abbrev pub Always : {P : Type 0} → P → List ℕ → Type 0
Always x left = Unit {0}

module _ {P : Type 0} (Are : P → Type 0) (texts : P → List (List ℕ)) (Last : P → List ℕ → Type 0) (first : ℕ) (s : List ℕ) (at : ℕ) (f : Fault) where
  -- so many of its fields stand before the place, and the next one does not
  pub halts_at : (p : P) → Are p → (n from : ℕ) → n < length (texts p) → Between s at from (take n (texts p))
      → ((x : P) → Are x → take n (texts x) ≡ take n (texts p) → (end : ℕ) → from < end → Between s from end (take 1 (drop n (texts x))) → (first + n ≡ 12 → Last x (drop end s)) → ⊥)
      → (f.field ≡ first + n) × (f.place ≡ from) → Halts Are texts Last first s at f
  halts_at p good n from short b none (k, e) = record {
    parts = p;
    are = good;
    count = n;
    short = short;
    field = k;
    between = subst (λ (m : ℕ). Between s at m (take n (texts p))) (sym e) b;
    failed = λ x g same end behind there last.
        none x g same end (subst (λ (m : ℕ). m < end) e behind) (subst (λ (m : ℕ). Between s m end (take 1 (drop n (texts x)))) e there) (λ twelve. last (k ∙ twelve));
  }

  -- none of its fields does
  pub halts_first : (p : P) → Are p → 0 < length (texts p)
      → ((x : P) → Are x → (end : ℕ) → at < end → Between s at end (take 1 (texts x)) → (first ≡ 12 → Last x (drop end s)) → ⊥)
      → (f.field ≡ first) × (f.place ≡ at) → Halts Are texts Last first s at f
  halts_first p good some none (k, e) =
      halts_at p good 0 at some (between_none s at) (λ x g _ end behind there last. none x g end behind there (λ twelve. last (add-zero first ∙ twelve))) (k ∙ sym (add-zero first), e)

-- ---- two keys

-- what the fields of a pair admit
abbrev pub ArePair : Letters → Use → Letters → Use → PairFields → Type 0
ArePair letters₁ use₁ letters₂ use₂ k = (Admits letters₁ k.first × IsKey (rule_for use₁) k.first) × (Admits letters₂ k.second × IsKey (rule_for use₂) k.second)

-- with keys at hand that they admit, for what stands behind the place
pub pair_halts :
    (first : ℕ) (letters₁ : Letters) (use₁ : Use) (letters₂ : Letters) (use₂ : Use) (some : PairFields) → ArePair letters₁ use₁ letters₂ use₂ some
    → (s : List ℕ) (at : ℕ) (f : Fault) → key_pair first letters₁ use₁ letters₂ use₂ s at ≡ faulty f → Halts (ArePair letters₁ use₁ letters₂ use₂) pair_fields Always first s at f
unfolding key_pair
pair_halts first letters₁ use₁ letters₂ use₂ some good s at f e =
    let Are = ArePair letters₁ use₁ letters₂ use₂ in
    field_fault_lem first (key letters₁ use₁) (keyed letters₁ use₁) (key_exact letters₁ use₁) s at _ f e
    (λ none. halts_first Are pair_fields Always first s at f some good (omega arith) (λ x g end _ b _. none x.first end g.0 b))
    (λ k at₂ g b h. field_fault_lem (first + 1) (key letters₂ use₂) (keyed letters₂ use₂) (key_exact letters₂ use₂) s at₂ _ f h
    (λ none. halts_at Are pair_fields Always first s at f (record { first = k; second = some.second }) (g, good.1) 1 at₂ (omega arith) b (λ x h _ end _ d _. none x.second end h.1 d))
    (λ _ _ _ _ r. no_fault_lem r))

-- ---- PIN block and format

abbrev pub some_sealed : SealedFields
some_sealed = record { block = replicate 16 (code "0"); format = F01 }

format_01 : (restricted : Bool) → Allows restricted F01
format_01 true = inl refl
format_01 false = tt

pub sealed_good : (restricted : Bool) → AreSealed restricted some_sealed
unfolding all_of
sealed_good restricted = record { block = (refl, refl); format = format_01 restricted }

pub sealed_halts : (restricted : Bool) (s : List ℕ) (at : ℕ) (f : Fault) → sealed 4 restricted s at ≡ faulty f → Halts (AreSealed restricted) sealed_fields Always 4 s at f
unfolding sealed
sealed_halts restricted s at f e =
    field_fault_lem 4 (run CapitalHex Field15 Field15 16) (runs CapitalHex 16) (run_exact CapitalHex Field15 Field15 16) s at _ f e
    (λ none. halts_first (AreSealed restricted) sealed_fields Always 4 s at f some_sealed (sealed_good restricted) (omega arith) (λ x g end _ b _. none x.block end g.block b))
    (λ block at₂ g b h. field_fault_lem 5 (format_field restricted) (formats restricted) (format_exact restricted) s at₂ _ f h
    (λ none. halts_at (AreSealed restricted) sealed_fields Always 4 s at f (record { block = block; format = F01 }) (record { block = g; format = format_01 restricted }) 1 at₂ (omega arith) b
    (λ x h _ end _ d _. none x.format end h.format d))
    (λ _ _ _ _ r. no_fault_lem r))

-- ---- check length, account, table, validation data

abbrev pub some_inputs : InputFields
some_inputs = record { check = 4; account = replicate 12 (code "0"); table = replicate 16 (code "0"); validation = with_n (replicate 11 (code "0")) [] }

pub inputs_good : AreInputs some_inputs
unfolding all_of
inputs_good = record { check = (omega arith, omega arith); account = (refl, refl); table = (refl, refl); validation = (refl, refl) }

pub inputs_halts : (s : List ℕ) (at : ℕ) (f : Fault) → offsetting 6 s at ≡ faulty f → Halts AreInputs input_fields Always 6 s at f
unfolding offsetting
inputs_halts s at f e =
    let good = inputs_good in
    field_fault_lem 6 (number 4 12 Field15) (numbers 4 12) (number_exact 4 12 Field15 (omega arith)) s at _ f e
    (λ none. halts_first AreInputs input_fields Always 6 s at f some_inputs good (omega arith) (λ x h end _ d _. none x.check end h.check d))
    (λ check at₂ g b h. field_fault_lem 7 (run Digit Field15 Field15 12) (runs Digit 12) (run_exact Digit Field15 Field15 12) s at₂ _ f h
    (λ none. halts_at AreInputs input_fields Always 6 s at f (record { check = check; account = some_inputs.account; table = some_inputs.table; validation = some_inputs.validation })
    (record { check = g; account = good.account; table = good.table; validation = good.validation }) 1 at₂ (omega arith) b (λ x k _ end _ d _. none x.account end k.account d))
    (λ account at₃ g₂ b₂ h₂. field_fault_lem 8 (run Digit Field15 Table25 16) (runs Digit 16) (run_exact Digit Field15 Table25 16) s at₃ _ f h₂
    (λ none. halts_at AreInputs input_fields Always 6 s at f (record { check = check; account = account; table = some_inputs.table; validation = some_inputs.validation })
    (record { check = g; account = g₂; table = good.table; validation = good.validation }) 2 at₃ (omega arith) (between_append s at at₂ at₃ _ _ b b₂) (λ x k _ end _ d _. none x.table end k.table d))
    (λ table at₄ g₃ b₃ h₃. field_fault_lem 9 validation_field validations data_exact s at₄ _ f h₃
    (λ none. halts_at AreInputs input_fields Always 6 s at f (record { check = check; account = account; table = table; validation = some_inputs.validation })
    (record { check = g; account = g₂; table = g₃; validation = good.validation }) 3 at₄ (omega arith) (between_append s at at₃ at₄ _ _ (between_append s at at₂ at₃ _ _ b b₂) b₃)
    (λ x k _ end _ d _. none x.validation end k.validation d))
    (λ _ _ _ _ r. no_fault_lem r))))

-- ---- the end

-- nothing of it
abbrev pub no_end : EndFields
no_end = record { id = absent; trailer = absent }

-- a trailer ends with the command, or has its 32 characters
abbrev pub EndLast : EndFields → List ℕ → Type 0
EndLast e left = (left ≡ []) ⊎ FullTrailer e.trailer

-- what the ids are that were read
abbrev pub read_ids : Keys → EndFields → List ℕ
read_ids ks e = ids_read ks.first ++ (ids_read ks.second ++ own_ids e.id)

-- it halts at one of its fields; or its fields stand before the place, where a byte is left over; or they end the command, and the ids
-- that were read disagree: then the fault is its id's or the second key's
pub data EndFault (ks : Keys) (s : List ℕ) (at : ℕ) (f : Fault) : Type 0 where
  halted : (h : Halts AreEnd end_fields EndLast 11 s at f) → (12 ≤ f.field → Unmarked mark_of_id h.parts.id (drop f.place s)) → EndFault ks s at f
  over : (e : EndFields) → AreEnd e → Between s at f.place (end_fields e) → EndTook e (drop f.place s) → f.place < length s → f.field ≡ 0 → EndFault ks s at f
  apart : (e : EndFields) → AreEnd e → drop at s ≡ together (end_fields e) → (AllSame (read_ids ks e) → ⊥)
      → ((f.field ≡ 11) × (f.place ≡ at)) ⊎ ((f.field ≡ ks.field) × (f.place ≡ ks.place)) → EndFault ks s at f

id_is : (v : Optional ℕ) (rest : List ℕ) → ids.fine v rest → WherePresent IsId v
id_is absent rest g = tt
id_is (text.present n) rest g = g

trailer_is : (t : Optional (List ℕ)) (rest : List ℕ) → trailers.fine t rest → WherePresent IsTrailer t
trailer_is absent rest g = tt
trailer_is (text.present cs) rest g = g.0

id_unmarked : (v : Optional ℕ) (rest : List ℕ) → ids.fine v rest → Unmarked mark_of_id v rest
id_unmarked absent rest g = g
id_unmarked (text.present n) rest g = tt

trailer_unmarked : (t : Optional (List ℕ)) (rest : List ℕ) → trailers.fine t rest → Unmarked mark_of_trailer t rest
trailer_unmarked absent rest g = g
trailer_unmarked (text.present cs) rest g = tt

-- a trailer that has something behind it is full
trailer_full : (t : Optional (List ℕ)) (rest : List ℕ) → trailers.fine t rest → 1 ≤ length rest → FullTrailer t
trailer_full absent rest g h = tt
trailer_full (text.present cs) rest (g, inl none) h = absurd (let z = ap length none in omega arith)
trailer_full (text.present cs) rest (g, inr full) h = full

-- what the fault is, where both sides are faults
same_fault : {A : Type 0} {g f : Fault} → ◌≡◌ {A = Stage A} (faulty g) (faulty f) → (f.field ≡ g.field) × (f.place ≡ g.place)
same_fault {g = g} {f = f} e = let same : g ≡ f = cc in (sym (ap (λ (x : Fault). x.field) same), sym (ap (λ (x : Fault). x.place) same))

pub no_end_good : AreEnd no_end
no_end_good = record { id = tt; trailer = tt }

-- "For disagreeing LMK ids, point at the last id that is present": the end's own, or else the second key's
ids_fault : (ks : Keys) (at : ℕ) (f : Fault) (v : Optional ℕ) → ◌≡◌ {A = Stage ℕ} (faulty (last_id ks (ids.value v) 11 at)) (faulty f)
    → ((f.field ≡ 11) × (f.place ≡ at)) ⊎ ((f.field ≡ ks.field) × (f.place ≡ ks.place))
ids_fault ks at f absent e = inr (same_fault e)
ids_fault ks at f (text.present n) e = inl (same_fault e)

-- ids that all agree are found to
agreed : (ks : Keys) (e : EndFields) → AllSame (read_ids ks e) → all_agree ks (ids.value e.id) ≡ true
agreed ks e same = (ids_agree_lem ks.first ks.second (ids.value e.id)).1 (subst (λ (l : List ℕ). AllSame (ids_read ks.first ++ (ids_read ks.second ++ l))) (sym (own_ids_lem e.id)) same)

-- behind both fields: something is left over, or ids disagree
closed_fault : (ks : Keys) (s : List ℕ) (at mark past : ℕ) (f : Fault) (e : EndFields) → ids.fine e.id (drop mark s) → trailers.fine e.trailer (drop past s)
    → Between s at mark (id_text e.id ∷ []) → Between s mark past (trailer_text e.trailer ∷ [])
    → closed ks (ids.value e.id) 11 at s mark past ≡ faulty f → EndFault ks s at f
closed_fault ks s at mark past f e g h b b₂ d = by_rest (leb (length s) past) refl d
  where
    good : AreEnd e
    good = record { id = id_is e.id _ g; trailer = trailer_is e.trailer _ h }

    both : Between s at past (end_fields e)
    both = between_append s at mark past _ _ b b₂

    left : past < length s → (f.field ≡ 0) × (f.place ≡ past) → EndFault ks s at f
    left more (k, p) =
        let some : 1 ≤ length (drop past s) = omega (arith, length-drop past s) in
        let behind : drop mark s ≡ trailer_text e.trailer ++ drop past s = b₂.bytes ∙ ap (λ (l : List ℕ). l ++ drop past s) (append-nil (trailer_text e.trailer)) in
        let took : EndTook e (drop past s) = record {
          id = subst (Unmarked mark_of_id e.id) behind (id_unmarked e.id (drop mark s) g);
          trailer = trailer_unmarked e.trailer (drop past s) h;
          full = trailer_full e.trailer (drop past s) h some;
        } in
        over e good (subst (λ (n : ℕ). Between s at n (end_fields e)) (sym p) both) (subst (λ (n : ℕ). EndTook e (drop n s)) (sym p) took) (rw p more) k

    by_ids : (agree : Bool) → all_agree ks (ids.value e.id) ≡ agree → length s ≤ past → cond agree (read mark past) (faulty (last_id ks (ids.value e.id) 11 at)) ≡ faulty f → EndFault ks s at f
    by_ids true k l d = no_fault_lem d
    by_ids false k l d =
        apart e good (both.bytes ∙ ap (λ (x : List ℕ). together (end_fields e) ++ x) (drop_of_length-le s l) ∙ append-nil (together (end_fields e)))
        (λ same. let z = sym (agreed ks e same) ∙ k in let y : ◌≡◌ {A = ℕ} 0 1 = cc in omega arith) (ids_fault ks at f e.id d)

    by_rest : (ended : Bool) → leb (length s) past ≡ ended
        → cond ended (cond (all_agree ks (ids.value e.id)) (read mark past) (faulty (last_id ks (ids.value e.id) 11 at))) (faulty (record { refusal = Field15; field = 0; place = past })) ≡ faulty f → EndFault ks s at f
    by_rest true k d = by_ids (all_agree ks (ids.value e.id)) refl (leb-true (length s) past k) d
    by_rest false k d = left (leb-false (length s) past k) (same_fault d)

-- a field that is absent has no text
id_none : (at end : ℕ) (s : List ℕ) (v : Optional ℕ) → None ids s at → WherePresent IsId v → at < end → Between s at end (id_text v ∷ []) → ⊥
id_none at end s absent none g behind b = let r = b.reached in omega arith
id_none at end s (text.present n) none g behind b = none (text.present n) end g b

trailer_none : (at end : ℕ) (s : List ℕ) (t : Optional (List ℕ)) → None trailers s at → WherePresent IsTrailer t → at < end → (drop end s ≡ []) ⊎ FullTrailer t → Between s at end (trailer_text t ∷ []) → ⊥
trailer_none at end s absent none g behind last b = let r = b.reached in omega arith
trailer_none at end s (text.present cs) none g behind last b = none (text.present cs) end (g, last) b

pub end_faults : (ks : Keys) (s : List ℕ) (at : ℕ) (f : Fault) → end 11 ks s at ≡ faulty f → EndFault ks s at f
unfolding end halts_at
end_faults ks s at f e =
    field_fault_lem 11 lmk_field ids id_exact s at _ f e
    (λ none own. halted (halts_first AreEnd end_fields EndLast 11 s at f no_end no_end_good (omega arith) (λ x g end behind b _. id_none at end s x.id none g.id behind b) own)
    (λ twelve. absurd (let k = own.0 in omega arith)))
    (λ v mark g b h. field_fault_lem 12 trailer trailers trailer_exact s mark _ f h
    (λ none own. halted (halts_at AreEnd end_fields EndLast 11 s at f (record { id = v; trailer = absent }) (record { id = id_is v _ g; trailer = tt }) 1 mark (omega arith) b
    (λ x k _ end behind d last. trailer_none mark end s x.trailer none k.trailer behind (last refl) d) own)
    (λ _. subst (λ (n : ℕ). Unmarked mark_of_id v (drop n s)) (sym own.1) (id_unmarked v (drop mark s) g)))
    (λ t past g₂ b₂ h₂. closed_fault ks s at mark past f (record { id = v; trailer = t }) g g₂ b b₂ h₂))
