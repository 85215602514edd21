-- The fault of a DA or an EA points at the field that begins there, or at the first byte that no field took.
-- Assumes nothing.
use Prim.Native.Nat.{ℕ, ◌+◌, ◌≤◌}
use Prim.Native.Char.{code}
use native.Mathlib.Omega.{arith}
use mathlib.Core.Path.{◌≡◌, refl, sym, ap, ap₂, ◌∙◌, subst}
use mathlib.Core.List.{List, [], ◌∷◌, ◌++◌, append-nil}
use lib.ListN.{length, replicate}
use Rattle.alphabet.specs.Alphabet.{all_of}
use Rattle.numbers.specs.declared.Refusal.TheVariants.{Field15}
use Rattle.fields.specs.Fields.{faulty, number, pointer_of}
use Rattle.fields.specs.declared.Fault.{Fault}
use Rattle.uses.specs.Uses.{pin_key, pvk, verifying_pvk}
use Rattle.uses.specs.declared.Use.{Use}
use Rattle.keys.specs.Keys.{any_letter}
use Rattle.keyfields.specs.KeyFields.{key_pair, keys}
use Rattle.keyfields.specs.declared.Keys.{Keys}
use Rattle.sealed.specs.Sealed.{sealed}
use Rattle.offsetting.specs.Offsetting.{offsetting}
use Rattle.offsetfield.specs.OffsetField.{offset_field}
use Rattle.endings.specs.Endings.{end}
use Rattle.verifyfields.specs.VerifyFields.{maximum, restricted, front, verify_fields}
use Rattle.texts.specs.Exact.{Writing, ExactAt}
use Rattle.texts.specs.Joining.{joined, mapped}
use Rattle.texts.specs.Texts.{together}
use Rattle.texts.proofs.Closing.{onward_exact, field_last_lem}
use Rattle.texts_keys.specs.KeyTexts.{KeyRule, Key, double, block, key_text, IsKey}
use Rattle.texts_keys.proofs.KeyFields.{letter_admitted, key_ids_lem}
use Rattle.texts_data.specs.DataTexts.{maximum_text, presented_text, IsPresented}
use Rattle.texts_data.specs.DataWritings.{maxima, offsets}
use Rattle.texts_data.proofs.Maximum.{maximum_exact}
use Rattle.texts_data.proofs.Offsets.{offset_exact}
use Rattle.texts_stages.specs.StageTexts.{PairFields, pair_text, SealedFields, AreSealed, InputFields, AreInputs, EndFields, AreEnd}
use Rattle.texts_stages.specs.StageWritings.{pair_at, sealed_at, inputs_at}
use Rattle.texts_stages.proofs.Stages.{pair_exact, sealed_exact, inputs_exact}
use Rattle.claims_commands.specs.Runs.{Verifying, key_for}
use Rattle.claims_exactly.specs.VerifyText.{pin_key_rule_of, VerifyParts}
use Rattle.claims_exactly.proofs.VerifyFields.{key_ruled}
use Rattle.claims_places.specs.FieldTexts.{pair_fields, sealed_fields, input_fields, end_fields, verify_field_texts}
use Rattle.claims_places.specs.Begins.{Between, AreVerify, Form, verify_form, PointsAt, VerifyPointsAt}
use Rattle.claims_places.proofs.FieldTexts.{pair_fields_lem, sealed_fields_lem, input_fields_lem}
use Rattle.claims_places.proofs.Between.{between_none, between_append, between_first, together_append, field_fault_lem, onward_fault, last_fault, no_fault_lem}
use Rattle.claims_places.proofs.Points.{PartOf, halts_points, end_points}
use Rattle.claims_places.proofs.Stages.{Always, halts_first, ArePair, pair_halts, some_sealed, sealed_good, sealed_halts, some_inputs, inputs_good, inputs_halts, no_end, no_end_good, EndLast, end_faults}

-- ---- keys at hand, for what stands behind a place

abbrev zero_key : Key
zero_key = double (replicate 32 (code "0"))

abbrev zero_keys : PairFields
zero_keys = record { first = zero_key; second = zero_key }

zero_keys_good : (use₁ : Use) → ArePair any_letter use₁ any_letter verifying_pvk zero_keys
unfolding all_of
zero_keys_good use₁ = ((refl, (refl, refl)), (refl, (refl, refl)))

-- ---- what stands before the block, as a text

abbrev pub front_at : Use → ℕ → Writing Keys
front_at use₁ at = joined at (pair_at 1 any_letter use₁ any_letter verifying_pvk at) (λ ks _. mapped (λ _. ks) maxima)

pub front_exact : (use₁ : Use) (s : List ℕ) (at : ℕ) → ExactAt s at (front use₁ s at) (front_at use₁ at)
unfolding front
front_exact use₁ s at =
    onward_exact s at (pair_at 1 any_letter use₁ any_letter verifying_pvk at) _ (λ ks _. mapped (λ _. ks) maxima) (key_pair 1 any_letter use₁ any_letter verifying_pvk s at) (pair_exact 1 any_letter use₁ any_letter verifying_pvk s at)
    (λ ks at₃. field_last_lem s at₃ 3 (number maximum maximum Field15) maxima (λ _. ks) maximum_exact)

-- ---- the maximum and the offset, each a field alone

abbrev maximum_fields : Unit {0} → List (List ℕ)
maximum_fields _ = maximum_text ∷ []

abbrev offset_fields : List ℕ → List (List ℕ)
offset_fields digits = presented_text digits ∷ []

abbrev some_offset : List ℕ
some_offset = replicate 4 (code "0")

some_offset_good : IsPresented some_offset
unfolding all_of
some_offset_good = ((omega arith, omega arith), refl)

-- ---- DA and EA

abbrev pub front_fields : PairFields → List (List ℕ)
front_fields k = pair_fields k ++ (maximum_text ∷ [])

pub front_fields_lem : (k : PairFields) → pair_text k ++ maximum_text ≡ together (front_fields k)
front_fields_lem k = ap₂ ◌++◌ (pair_fields_lem k) (sym (append-nil maximum_text)) ∙ sym (together_append (pair_fields k) (maximum_text ∷ []))

abbrev verify_with : PairFields → SealedFields → InputFields → List ℕ → EndFields → VerifyParts
verify_with k b i o e = record { keys = k; sealed = b; inputs = i; offset = o; end = e }

twelve : (p : VerifyParts) → length (verify_field_texts p) ≡ 12
twelve p = refl

early : (rule : KeyRule) (p : VerifyParts) (n : ℕ) (left : List ℕ) → n ≤ 9 → (verify_form rule).Skipped p n left
early rule p n left few = λ h. absurd (omega arith)

-- where the second key begins
pub second_at : (start : ℕ) (k : Key) → start + length (key_text k) ≡ start + length (together (key_text k ∷ []))
second_at start k = ap (λ (l : List ℕ). start + length l) (sym (append-nil (key_text k)))

module _ (w : Verifying) where
  abbrev form : Form VerifyParts
  form = verify_form (pin_key_rule_of w)

  abbrev AreHere : VerifyParts → Type 0
  AreHere = AreVerify (pin_key_rule_of w)

  abbrev ArePairHere : PairFields → Type 0
  ArePairHere = ArePair any_letter (key_for w) any_letter verifying_pvk

  verify_good : (k : PairFields) (b : SealedFields) (i : InputFields) (o : List ℕ) (e : EndFields) → ArePairHere k → AreSealed restricted b → AreInputs i → IsPresented o → AreEnd e → AreHere (verify_with k b i o e)
  verify_good k b i o e ((a₁, g₁), (a₂, g₂)) bg ig og eg = record {
    pin_key = record { letter = (letter_admitted k.first).1 a₁; is = subst (λ (r : KeyRule). IsKey r k.first) (key_ruled w) g₁ };
    pvk = record { letter = (letter_admitted k.second).1 a₂; is = g₂ };
    sealed = bg;
    inputs = ig;
    offset = og;
    end = eg;
  }

  pub admitted_keys : (p : VerifyParts) → AreHere p → ArePairHere p.keys
  admitted_keys p g = (
    ((letter_admitted p.keys.first).0 g.pin_key.letter, subst (λ (r : KeyRule). IsKey r p.keys.first) (sym (key_ruled w)) g.pin_key.is),
    ((letter_admitted p.keys.second).0 g.pvk.letter, g.pvk.is),
  )

  pair_in_lem : (s : List ℕ) (start : ℕ) (q : VerifyParts) → AreHere q → PartOf form ArePairHere pair_fields Always s start 0 q
  pair_in_lem s start q g = record { part = q.keys; good = admitted_keys q g; front = []; behind = _; same = refl; long = refl; last = λ _ _. tt }

  maximum_in : (s : List ℕ) (start : ℕ) (q : VerifyParts) → AreHere q → PartOf form (λ (_ : Unit {0}). Unit {0}) maximum_fields Always s start 2 q
  maximum_in s start q g = record { part = tt; good = tt; front = pair_fields q.keys; behind = _; same = refl; long = refl; last = λ _ _. tt }

  sealed_in : (s : List ℕ) (start : ℕ) (q : VerifyParts) → AreHere q → PartOf form (AreSealed restricted) sealed_fields Always s start 3 q
  sealed_in s start q g = record { part = q.sealed; good = g.sealed; front = front_fields q.keys; behind = _; same = refl; long = refl; last = λ _ _. tt }

  inputs_in : (s : List ℕ) (start : ℕ) (q : VerifyParts) → AreHere q → PartOf form AreInputs input_fields Always s start 5 q
  inputs_in s start q g = record { part = q.inputs; good = g.inputs; front = front_fields q.keys ++ sealed_fields q.sealed; behind = _; same = refl; long = refl; last = λ _ _. tt }

  offset_in_lem : (s : List ℕ) (start : ℕ) (q : VerifyParts) → AreHere q → PartOf form IsPresented offset_fields Always s start 9 q
  offset_in_lem s start q g = record { part = q.offset; good = g.offset; front = (front_fields q.keys ++ sealed_fields q.sealed) ++ input_fields q.inputs; behind = _; same = refl; long = refl; last = λ _ _. tt }

  end_in : (s : List ℕ) (start : ℕ) (q : VerifyParts) → AreHere q → PartOf form AreEnd end_fields EndLast s start 10 q
  end_in s start q g =
      record { part = q.end; good = g.end; front = ((front_fields q.keys ++ sealed_fields q.sealed) ++ input_fields q.inputs) ++ offset_fields q.offset; behind = []; same = refl; long = refl; last = λ _ l. l }

  -- two keys, and the maximum
  front_fault : (s : List ℕ) (start : ℕ) (f : Fault) → front (key_for w) s start ≡ faulty f → PointsAt form s start (pointer_of f)
  unfolding front
  front_fault s start f e =
      let tail = input_fields some_inputs ++ (offset_fields some_offset ++ end_fields no_end) in
      onward_fault s start (key_pair 1 any_letter (key_for w) any_letter verifying_pvk s start) (pair_at 1 any_letter (key_for w) any_letter verifying_pvk start)
      (pair_exact 1 any_letter (key_for w) any_letter verifying_pvk s start) pair_fields pair_fields_lem _ f e
      (λ own. let h = pair_halts 1 any_letter (key_for w) any_letter verifying_pvk zero_keys (zero_keys_good (key_for w)) s start f own in
      halts_points form twelve s start f ArePairHere pair_fields Always (λ _ _. refl) 1 start [] (maximum_text ∷ (sealed_fields some_sealed ++ tail)) (between_none s start) h refl
      (verify_with h.parts some_sealed some_inputs some_offset no_end) (verify_good _ _ _ _ _ h.are (sealed_good restricted) inputs_good some_offset_good no_end_good) refl
      (let a = h.field in let b = h.short in λ eleven. absurd (omega arith)) (pair_in_lem s start))
      (λ k at₃ kg two e₃. field_fault_lem 3 (number maximum maximum Field15) maxima maximum_exact s at₃ _ f e₃
      (λ none own. let h = halts_first (λ (_ : Unit {0}). Unit {0}) maximum_fields Always 3 s at₃ f tt tt (omega arith) (λ _ _ end _ b _. none tt end tt b) own in
      halts_points form twelve s start f (λ (_ : Unit {0}). Unit {0}) maximum_fields Always (λ _ _. refl) 3 at₃ (pair_fields k) (sealed_fields some_sealed ++ tail) two h refl
      (verify_with k some_sealed some_inputs some_offset no_end) (verify_good _ _ _ _ _ kg (sealed_good restricted) inputs_good some_offset_good no_end_good) refl
      (let a = h.field in let b = h.short in λ eleven. absurd (omega arith)) (maximum_in s start))
      (λ _ _ _ _ r. no_fault_lem r))

pub verify_points_at : VerifyPointsAt
unfolding verify_fields
verify_points_at w s start f e =
    let here-form = verify_form (pin_key_rule_of w) in
    onward_fault s start (front (key_for w) s start) (front_at (key_for w) start) (front_exact (key_for w) s start) (λ p. front_fields p.0) (λ p. front_fields_lem p.0) _ f e (front_fault w s start f)
    (λ (k, _) at₄ (kg, _) three e₄. onward_fault s at₄ (sealed 4 restricted s at₄) (sealed_at restricted at₄) (sealed_exact 4 restricted s at₄) sealed_fields sealed_fields_lem _ f e₄
    (λ own. let h = sealed_halts restricted s at₄ f own in
    halts_points here-form twelve s start f (AreSealed restricted) sealed_fields Always (λ _ _. refl) 4 at₄ (front_fields k) (input_fields some_inputs ++ (offset_fields some_offset ++ end_fields no_end)) three h refl
    (verify_with k h.parts some_inputs some_offset no_end) (verify_good w _ _ _ _ _ kg h.are inputs_good some_offset_good no_end_good) refl
    (let a = h.field in let b = h.short in λ eleven. absurd (omega arith)) (sealed_in w s start))
    (λ b at₆ bg here e₆.
    let five = between_append s start at₄ at₆ (front_fields k) (sealed_fields b) three here in
    onward_fault s at₆ (offsetting 6 s at₆) (inputs_at at₆) (inputs_exact 6 s at₆) input_fields input_fields_lem _ f e₆
    (λ own. let h = inputs_halts s at₆ f own in
    halts_points here-form twelve s start f AreInputs input_fields Always (λ _ _. refl) 6 at₆ (front_fields k ++ sealed_fields b) (offset_fields some_offset ++ end_fields no_end) five h refl
    (verify_with k b h.parts some_offset no_end) (verify_good w _ _ _ _ _ kg bg h.are some_offset_good no_end_good) refl
    (let a = h.field in let b = h.short in λ eleven. absurd (omega arith)) (inputs_in w s start))
    (λ i at₁₀ ig here e₁₀.
    let nine = between_append s start at₆ at₁₀ (front_fields k ++ sealed_fields b) (input_fields i) five here in
    field_fault_lem 10 offset_field offsets offset_exact s at₁₀ _ f e₁₀
    (λ none own. let h = halts_first IsPresented offset_fields Always 10 s at₁₀ f some_offset some_offset_good (omega arith) (λ x g end _ d _. none x end g d) own in
    halts_points here-form twelve s start f IsPresented offset_fields Always (λ _ _. refl) 10 at₁₀ ((front_fields k ++ sealed_fields b) ++ input_fields i) (end_fields no_end) nine h refl
    (verify_with k b i h.parts no_end) (verify_good w _ _ _ _ _ kg bg ig h.are no_end_good) refl
    (let a = h.field in let b = h.short in λ eleven. absurd (omega arith)) (offset_in_lem w s start))
    (λ o at₁₁ og here e₁₁.
    let ten = between_append s start at₁₀ at₁₁ ((front_fields k ++ sealed_fields b) ++ input_fields i) (offset_fields o) nine here in
    let key = between_first s start at₄ (key_text k.first ∷ []) (key_text k.second ∷ maximum_text ∷ []) three in
    let ks = (front_at (key_for w) start).value (k, tt) in
    last_fault (end 11 ks s at₁₁) _ f e₁₁
    (λ own. end_points here-form twelve s start f ks at₁₁ 1 (((front_fields k ++ sealed_fields b) ++ input_fields i) ++ offset_fields o)
    (record {
      before = ten;
      ten = refl;
      build = verify_with k b i o;
      good = λ x g. verify_good w k b i o x kg bg ig og g;
      same = λ _. refl;
      took = λ _ _ took. took;
      ids = λ x same. rw (key_ids_lem k.first, key_ids_lem k.second) same;
      part = end_in w s start;
      early = early (pin_key_rule_of w);
      own = λ _ h. absurd (omega arith);
      late = λ h unmarked eleven. unmarked (omega arith);
    })
    refl (omega arith) (subst (λ (n : ℕ). Between s start n (key_text k.first ∷ [])) (sym (second_at start k.first)) key) (end_faults ks s at₁₁ f own))))))
