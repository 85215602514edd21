-- A command's fault points at the field that begins there, or at the first byte that no field took.
-- Assumes nothing.
use Prim.Native.Nat.{ℕ, zero, suc, ◌+◌, ◌-◌, ◌≤◌, ◌<◌}
use Prim.Native.Char.{code}
use native.Mathlib.Nat.{add_assoc}
use native.Mathlib.Omega.{arith}
use mathlib.Core.Path.{◌≡◌, refl, sym, ap, ◌∙◌, subst}
use mathlib.Core.Logic.{inl, inr}
use mathlib.Core.List.{List, [], ◌∷◌, ◌++◌, append-nil}
use mathlib.Core.Bool.{Bool}
use lib.ListN.{length, take, drop, replicate, length-append}
use Rattle.alphabet.specs.Alphabet.{all_of}
use Rattle.fields.specs.Fields.{faulty}
use Rattle.fields.specs.declared.Fault.{Fault}
use Rattle.uses.specs.Uses.{pin_key, pvk}
use Rattle.keys.specs.Keys.{key_type}
use Rattle.keyfields.specs.KeyFields.{keys}
use Rattle.sealed.specs.Sealed.{sealed}
use Rattle.offsetting.specs.Offsetting.{offsetting}
use Rattle.weakfield.specs.WeakField.{weak_field}
use Rattle.weaklist.specs.WeakList.{weak}
use Rattle.endings.specs.Endings.{end}
use Rattle.bkfields.specs.BkFields.{weak_mark, bk_fields}
use Rattle.verifyfields.specs.VerifyFields.{restricted}
use Rattle.texts.specs.Characters.{printed}
use Rattle.texts.specs.Texts.{Optional, absent, present, WherePresent, optional_text, together}
use Rattle.texts_keys.specs.KeyTexts.{KeyType, is001, is002, isFFF, type_text, KeyBlock, Key, double, block, key_text, mark_of_id}
use Rattle.texts_keys.specs.KeyWritings.{types, letters_of, rule_for}
use Rattle.texts_keys.proofs.KeyFields.{type_exact, wanted_admitted, key_ids_lem}
use Rattle.texts_data.specs.DataTexts.{WeakList, weak_text, IsWeakList, mark_of_weak_list}
use Rattle.texts_data.specs.DataWritings.{WeakFine, weak_lists}
use Rattle.texts_data.proofs.WeakLists.{weak_exact}
use Rattle.texts_stages.specs.StageTexts.{PairFields, KeyFields, AreKeys, SealedFields, AreSealed, InputFields, AreInputs, EndFields, AreEnd}
use Rattle.texts_stages.specs.StageWritings.{keys_at, sealed_at, inputs_at}
use Rattle.texts_stages.proofs.Stages.{keys_exact, sealed_exact, inputs_exact, weak_stage_exact}
use Rattle.claims_exactly.specs.BkText.{BkParts}
use Rattle.claims_places.specs.FieldTexts.{key_fields, sealed_fields, input_fields, end_fields, bk_field_texts}
use Rattle.claims_places.specs.Begins.{Between, AreBk, Unmarked, Form, bk_form, BkPointsAt}
use Rattle.claims_places.proofs.FieldTexts.{key_fields_lem, sealed_fields_lem, input_fields_lem, end_fields_lem}
use Rattle.claims_places.proofs.Between.{between_none, between_append, between_first, None, field_fault_lem, onward_fault, last_fault, no_fault_lem, Halts}
use Rattle.claims_places.proofs.Points.{PartOf, halts_points, end_points}
use Rattle.claims_places.proofs.Stages.{Always, halts_first, ArePair, pair_halts, some_sealed, sealed_good, sealed_halts, some_inputs, inputs_good, inputs_halts, no_end, no_end_good, EndLast, end_faults}

-- ---- keys at hand, for what stands behind a place

abbrev zero_key : Key
zero_key = double (replicate 32 (code "0"))

abbrev some_block : List ℕ → KeyBlock
some_block usage = record { version = code "0"; usage = usage; algorithm = code "T"; mode = code "N"; unjudged = printed "00N00"; id = 0; tail = [] }

abbrev some_pair : KeyType → PairFields
some_pair is001 = record { first = zero_key; second = zero_key }
some_pair is002 = record { first = zero_key; second = zero_key }
some_pair isFFF = record { first = block (some_block (printed "P0")); second = block (some_block (printed "V1")) }

pair_good : (t : KeyType) → ArePair (letters_of t) pin_key (letters_of t) pvk (some_pair t)
unfolding all_of
pair_good is001 = ((refl, (refl, refl)), (refl, (refl, refl)))
pair_good is002 = ((refl, (refl, refl)), (refl, (refl, refl)))
pair_good isFFF = (
  (refl, record { version = inl refl; size = omega arith; usage = inl refl; algorithm = inl refl; mode = inr (inr (inl refl)); unjudged = (refl, refl); id = (omega arith, omega arith); tail = refl }),
  (refl, record { version = inl refl; size = omega arith; usage = inl refl; algorithm = inl refl; mode = inr (inr (inl refl)); unjudged = (refl, refl); id = (omega arith, omega arith); tail = refl }),
)

-- ---- key type and two keys

abbrev AreKeysHere : KeyFields → Type 0
AreKeysHere = AreKeys (rule_for pin_key) (rule_for pvk)

abbrev typed : KeyType → PairFields → KeyFields
typed t k = record { type = t; first = k.first; second = k.second }

typed_good : (t : KeyType) (k : PairFields) → ArePair (letters_of t) pin_key (letters_of t) pvk k → AreKeysHere (typed t k)
typed_good t k ((a, g), (b, h)) = record { wanted = ((wanted_admitted t k.first).1 a, (wanted_admitted t k.second).1 b); first = g; second = h }

-- two types with one text are one
type_once : (a b : KeyType) → type_text a ≡ type_text b → a ≡ b
type_once a b e = (type_exact.apart a b [] [] tt tt (ap (λ (l : List ℕ). l ++ []) e)).0

first_is : {A : Type 0} {x y : A} {xs ys : List A} → x ∷ xs ≡ y ∷ ys → x ≡ y
first_is e = cc

rest_is : {A : Type 0} {x y : A} {xs ys : List A} → x ∷ xs ≡ y ∷ ys → xs ≡ ys
rest_is e = cc

-- keys that a type wants are admitted by its letters
pair_of : (t : KeyType) (k : KeyFields) → k.type ≡ t → AreKeysHere k → ArePair (letters_of t) pin_key (letters_of t) pvk (record { first = k.first; second = k.second })
pair_of t k e g = rw (← e) (((wanted_admitted k.type k.first).0 g.wanted.0, g.first), ((wanted_admitted k.type k.second).0 g.wanted.1, g.second))

keys_halts : (s : List ℕ) (at : ℕ) (f : Fault) → keys 1 pin_key pvk s at ≡ faulty f → Halts AreKeysHere key_fields Always 1 s at f
unfolding keys
keys_halts s at f e =
    field_fault_lem 1 key_type types type_exact s at _ f e
    (λ none. halts_first AreKeysHere key_fields Always 1 s at f (typed is001 (some_pair is001)) (typed_good is001 (some_pair is001) (pair_good is001)) (omega arith) (λ x g end _ b _. none x.type end tt b))
    (λ t at₂ g b h.
    let q = pair_halts 2 (letters_of t) pin_key (letters_of t) pvk (some_pair t) (pair_good t) s at₂ f h in
    let short = q.short in
    let counted = q.field in
    record {
      parts = typed t q.parts;
      are = typed_good t q.parts q.are;
      count = suc q.count;
      short = omega arith;
      field = omega arith;
      between = between_append s at at₂ f.place (type_text t ∷ []) _ b q.between;
      failed = λ x good same end beyond there last.
          q.failed (record { first = x.first; second = x.second }) (pair_of t x (type_once x.type t (first_is same)) good) (rest_is same) end beyond there (λ _. tt);
    })

-- where the second key begins
pub second_at : (start : ℕ) (k : KeyFields) → start + length (type_text k.type) + length (key_text k.first) ≡ start + length (together (type_text k.type ∷ key_text k.first ∷ []))
second_at start k =
    add_assoc start (length (type_text k.type)) (length (key_text k.first))
    ∙ ap (λ (n : ℕ). start + n) (sym (length-append (type_text k.type) (key_text k.first ++ []) ∙ ap (λ (l : List ℕ). length (type_text k.type) + length l) (append-nil (key_text k.first))))

-- ---- BK

abbrev weak_fields : Optional WeakList → List (List ℕ)
weak_fields w = optional_text mark_of_weak_list weak_text w ∷ []

weak_is : (w : Optional WeakList) (rest : List ℕ) → WeakFine 0x3B w rest → WherePresent IsWeakList w
weak_is absent rest g = tt
weak_is (present w) rest g = g

weak_unmarked : (w : Optional WeakList) (rest : List ℕ) → WeakFine 0x3B w rest → Unmarked mark_of_weak_list w rest
weak_unmarked absent rest g = g
weak_unmarked (present w) rest g = tt

weak_none : (at end : ℕ) (s : List ℕ) (w : Optional WeakList) → None (weak_lists weak_mark at) s at → WherePresent IsWeakList w → at < end → Between s at end (weak_fields w) → ⊥
weak_none at end s absent none g beyond b = let r = b.reached in omega arith
weak_none at end s (present w) none g beyond b = none (present w) end g b

weak_halts : (s : List ℕ) (at : ℕ) (f : Fault) → weak 10 weak_mark s at ≡ faulty f → Halts (WherePresent IsWeakList) weak_fields Always 10 s at f
unfolding weak
weak_halts s at f e =
    field_fault_lem 10 (weak_field weak_mark at) (weak_lists weak_mark at) (weak_exact weak_mark at) s at _ f e
    (λ none. halts_first (WherePresent IsWeakList) weak_fields Always 10 s at f absent tt (omega arith) (λ x g end beyond b _. weak_none at end s x none g beyond b))
    (λ _ _ _ _ r. no_fault_lem r)

abbrev bk_with : KeyFields → SealedFields → InputFields → Optional WeakList → EndFields → BkParts
bk_with k b i w e = record { keys = k; sealed = b; inputs = i; weak = w; end = e }

twelve : (p : BkParts) → length (bk_field_texts p) ≡ 12
twelve p = refl

early : (restricted : Bool) (p : BkParts) (n : ℕ) (left : List ℕ) → n ≤ 9 → (bk_form restricted).Skipped p n left
early restricted p n left few = (λ h. absurd (omega arith), λ h. absurd (omega arith))

module _ (restricted : Bool) (s : List ℕ) (start : ℕ) (f : Fault) where
  abbrev form : Form BkParts
  form = bk_form restricted

  -- the stages of a BK's parts
  keys_in : (q : BkParts) → AreBk restricted q → PartOf form AreKeysHere key_fields Always s start 0 q
  keys_in q g = record { part = q.keys; good = g.keys; front = []; behind = _; same = refl; long = refl; last = λ _ _. tt }

  sealed_in : (q : BkParts) → AreBk restricted q → PartOf form (AreSealed restricted) sealed_fields Always s start 3 q
  sealed_in q g = record { part = q.sealed; good = g.sealed; front = key_fields q.keys; behind = _; same = refl; long = refl; last = λ _ _. tt }

  inputs_in : (q : BkParts) → AreBk restricted q → PartOf form AreInputs input_fields Always s start 5 q
  inputs_in q g = record { part = q.inputs; good = g.inputs; front = key_fields q.keys ++ sealed_fields q.sealed; behind = _; same = refl; long = refl; last = λ _ _. tt }

  weak_in_lem : (q : BkParts) → AreBk restricted q → PartOf form (WherePresent IsWeakList) weak_fields Always s start 9 q
  weak_in_lem q g = record { part = q.weak; good = g.weak; front = (key_fields q.keys ++ sealed_fields q.sealed) ++ input_fields q.inputs; behind = _; same = refl; long = refl; last = λ _ _. tt }

  end_in : (q : BkParts) → AreBk restricted q → PartOf form AreEnd end_fields EndLast s start 10 q
  end_in q g = record { part = q.end; good = g.end; front = ((key_fields q.keys ++ sealed_fields q.sealed) ++ input_fields q.inputs) ++ weak_fields q.weak; behind = []; same = refl; long = refl; last = λ _ l. l }

  -- a weak list that is absent is not there, wherever the end halts
  late : (k : KeyFields) (b : SealedFields) (i : InputFields) (w : Optional WeakList) (at : ℕ) → Unmarked mark_of_weak_list w (drop at s) → (h : Halts AreEnd end_fields EndLast 11 s at f)
      → (12 ≤ f.field → Unmarked mark_of_id h.parts.id (drop f.place s)) → form.Skipped (bk_with k b i w h.parts) (f.field - 1) (drop f.place s)
  late k b i w at unmarked h id = (λ _. subst (Unmarked mark_of_weak_list w) (h.between.bytes ∙ ap (λ (l : List (List ℕ)). together l ++ drop f.place s) (by_count h.count h.short h.field)) unmarked, λ eleven. id (omega arith))
    where
      by_count : (c : ℕ) → c < 2 → f.field ≡ 11 + c → take c (end_fields h.parts) ≡ drop 10 (take (f.field - 1) (bk_field_texts (bk_with k b i w h.parts)))
      by_count zero short e = rw e refl
      by_count (suc zero) short e = rw e refl
      by_count (suc (suc c)) short e = absurd (omega arith)

pub bk_points_at : BkPointsAt
unfolding bk_fields
bk_points_at restricted s start f e =
    onward_fault s start (keys 1 pin_key pvk s start) (keys_at 1 pin_key pvk start) (keys_exact 1 pin_key pvk s start) key_fields key_fields_lem _ f e
    (λ own. let h = keys_halts s start f own in
    halts_points (bk_form restricted) twelve s start f AreKeysHere key_fields Always (λ _ _. refl) 1 start [] (sealed_fields some_sealed ++ (input_fields some_inputs ++ (weak_fields absent ++ end_fields no_end))) (between_none s start) h refl
    (bk_with h.parts some_sealed some_inputs absent no_end) (record { keys = h.are; sealed = sealed_good restricted; inputs = inputs_good; weak = tt; end = no_end_good }) refl
    (let a = h.field in let b = h.short in (λ ten. absurd (omega arith), λ eleven. absurd (omega arith))) (keys_in restricted s start f))
    (λ k at₄ kg three e₄. onward_fault s at₄ (sealed 4 restricted s at₄) (sealed_at restricted at₄) (sealed_exact 4 restricted s at₄) sealed_fields sealed_fields_lem _ f e₄
    (λ own. let h = sealed_halts restricted s at₄ f own in
    halts_points (bk_form restricted) twelve s start f (AreSealed restricted) sealed_fields Always (λ _ _. refl) 4 at₄ (key_fields k) (input_fields some_inputs ++ (weak_fields absent ++ end_fields no_end)) three h refl
    (bk_with k h.parts some_inputs absent no_end) (record { keys = kg; sealed = h.are; inputs = inputs_good; weak = tt; end = no_end_good }) refl
    (let a = h.field in let b = h.short in (λ ten. absurd (omega arith), λ eleven. absurd (omega arith))) (sealed_in restricted s start f))
    (λ b at₆ bg here e₆.
    let five = between_append s start at₄ at₆ (key_fields k) (sealed_fields b) three here in
    onward_fault s at₆ (offsetting 6 s at₆) (inputs_at at₆) (inputs_exact 6 s at₆) input_fields input_fields_lem _ f e₆
    (λ own. let h = inputs_halts s at₆ f own in
    halts_points (bk_form restricted) twelve s start f AreInputs input_fields Always (λ _ _. refl) 6 at₆ (key_fields k ++ sealed_fields b) (weak_fields absent ++ end_fields no_end) five h refl
    (bk_with k b h.parts absent no_end) (record { keys = kg; sealed = bg; inputs = h.are; weak = tt; end = no_end_good }) refl
    (let a = h.field in let b = h.short in (λ ten. absurd (omega arith), λ eleven. absurd (omega arith))) (inputs_in restricted s start f))
    (λ i at₁₀ ig here e₁₀.
    let nine = between_append s start at₆ at₁₀ (key_fields k ++ sealed_fields b) (input_fields i) five here in
    onward_fault s at₁₀ (weak 10 weak_mark s at₁₀) (weak_lists weak_mark at₁₀) (weak_stage_exact 10 weak_mark s at₁₀) weak_fields (λ w. sym (append-nil (optional_text mark_of_weak_list weak_text w))) _ f e₁₀
    (λ own. let h = weak_halts s at₁₀ f own in
    halts_points (bk_form restricted) twelve s start f (WherePresent IsWeakList) weak_fields Always (λ _ _. refl) 10 at₁₀ ((key_fields k ++ sealed_fields b) ++ input_fields i) (end_fields no_end) nine h refl
    (bk_with k b i h.parts no_end) (record { keys = kg; sealed = bg; inputs = ig; weak = h.are; end = no_end_good }) refl
    (let a = h.field in let b = h.short in (λ ten. absurd (omega arith), λ eleven. absurd (omega arith))) (weak_in_lem restricted s start f))
    (λ w at₁₁ wg here e₁₁.
    let ten = between_append s start at₁₀ at₁₁ ((key_fields k ++ sealed_fields b) ++ input_fields i) (weak_fields w) nine here in
    let key = between_first s start at₄ (type_text k.type ∷ key_text k.first ∷ []) (key_text k.second ∷ []) three in
    let ks = (keys_at 1 pin_key pvk start).value k in
    let unmarked = weak_unmarked w (drop at₁₁ s) wg in
    last_fault (end 11 ks s at₁₁) _ f e₁₁
    (λ own. end_points (bk_form restricted) twelve s start f ks at₁₁ 2 (((key_fields k ++ sealed_fields b) ++ input_fields i) ++ weak_fields w)
    (record {
      before = ten;
      ten = refl;
      build = bk_with k b i w;
      good = λ _ g. record { keys = kg; sealed = bg; inputs = ig; weak = weak_is w (drop at₁₁ s) wg; end = g };
      same = λ _. refl;
      took = λ x between took. (subst (Unmarked mark_of_weak_list w) (between.bytes ∙ ap (λ (l : List ℕ). l ++ drop f.place s) (sym (end_fields_lem x))) unmarked, took);
      ids = λ x same. rw (key_ids_lem k.first, key_ids_lem k.second) same;
      part = end_in restricted s start f;
      early = early restricted;
      own = λ _. (λ _. unmarked, λ h. absurd (omega arith));
      late = late restricted s start f k b i w at₁₁ unmarked;
    })
    refl (omega arith) (subst (λ (n : ℕ). Between s start n (type_text k.type ∷ key_text k.first ∷ [])) (sym (second_at start k)) key) (end_faults ks s at₁₁ f own))))))
