-- LMK ids that disagree point at the last one that is present.
-- Assumes nothing.
use Prim.Native.Nat.{ℕ, ◌+◌, ◌-◌, ◌≤◌}
use native.Mathlib.Omega.{arith}
use mathlib.Core.Path.{◌≡◌, refl, sym, ap, ap₂, ◌∙◌, subst}
use mathlib.Core.Logic.{inl}
use mathlib.Core.List.{List, [], ◌∷◌, ◌++◌, append-nil}
use mathlib.Core.Bool.{Bool, true, false}
use lib.ListN.{length, take, drop, length-append, length-drop}
use Rattle.alphabet.specs.Alphabet.{begins}
use Rattle.numbers.specs.declared.Refusal.TheVariants.{Field15}
use Rattle.fields.specs.Fields.{faulty, trailer}
use Rattle.uses.specs.Uses.{pin_key, pvk}
use Rattle.keyfields.specs.KeyFields.{keys}
use Rattle.keyfields.specs.declared.Keys.{Keys}
use Rattle.endings.specs.Endings.{all_agree, last_id, end}
use Rattle.endings.proofs.Laws.{closed_apart}
use Rattle.bkfields.specs.BkFields.{bk_fields}
use Rattle.verifyfields.specs.VerifyFields.{verify_fields}
use Rattle.texts.specs.Texts.{Optional, absent, present, WherePresent, IsTrailer, trailer_text, together}
use Rattle.texts.specs.Writings.{trailers}
use Rattle.texts_keys.specs.KeyTexts.{Key, bare, double, triple, block, IsId, id_text, key_ids, own_ids, AllSame}
use Rattle.texts_keys.specs.KeyWritings.{ids, lmk_of, ids_read}
use Rattle.texts_keys.proofs.KeyFields.{own_ids_lem, key_ids_lem, ids_agree_lem}
use Rattle.texts_data.specs.DataTexts.{WeakList, IsWeakList}
use Rattle.texts_data.specs.DataWritings.{WeakFine}
use Rattle.texts_stages.specs.StageTexts.{EndFields, end_text, AreEnd}
use Rattle.texts_stages.specs.StageWritings.{keys_at}
use Rattle.claims_commands.specs.Runs.{Verifying, key_for}
use Rattle.claims_exactly.specs.BkText.{BkParts, bk_text, bk_ids}
use Rattle.claims_exactly.specs.VerifyText.{VerifyParts, verify_text, verify_ids, pin_key_rule_of}
use Rattle.claims_places.specs.FieldTexts.{bk_field_texts, verify_field_texts}
use Rattle.claims_places.specs.Begins.{AreBk, AreVerify}
use Rattle.claims_places.specs.Ids.{last_present, bk_last, verify_last, field_fault, IdsPointAtTheLast}
use Rattle.claims_places.proofs.Ends.{end_read, bk_ends, verify_ends}
use Rattle.claims_places.proofs.Begins.{second_at}
use Rattle.claims_places.proofs.VerifyBegins as verifying
use Rattle.claims_places.proofs.VerifyBegins.{front_at}

-- ---- the end, with nothing left over

id_fine : (v : Optional ℕ) (t : Optional (List ℕ)) → WherePresent IsId v → ids.fine v (trailer_text t ++ [])
unfolding begins
id_fine absent absent g = refl
id_fine absent (present cs) g = refl
id_fine (present n) t g = g

trailer_fine : (t : Optional (List ℕ)) → WherePresent IsTrailer t → trailers.fine t []
unfolding begins
trailer_fine absent g = refl
trailer_fine (present cs) g = (g, inl refl)

apart : (ks : Keys) (v : Optional ℕ) → (AllSame (ids_read ks.first ++ (ids_read ks.second ++ own_ids v)) → ⊥) → all_agree ks (ids.value v) ≡ false
apart ks v differ = by_test (all_agree ks (ids.value v)) refl
  where
    by_test : (b : Bool) → all_agree ks (ids.value v) ≡ b → b ≡ false
    by_test true h = absurd (differ (subst (λ (l : List ℕ). AllSame (ids_read ks.first ++ (ids_read ks.second ++ l))) (own_ids_lem v) ((ids_agree_lem ks.first ks.second (ids.value v)).0 h)))
    by_test false h = refl

end_apart : (ks : Keys) (s : List ℕ) (from : ℕ) (e : EndFields) → AreEnd e → drop from s ≡ end_text e ++ [] → (AllSame (ids_read ks.first ++ (ids_read ks.second ++ own_ids e.id)) → ⊥)
    → end 11 ks s from ≡ faulty (last_id ks (ids.value e.id) 11 from)
end_apart ks s from e g w differ =
    let t₁ = id_text e.id in
    let t₂ = trailer_text e.trailer in
    let last = ap length (w ∙ append-nil (end_text e)) in
    let short : length s ≤ from + length t₁ + length t₂ = omega (arith, length-drop from s, last, length-append t₁ t₂) in
    end_read ks s from e [] (id_fine e.id e.trailer g.id) (trailer_fine e.trailer g.trailer) w
    ∙ closed_apart ks (ids.value e.id) 11 from s (from + length t₁) (from + length t₁ + length t₂) short (apart ks e.id differ)

-- ---- which is the last

-- the end's own, whatever the keys hold
last_own : (k m : ℕ) (a b : List ℕ) (n : ℕ) → last_present 0 ((k, a) ∷ (m, b) ∷ (11, n ∷ []) ∷ []) ≡ 11
last_own k m [] [] n = refl
last_own k m [] (y ∷ b) n = refl
last_own k m (x ∷ a) [] n = refl
last_own k m (x ∷ a) (y ∷ b) n = refl

-- or else the second key's
last_second : (k m : ℕ) (a : List ℕ) (n : ℕ) → last_present 0 ((k, a) ∷ (m, n ∷ []) ∷ (11, []) ∷ []) ≡ m
last_second k m [] n = refl
last_second k m (x ∷ a) n = refl

-- which holds one, since one id alone agrees
one_agrees : (k : Key) → AllSame (key_ids k ++ [])
one_agrees (bare cs) = tt
one_agrees (double cs) = tt
one_agrees (triple cs) = tt
one_agrees (block b) = tt

module _ (start k m : ℕ) (texts : List (List ℕ)) (first second : Key) where
  abbrev last : Optional ℕ → ℕ
  last v = last_present 0 ((k, key_ids first) ∷ (m, key_ids second) ∷ (11, own_ids v) ∷ [])

  -- the fault that the end gives is the one at the last id's field
  last_fault_is : (ks : Keys) (from : ℕ) (v : Optional ℕ) → ks.field ≡ m → ks.place ≡ start + length (together (take (m - 1) texts)) → from ≡ start + length (together (take 10 texts))
      → (AllSame (key_ids first ++ (key_ids second ++ own_ids v)) → ⊥) → last_id ks (ids.value v) 11 from ≡ field_fault start texts (last v)
  last_fault_is ks from (present n) f p own differ = rw (last_own k m (key_ids first) (key_ids second) n) (ap (λ (i : ℕ). record { refusal = Field15; field = 11; place = i }) own)
  last_fault_is ks from absent f p own differ = by_second second refl
    where
      by_second : (x : Key) → second ≡ x → last_id ks (ids.value absent) 11 from ≡ field_fault start texts (last absent)
      by_second (block b) e = rw (e, last_second k m (key_ids first) b.id) (ap₂ (λ (i j : ℕ). record { refusal = Field15; field = i; place = j }) f p)
      by_second (bare cs) e = absurd (differ (rw e (one_agrees first)))
      by_second (double cs) e = absurd (differ (rw e (one_agrees first)))
      by_second (triple cs) e = absurd (differ (rw e (one_agrees first)))

-- ---- BK

weak_fine : (w : Optional WeakList) (v : Optional ℕ) (t : Optional (List ℕ)) → WherePresent IsWeakList w → WeakFine 0x3B w ((id_text v ++ trailer_text t) ++ [])
unfolding begins
weak_fine absent absent absent g = refl
weak_fine absent absent (present cs) g = refl
weak_fine absent (present n) t g = refl
weak_fine (present w) v t g = g

ids_read_lem : (a b : Key) (v : Optional ℕ) → AllSame (ids_read (lmk_of a) ++ (ids_read (lmk_of b) ++ own_ids v)) → AllSame (key_ids a ++ (key_ids b ++ own_ids v))
ids_read_lem a b v g = rw (← key_ids_lem a, ← key_ids_lem b) g

bk_ids_lem : (limited : Bool) (s : List ℕ) (start : ℕ) (p : BkParts) → AreBk limited p → drop start s ≡ bk_text p → (AllSame (bk_ids p) → ⊥) → bk_fields limited s start ≡ faulty (field_fault start (bk_field_texts p) (bk_last p))
bk_ids_lem limited s start p g w differ =
    let ks = (keys_at 1 pin_key pvk start).value p.keys in
    let ends = bk_ends limited s start p [] g (weak_fine p.weak p.end.id p.end.trailer g.weak) (w ∙ sym (append-nil (bk_text p))) in
    let own = end_apart ks s ends.from p.end g.end ends.bytes (λ same. differ (ids_read_lem p.keys.first p.keys.second p.end.id same)) in
    ends.fault _ (own ∙ ap faulty (last_fault_is start 2 3 (bk_field_texts p) p.keys.first p.keys.second ks ends.from p.end.id refl (second_at start p.keys) ends.reached differ))

-- ---- DA and EA

verify_ids_lem : (v : Verifying) (s : List ℕ) (start : ℕ) (p : VerifyParts) → AreVerify (pin_key_rule_of v) p → drop start s ≡ verify_text p → (AllSame (verify_ids p) → ⊥)
    → verify_fields (key_for v) s start ≡ faulty (field_fault start (verify_field_texts p) (verify_last p))
verify_ids_lem v s start p g w differ =
    let ks = (front_at (key_for v) start).value (p.keys, tt) in
    let ends = verify_ends v s start p [] g (w ∙ sym (append-nil (verify_text p))) in
    let own = end_apart ks s ends.from p.end g.end ends.bytes (λ same. differ (ids_read_lem p.keys.first p.keys.second p.end.id same)) in
    ends.fault _ (own ∙ ap faulty (last_fault_is start 1 2 (verify_field_texts p) p.keys.first p.keys.second ks ends.from p.end.id refl (verifying.second_at start p.keys.first) ends.reached differ))

pub ids_point_at_the_last : IdsPointAtTheLast
ids_point_at_the_last = (bk_ids_lem, verify_ids_lem)
