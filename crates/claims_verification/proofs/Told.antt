-- A verdict tells whether the offset is the one defined, and nothing else.
-- Assumes nothing.
use Prim.Native.Nat.{ℕ, ◌+◌}
use native.Mathlib.Omega.{arith}
use mathlib.Core.Path.{◌≡◌, refl, sym, ap, ◌∙◌, subst}
use mathlib.Core.Logic.{◌↔◌, ◌⊎◌, inl, inr}
use mathlib.Core.List.{List, [], ◌∷◌}
use mathlib.Core.Bool.{Bool, true, false, false≢true}
use lib.ListN.{length, take, drop}
use lib.Dec.{eqb}
use Rattle.nibbles.specs.Nibbles.{same}
use Rattle.numbers.specs.Numbers.{done, unless}
use Rattle.numbers.specs.Promise.{Said}
use Rattle.numbers.specs.declared.Refusal.TheVariants.{Unverified01, Check81}
use Rattle.numbers.proofs.Laws.{passed, then_done}
use Rattle.pins.specs.Pins.{verdict}
use Rattle.settings.specs.declared.Settings.{Settings}
use Rattle.ibm3624.specs.Ibm3624.{covers, offset_of}
use Rattle.offsettexts.specs.OffsetTexts.{offset_text, digit_end}
use Rattle.uses.specs.declared.Use.{Use}
use Rattle.keyfields.specs.declared.Keys.{Keys}
use Rattle.sealed.specs.declared.Sealed.{Sealed}
use Rattle.pairing.specs.Pairing.{pair_at}
use Rattle.verifyfields.specs.VerifyFields.{front, verify_fields, offset_in}
use Rattle.verifyfields.specs.declared.Verification.{Verification}
use Rattle.verifyfinish.specs.VerifyFinish.{verify_finish}
use Rattle.claims_blocks.specs.Promises.{listed}
use Rattle.claims_alike.specs.Alike.{Layout, fields}
use Rattle.claims_alike.proofs.Alike.{read_alike}
use Rattle.claims_commands.specs.Runs.{Verifying, code_for, key_for}
use Rattle.claims_commands.proofs.Shapes.{relaid}
use Rattle.claims_commands.proofs.Told.{shape_alike}
use Rattle.claims_commands.proofs.Bytes.{bytes_settle}
use Rattle.claims_commands.proofs.PinsRead.{returns_agree}
use Rattle.claims_commands.proofs.VerifyLayout.{verify_layout}
use Rattle.claims_commands.proofs.Verifying.{verify_shape}
use Rattle.claims_verification.specs.Calls.{Call, answer, shown_in, ReachesVerdict}
use Rattle.claims_verification.specs.Told.{VerifyReadAlike, VerifyAnswerAlike, defined, Verifies, SameVerdict, Alike, SameDigitsCovered, VerdictsTellNoMore, VerdictsTellOneAnswer, ReturnsTellVerdicts}
use Rattle.claims_verification.proofs.Verdicts.{finish_judged, tested, alike_exactly, counted_exactly, reaches_verdict_exactly}

-- ---- two verdicts

-- by a test each: alike exactly where both tests hold or neither does
verdicts_told : (x y : Bool) (X Y : Type 0) → (x ≡ true) ↔ X → (y ≡ true) ↔ Y
    → (verdict x ≡ verdict y) ↔ ((X × Y) ⊎ ((X → ⊥) × (Y → ⊥)))
verdicts_told true true X Y p q = (λ _. inl (p.0 refl, q.0 refl), λ _. refl)
verdicts_told true false X Y p q = (λ e. absurd (let z : ◌≡◌ {A = ℕ} 0 1 = cc in omega arith), λ c. absurd (by c))
  where
    by : (X × Y) ⊎ ((X → ⊥) × (Y → ⊥)) → ⊥
    by (inl c) = false≢true (q.1 c.1)
    by (inr c) = c.0 (p.0 refl)
verdicts_told false true X Y p q = (λ e. absurd (let z : ◌≡◌ {A = ℕ} 0 1 = cc in omega arith), λ c. absurd (by c))
  where
    by : (X × Y) ⊎ ((X → ⊥) × (Y → ⊥)) → ⊥
    by (inl c) = false≢true (p.1 c.0)
    by (inr c) = c.1 (q.0 refl)
verdicts_told false false X Y p q = (λ _. inr (λ x. false≢true (p.1 x), λ y. false≢true (q.1 y)), λ _. refl)

-- a finish brings nothing
finish_nothing : (variable : Bool) (s : List ℕ) (v : Verification) (rows : List ℕ × List ℕ) (ds : List ℕ) → verify_finish variable s v rows ≡ done ds → ds ≡ []
unfolding verify_finish
finish_nothing variable s v rows ds e =
    let n = then_done (pair_at s v.sealed v.offsetting rows) _ ds e in
    let pin = n.0.0 in
    let m = then_done (covers variable v.offsetting.check (length pin)) _ ds n.2 in
    let o = then_done (unless Check81 (eqb (length (offset_in s v)) m.0) m.0) _ ds m.2 in
    sym (passed Unverified01 (same (offset_in s v) (offset_of m.0 pin n.0.1)) [] ds o.2).1

-- ---- a run that is compared

module _ (w : Verifying) (settings : Settings) (a : Call) (r : ReachesVerdict w settings a) where
  abbrev v : Verification
  v = r.finds.reaches.fields

  -- its finish is one test
  abbrev test : Bool
  test = same (offset_in a.command v) (defined r)

  finish_test : verify_finish settings.variable a.command v r.finds.reaches.rows ≡ verdict test
  finish_test =
      let counted = (counted_exactly w settings a r.finds r.m r.covered).1 r.digits in
      finish_judged w settings a r.finds ∙ tested w settings a r.finds r.m r.covered ∙ rw counted

  test_exactly : (test ≡ true) ↔ Verifies r
  test_exactly = alike_exactly w settings a r.finds r.m r.covered

-- ---- how they lie around the PIN block

laid : (pin_key : Use) (s : List ℕ) (at : ℕ) → fields (verify_layout pin_key) s at ≡ verify_fields pin_key s at
unfolding verify_fields front
laid pin_key s at = refl

-- with the offset in place of the trailer, which stands behind the block too
offset_layout : Use → Layout 16 Keys Sealed Verification (List ℕ)
offset_layout pin_key = record {
  front = (verify_layout pin_key).front;
  block = (verify_layout pin_key).block;
  tail = (verify_layout pin_key).tail;
  whatever = (verify_layout pin_key).whatever;
  start = (verify_layout pin_key).start;
  passes = (verify_layout pin_key).passes;
  place = (verify_layout pin_key).place;
  placed = (verify_layout pin_key).placed;
  seen = λ v s. drop v.offset s;
  looked = λ ks block at p s t from. from ((((verify_layout pin_key).tail ks block).writing at).value p).offset (omega arith);
}

-- ---- two of them, as far as the block

pub verify_read_alike : VerifyReadAlike
unfolding verify_fields front
verify_read_alike w s t at v v' past past' e e' alike = (read_alike 16 Keys Sealed Verification (List ℕ) (verify_layout (key_for w)) s t at v v' past past' e e' alike).same

pub verify_answer_alike : VerifyAnswerAlike
verify_answer_alike w settings a b r r' alike =
    shape_alike (verify_shape w settings) (verify_layout (key_for w)) (laid (key_for w)) (λ v s. refl) (λ (ds : List ℕ). ds ≡ []) (λ x y p q _. p ∙ sym q)
    a.pin_key_good a.pvk_good b.pin_key_good b.pvk_good a.room b.room a.command b.command a.block b.block a.enciphered b.enciphered
    r r' alike (finish_nothing settings.variable a.command r.fields r.rows) (finish_nothing settings.variable b.command r'.fields r'.rows)

-- ---- as far as the verdict

module _ (w : Verifying) (settings : Settings) (a b : Call) (r : ReachesVerdict w settings a) (r' : ReachesVerdict w settings b) (alike : Alike r r') where
  -- they answer alike exactly when their tests come out alike
  one_answer : (answer settings a ≡ answer settings b) ↔ SameVerdict r r'
  one_answer =
      let here = finish_test w settings a r in
      let there = finish_test w settings b r' in
      let finishes = verify_answer_alike w settings a b r.finds.reaches r'.finds.reaches alike in
      let tests = verdicts_told (test w settings a r) (test w settings b r') (Verifies r) (Verifies r') (test_exactly w settings a r) (test_exactly w settings b r') in
      (λ e. tests.0 (sym here ∙ finishes.0 e ∙ there), λ e. finishes.1 (here ∙ tests.1 e ∙ sym there))

  bytes_alike : (answer settings a).written ≡ (answer settings b).written → answer settings a ≡ answer settings b
  bytes_alike e =
      let header = settings.header in
      bytes_settle (verify_layout (key_for w)) (code_for w) _ _ settings a.pin_key_good a.pvk_good b.pin_key_good b.pvk_good a.room b.room a.command b.command a.block b.block a.enciphered b.enciphered
      (relaid (laid (key_for w) a.command (header + 2)) r.finds.reaches) (relaid (laid (key_for w) b.command (header + 2)) r'.finds.reaches) alike e

  -- they present the same offset
  shown_alike : shown_in a.command r.finds.reaches.fields ≡ shown_in b.command r'.finds.reaches.fields
  unfolding offset_layout verify_fields front
  shown_alike =
      let here = r.finds.reaches in
      let there = r'.finds.reaches in
      ap (take 12) (read_alike 16 Keys Sealed Verification (List ℕ) (offset_layout (key_for w)) a.command b.command (settings.header + 2) here.fields there.fields here.past there.past here.read there.read alike).seen

  -- so where the same is defined both verify or neither does
  same_verdict : defined r ≡ defined r' → SameVerdict r r'
  same_verdict e = by (test w settings a r) refl
    where
      over : Verifies r' → Verifies r
      over k = shown_alike ∙ k ∙ ap offset_text (sym e)

      by : (x : Bool) → test w settings a r ≡ x → SameVerdict r r'
      by true k = let yes = (test_exactly w settings a r).0 k in inl (yes, sym shown_alike ∙ yes ∙ ap offset_text e)
      by false k = let not : Verifies r → ⊥ = λ z. false≢true (sym k ∙ (test_exactly w settings a r).1 z) in inr (not, λ z. not (over z))

pub same_digits_covered : SameDigitsCovered
same_digits_covered w settings a b r r' alike = sym r.digits ∙ ap digit_end (shown_alike w settings a b r r' alike) ∙ r'.digits

pub verdicts_tell_no_more : VerdictsTellNoMore
verdicts_tell_no_more w settings a b r r' alike e = (one_answer w settings a b r r' alike).1 (same_verdict w settings a b r r' alike e)

pub verdicts_tell_one_answer : VerdictsTellOneAnswer
verdicts_tell_one_answer w settings a b r r' alike =
    let tell = one_answer w settings a b r r' alike in
    (tell, (λ e. tell.0 (bytes_alike w settings a b r r' alike e), λ e. ap (λ (x : Said ℕ). x.written) (tell.1 e)))

pub returns_tell_verdicts : ReturnsTellVerdicts
returns_tell_verdicts w settings a b before before' after after' reply reply' coded coded' d d' e e' =
    let r = (reaches_verdict_exactly w settings a coded).0 (subst (λ (n : ℕ). listed n (0 ∷ 1 ∷ []) ≡ true) d.number e) in
    let r' = (reaches_verdict_exactly w settings b coded').0 (subst (λ (n : ℕ). listed n (0 ∷ 1 ∷ []) ≡ true) d'.number e') in
    let agree = returns_agree _ _ before before' after after' reply reply' d d' in (
      r,
      r',
      λ alike. let tell = one_answer w settings a b r r' alike in (λ x. tell.0 (agree.0 x), λ x. agree.1 (tell.1 x)),
    )
