-- What a command's fault points at, by the stage that is at fault: one law for every command of twelve fields.
-- Assumes nothing.
use Prim.Native.Nat.{ℕ, suc, ◌+◌, ◌-◌, ◌≤◌, ◌<◌}
use native.Mathlib.Omega.{arith}
use mathlib.Core.Path.{◌≡◌, refl, sym, ap, ap₂, ◌∙◌, subst}
use mathlib.Core.Logic.{◌⊎◌, inl, inr}
use mathlib.Core.List.{List, [], ◌++◌, append-nil}
use lib.ListN.{length, take, drop, length-append, length-drop}
use lib.Seq.{take-append-add, take-append-le, drop-append-add, drop-append-le, drop-append_seam, take_all}
use Rattle.fields.specs.Fields.{pointer_of}
use Rattle.fields.specs.declared.Fault.{Fault}
use Rattle.keyfields.specs.declared.Keys.{Keys}
use Rattle.texts.specs.Texts.{together}
use Rattle.texts_keys.specs.KeyTexts.{mark_of_id, AllSame}
use Rattle.texts_stages.specs.StageTexts.{EndFields, AreEnd}
use Rattle.claims_places.specs.FieldTexts.{end_fields}
use Rattle.claims_places.specs.Begins.{Between, EndTook, Form, Ended, Fails, IdsApart, FailsAt, LeftOver, PointsAt, Unmarked}
use Rattle.claims_places.proofs.Between.{between_append, together_append, Halts}
use Rattle.claims_places.proofs.Stages.{EndLast, read_ids, EndFault, halted, over, apart}

-- ---- lists of texts

module _ {A : Type 0} (front mid behind : List A) (c : ℕ) where
  -- so many of the first, and then some of the next
  take_mid : c ≤ length mid → take (length front + c) (front ++ (mid ++ behind)) ≡ front ++ take c mid
  take_mid h = take-append-add front (mid ++ behind) c ∙ ap (λ (l : List A). front ++ l) (take-append-le c mid behind h)

  -- and the one behind those
  next_mid : c < length mid → take 1 (drop (length front + c) (front ++ (mid ++ behind))) ≡ take 1 (drop c mid)
  next_mid h =
      ap (take 1) (drop-append-add front (mid ++ behind) c ∙ drop-append-le c mid behind (omega arith))
      ∙ take-append-le 1 (drop c mid) behind (omega (arith, length-drop c mid))

-- lists behind fronts of one length
behind_fronts : {A : Type 0} (xs ys us vs : List A) → length xs ≡ length ys → xs ++ us ≡ ys ++ vs → us ≡ vs
behind_fronts xs ys us vs l e = sym (drop-append_seam xs us) ∙ ap₂ drop l e ∙ drop-append_seam ys vs

-- ---- a stage's part of a command's parts

pub record PartOf {P Q : Type 0} (form : Form P) (AreQ : Q → Type 0) (textsQ : Q → List (List ℕ)) (LastQ : Q → List ℕ → Type 0) (s : List ℕ) (start before : ℕ) (q : P) : Type 0 where
  pub part : Q
  pub good : AreQ part
  pub front : List (List ℕ)
  pub behind : List (List ℕ)
  pub same : form.texts q ≡ front ++ (textsQ part ++ behind)
  pub long : length front ≡ before
  pub last : (left : List ℕ) → Ended form s start q left → LastQ part left

module _ {P : Type 0} (form : Form P) (twelve : (p : P) → length (form.texts p) ≡ 12) (s : List ℕ) (start : ℕ) (f : Fault) where
  abbrev There : Type 0
  There = PointsAt form s start (pointer_of f)

  points_fail : 1 ≤ f.field → f.field ≤ 12 → FailsAt form s start f.place (f.field - 1) → There
  points_fail least most b = record { field = λ _. (most, b); over = λ z. absurd (omega arith) }

  -- a stage halts, behind some texts
  pub halts_points : {Q : Type 0} (AreQ : Q → Type 0) (textsQ : Q → List (List ℕ)) (LastQ : Q → List ℕ → Type 0) (wide : (x y : Q) → length (textsQ x) ≡ length (textsQ y)) (first at : ℕ)
      (ts more : List (List ℕ)) → Between s start at ts → (h : Halts AreQ textsQ LastQ first s at f) → first ≡ 1 + length ts
      → (p : P) → form.Are p → form.texts p ≡ ts ++ (textsQ h.parts ++ more) → form.Skipped p (f.field - 1) (drop f.place s)
      → ((q : P) → form.Are q → PartOf form AreQ textsQ LastQ s start (length ts) q) → There
  halts_points AreQ textsQ LastQ wide first at ts more b h counted p good same skipped part =
      let field = h.field in
      let short = h.short in
      let c = h.count in
      let n : f.field - 1 ≡ length ts + c = omega arith in
      let taken : take (f.field - 1) (form.texts p) ≡ ts ++ take c (textsQ h.parts) = ap₂ take n same ∙ take_mid ts (textsQ h.parts) more c (omega arith) in
      let long : length (form.texts p) ≡ length ts + (length (textsQ h.parts) + length more) = ap length same ∙ length-append ts (textsQ h.parts ++ more) ∙ ap (λ (k : ℕ). length ts + k) (length-append (textsQ h.parts) more) in
      let fails : Fails form s start f.place (f.field - 1) p = λ q g alike end beyond there last.
      let r = part q g in
      let x = r.part in
      let w = wide x h.parts in
      let m : f.field - 1 ≡ length r.front + c = n ∙ ap (λ (k : ℕ). k + c) (sym r.long) in
      let taken₂ : take (f.field - 1) (form.texts q) ≡ r.front ++ take c (textsQ x) = ap₂ take m r.same ∙ take_mid r.front (textsQ x) r.behind c (omega arith) in
      let next : take 1 (drop (f.field - 1) (form.texts q)) ≡ take 1 (drop c (textsQ x)) =
      ap₂ (λ (k : ℕ) (l : List (List ℕ)). take 1 (drop k l)) m r.same ∙ next_mid r.front (textsQ x) r.behind c (omega arith) in
      h.failed x r.good (behind_fronts r.front ts _ _ r.long (sym taken₂ ∙ alike ∙ taken)) end beyond (subst (Between s f.place end) next there)
      (λ all. r.last (drop end s) (last (omega arith))) in
      points_fail (omega arith) (omega (arith, twelve p))
      (record {
        parts = p;
        before = (good, subst (Between s start f.place) (sym taken) (between_append s start at f.place ts _ b h.between));
        skipped = skipped;
        failed = inl fails;
      })

  -- what a command gives so that its end is judged: the texts before it, its parts with any end, and what its form says of them
  pub record Ending (ks : Keys) (at : ℕ) (ts : List (List ℕ)) : Type 0 where
    pub before : Between s start at ts
    pub ten : length ts ≡ 10
    pub build : EndFields → P
    pub good : (e : EndFields) → AreEnd e → form.Are (build e)
    pub same : (e : EndFields) → form.texts (build e) ≡ ts ++ end_fields e
    pub took : (e : EndFields) → Between s at f.place (end_fields e) → EndTook e (drop f.place s) → form.Took (build e) (drop f.place s)
    pub ids : (e : EndFields) → AllSame (form.ids (build e)) → AllSame (read_ids ks e)
    pub part : (q : P) → form.Are q → PartOf form AreEnd end_fields EndLast s start (length ts) q
    pub early : (q : P) (n : ℕ) (left : List ℕ) → n ≤ 9 → form.Skipped q n left
    pub own : (e : EndFields) → form.Skipped (build e) 10 (drop at s)
    pub late : (h : Halts AreEnd end_fields EndLast 11 s at f) → (12 ≤ f.field → Unmarked mark_of_id h.parts.id (drop f.place s)) → form.Skipped (build h.parts) (f.field - 1) (drop f.place s)

  end_wide : (x y : EndFields) → length (end_fields x) ≡ length (end_fields y)
  end_wide x y = refl

  -- the end is at fault, or what is judged behind it; ids may point back at the second key, which has n fields before it
  pub end_points : (ks : Keys) (at n : ℕ) (ts : List (List ℕ)) → Ending ks at ts → ks.field ≡ suc n → n ≤ 9 → Between s start ks.place (take n ts) → EndFault ks s at f → There
  end_points ks at n ts x counted few key (halted h unmarked) =
      halts_points AreEnd end_fields EndLast end_wide 11 at ts [] x.before h (ap (λ (m : ℕ). 1 + m) (sym x.ten)) (x.build h.parts) (x.good h.parts h.are)
      (x.same h.parts ∙ ap (λ (l : List (List ℕ)). ts ++ l) (sym (append-nil (end_fields h.parts)))) (x.late h unmarked) x.part
  end_points ks at n ts x counted few key (over e g between ended more none) =
      let whole : take 12 (form.texts (x.build e)) ≡ ts ++ end_fields e = ap (take 12) (x.same e) ∙ take_all 12 (ts ++ end_fields e) (omega (arith, length-append ts (end_fields e), x.ten)) in
      let left : LeftOver form s start f.place = record {
        parts = x.build e;
        before = (x.good e g, subst (Between s start f.place) (sym whole) (between_append s start at f.place ts (end_fields e) x.before between));
        took = x.took e between ended;
        more = more;
      } in
      record { field = λ h. absurd (omega arith); over = λ _. left }
  end_points ks at n ts x counted few key (apart e g ends differ which) = by_id which
    where
      ids_apart : IdsApart form s start
      ids_apart = (
        x.build e,
        x.good e g,
        x.before.bytes ∙ ap (λ (l : List ℕ). together ts ++ l) ends ∙ sym (together_append ts (end_fields e)) ∙ ap together (sym (x.same e)),
        λ same. differ (x.ids e same),
      )

      -- the first m of its fields are the first m texts
      first_texts : (m : ℕ) → m ≤ 10 → take m (form.texts (x.build e)) ≡ take m ts
      first_texts m h = ap (take m) (x.same e) ∙ take-append-le m ts (end_fields e) (omega (arith, x.ten))

      all_ten : take 10 ts ≡ ts
      all_ten = take_all 10 ts (omega (arith, x.ten))

      at_field : (m place : ℕ) → f.field ≡ suc m → f.place ≡ place → m ≤ 10 → Between s start place (take m ts) → form.Skipped (x.build e) m (drop place s) → There
      at_field m place k p h b skipped =
          let before : f.field - 1 ≡ m = omega arith in
          points_fail (omega arith) (omega arith)
          (rw (before, p) (record { parts = x.build e; before = (x.good e g, subst (Between s start place) (sym (first_texts m h)) b); skipped = skipped; failed = inr ids_apart }))

      by_id : ((f.field ≡ 11) × (f.place ≡ at)) ⊎ ((f.field ≡ ks.field) × (f.place ≡ ks.place)) → There
      by_id (inl (k, p)) = at_field 10 at k p (omega arith) (subst (Between s start at) (sym all_ten) x.before) (x.own e)
      by_id (inr (k, p)) = at_field n ks.place (k ∙ counted) p (omega arith) key (x.early (x.build e) n (drop ks.place s) few)
