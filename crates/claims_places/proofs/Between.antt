-- Texts one behind the other, and the faults of fields and stages.
-- Assumes nothing.
use Prim.Native.Nat.{ℕ, ◌+◌, ◌≤◌, ◌<◌}
use native.Mathlib.Nat.{add_assoc, add-zero}
use native.Mathlib.Omega.{arith}
use mathlib.Core.Path.{◌≡◌, refl, sym, ap, ap₂, ◌∙◌, subst}
use mathlib.Core.List.{List, [], ◌∷◌, ◌++◌, append_assoc, append-nil}
use lib.ListN.{length, take, drop, length-append, length-drop, take-append-drop}
use lib.Seq.{drop-append-le, length-take-le}
use Rattle.numbers.specs.Numbers.{done, refused}
use Rattle.numbers.specs.declared.Refusal.{Refusal}
use Rattle.fields.specs.Fields.{Found, Stage, read, faulty, field, fielded, onward}
use Rattle.fields.specs.declared.Fault.{Fault}
use Rattle.texts.specs.Texts.{together}
use Rattle.texts.specs.Exact.{Writing, Opens, Exact, ExactAt}
use Rattle.texts.proofs.Closing.{past_text}
use Rattle.texts.proofs.Runs.{fronts}
use Rattle.claims_places.specs.Begins.{Between, SharedAlike}

-- ---- texts between two places

pub between_none : (s : List ℕ) (at : ℕ) → Between s at at []
between_none s at = record { bytes = refl; reached = sym (add-zero at) }

pub together_append : (ts us : List (List ℕ)) → together (ts ++ us) ≡ together ts ++ together us
together_append [] us = refl
together_append (t ∷ ts) us = ap (λ (l : List ℕ). t ++ l) (together_append ts us) ∙ sym (append_assoc t (together ts) (together us))

pub between_append : (s : List ℕ) (start at place : ℕ) (ts us : List (List ℕ)) → Between s start at ts → Between s at place us → Between s start place (ts ++ us)
between_append s start at place ts us b d = record {
  bytes = b.bytes ∙ ap (λ (l : List ℕ). together ts ++ l) d.bytes ∙ sym (append_assoc (together ts) (together us) (drop place s)) ∙ ap (λ (l : List ℕ). l ++ drop place s) (sym (together_append ts us));
  reached = d.reached ∙ ap (λ (n : ℕ). n + length (together us)) b.reached ∙ add_assoc start (length (together ts)) (length (together us))
      ∙ ap (λ (n : ℕ). start + n) (sym (length-append (together ts) (together us)) ∙ ap length (sym (together_append ts us)));
}

-- a text that is made of some
pub between_whole : (s : List ℕ) (at : ℕ) (t rest : List ℕ) (ts : List (List ℕ)) → t ≡ together ts → drop at s ≡ t ++ rest → Between s at (at + length t) ts
between_whole s at t rest ts same e = record {
  bytes = e ∙ ap₂ ◌++◌ same (sym (past_text s at t rest e));
  reached = ap (λ (l : List ℕ). at + length l) same;
}

-- the first of them
pub between_first : (s : List ℕ) (start place : ℕ) (ts us : List (List ℕ)) → Between s start place (ts ++ us) → Between s start (start + length (together ts)) ts
between_first s start place ts us b =
    between_whole s start (together ts) (together us ++ drop place s) ts refl
    (b.bytes ∙ ap (λ (l : List ℕ). l ++ drop place s) (together_append ts us) ∙ append_assoc (together ts) (together us) (drop place s))

-- so of every command that shares the bytes before the place
pub between_shared : (s t : List ℕ) (start place : ℕ) (ts : List (List ℕ)) → place ≤ length t → take place s ≡ take place t → Between s start place ts → Between t start place ts
between_shared s t start place ts h e b =
    let reached = b.reached in
    let there : length (take place t) ≡ place = length-take-le place t h in
    let here : length (take place s) ≡ place = ap length e ∙ there in
    let split : (u : List ℕ) → length (take place u) ≡ place → drop start u ≡ drop start (take place u) ++ drop place u =
    λ u l. ap (drop start) (sym (take-append-drop place u)) ∙ drop-append-le start (take place u) (drop place u) (omega arith) in
    let long : length (drop start (take place s)) ≡ length (together ts) = length-drop start (take place s) ∙ omega arith in
    let front = fronts (length (together ts)) (drop start (take place s)) (together ts) (drop place s) (drop place s) long refl (sym (split s here) ∙ b.bytes) in
    record { bytes = split t there ∙ ap (λ (l : List ℕ). l ++ drop place t) (ap (drop start) (sym e) ∙ front.0); reached = b.reached }

pub shared_alike : SharedAlike
shared_alike P form s t start place n p h e (good, b) = (good, between_shared s t start place (take n (form.texts p)) h e b)

-- ---- faults

-- what comes of a part that was read: it is fine before what stands behind it, its fields stand between the places, and the fault lies behind
abbrev Behind : {A : Type 0} → (w : Writing A) → (w.Part → List (List ℕ)) → List ℕ → ℕ → (A → ℕ → Type 0) → Type 0 → Type 0
Behind w texts s at next C = (p : w.Part) (past : ℕ) → w.fine p (drop past s) → Between s at past (texts p) → next (w.value p) past → C

-- a part that opens what is ahead
opened : {A C : Type 0} (w : Writing A) (texts : w.Part → List (List ℕ)) (whole : (p : w.Part) → w.text p ≡ together (texts p)) (s : List ℕ) (at n past : ℕ) (a : A) (next : A → ℕ → Type 0)
    → Opens w (drop at s) n a → past ≡ at + n → next a past → Behind w texts s at next C → C
opened {A} {C} w texts whole s at n past a next o reached g behind =
    let p = o.part in
    let end : past ≡ at + length (w.text p) = reached ∙ ap (λ (k : ℕ). at + k) o.count in
    let rest : o.rest ≡ drop past s = sym (past_text s at (w.text p) o.rest o.whole) ∙ ap (λ (k : ℕ). drop k s) (sym end) in
    behind p past (subst (w.fine p) rest o.good) (subst (λ (k : ℕ). Between s at k (texts p)) (sym end) (between_whole s at (w.text p) o.rest (texts p) (whole p) o.whole))
    (subst (λ (x : A). next x past) o.same g)

-- no part of a field's stands at a place
abbrev pub None : {A : Type 0} → Writing A → List ℕ → ℕ → Type 0
None w s at = (p : w.Part) (end : ℕ) → w.fine p (drop end s) → Between s at end (w.text p ∷ []) → ⊥

-- since it would have been read
refused_none : {A : Type 0} (reader : List ℕ → Found A) (w : Writing A) → Exact reader w → (s : List ℕ) (at : ℕ) (q : Refusal) → reader (drop at s) ≡ refused q → None w s at
refused_none reader w x s at q e p end g b =
    let here = b.bytes ∙ ap (λ (l : List ℕ). l ++ drop end s) (append-nil (w.text p)) in
    let both = sym e ∙ ap reader here ∙ x.back p (drop end s) g in
    let z : ◌≡◌ {A = ℕ} 0 1 = cc in omega arith

-- a field's own fault, or one behind it
pub field_fault_lem : {A B C : Type 0} (k : ℕ) (reader : List ℕ → Found A) (w : Writing A) (x : Exact reader w) (s : List ℕ) (at : ℕ) (next : A → ℕ → Stage B) (f : Fault)
    → field k reader s at next ≡ faulty f → (None w s at → (f.field ≡ k) × (f.place ≡ at) → C) → Behind w (λ p. w.text p ∷ []) s at (λ a past. next a past ≡ faulty f) C → C
field_fault_lem {A} {B} {C} k reader w x s at next f e own behind = by_found (reader (drop at s)) refl e
  where
    by_found : (o : Found A) → reader (drop at s) ≡ o → fielded k at o next ≡ faulty f → C
    by_found (done r) h g =
        opened w (λ p. w.text p ∷ []) (λ p. sym (append-nil (w.text p))) s at r.1 (at + r.1) r.0 (λ a past. next a past ≡ faulty f) (x.only (drop at s) r.0 r.1 h) refl g behind
    by_found (refused q) h g = let same : record { refusal = q; field = k; place = at } ≡ f = cc in own (refused_none reader w x s at q h) (sym (ap (λ (y : Fault). y.field) same), sym (ap (λ (y : Fault). y.place) same))

-- a stage's own fault, or one behind it, where its text is that of some fields
pub onward_fault : {A B C : Type 0} (s : List ℕ) (at : ℕ) (stage : Stage A) (w : Writing A) (x : ExactAt s at stage w) (texts : w.Part → List (List ℕ)) (whole : (p : w.Part) → w.text p ≡ together (texts p))
    (next : A → ℕ → Stage B) (f : Fault)
    → onward stage next ≡ faulty f → (stage ≡ faulty f → C) → Behind w texts s at (λ a past. next a past ≡ faulty f) C → C
onward_fault {A} {B} {C} s at stage w x texts whole next f e own behind = by_stage stage refl e
  where
    by_stage : (o : Stage A) → stage ≡ o → onward o next ≡ faulty f → C
    by_stage (read a past) h g = let r = x.only a past h in opened w texts whole s at r.0 past a (λ b end. next b end ≡ faulty f) r.2 r.1 g behind
    by_stage (faulty g) h k = let same : g ≡ f = cc in own (h ∙ ap faulty same)

-- what was read is no fault
pub no_fault_lem : {A C : Type 0} {a : A} {n : ℕ} {f : Fault} → read a n ≡ faulty f → C
no_fault_lem e = absurd (let z : ◌≡◌ {A = ℕ} 0 1 = cc in omega arith)

-- that of a last stage is its own
pub last_fault : {A B C : Type 0} (stage : Stage A) (value : A → B) (f : Fault) → onward stage (λ a past. read (value a) past) ≡ faulty f → (stage ≡ faulty f → C) → C
last_fault (read a past) value f e own = no_fault_lem e
last_fault (faulty g) value f e own = let same : g ≡ f = cc in own (ap faulty same)

-- ---- a stage that halts at one of its fields

-- its fields are counted from `first`; `count` of them stand before the place, and the next one does not stand at it. `Last` is what a
-- trailer needs beside its text
pub record Halts {P : Type 0} (Are : P → Type 0) (texts : P → List (List ℕ)) (Last : P → List ℕ → Type 0) (first : ℕ) (s : List ℕ) (at : ℕ) (f : Fault) : Type 0 where
  pub parts : P
  pub are : Are parts
  pub count : ℕ
  pub short : count < length (texts parts)
  pub field : f.field ≡ first + count
  pub between : Between s at f.place (take count (texts parts))
  pub failed : (x : P) → Are x → take count (texts x) ≡ take count (texts parts) → (end : ℕ) → f.place < end → Between s f.place end (take 1 (drop count (texts x)))
      → (f.field ≡ 12 → Last x (drop end s)) → ⊥
