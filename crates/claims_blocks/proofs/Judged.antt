-- What a judgement that found no fault has judged, and for what one is refused.
-- Assumes nothing.
use Prim.Native.Nat.{ℕ}
use native.Mathlib.Omega.{arith}
use mathlib.Core.Path.{◌≡◌, refl, ap, subst}
use mathlib.Core.Logic.{◌⊎◌, inl, inr, ⊎_elim}
use mathlib.Core.List.{List}
use mathlib.Core.Bool.{Bool, true, false}
use Rattle.numbers.specs.Numbers.{Outcome, done, refused, and_then, unless}
use Rattle.numbers.specs.declared.Refusal.{Refusal}
use Rattle.numbers.specs.declared.Refusal.TheVariants.{Block20, Length24}
use Rattle.claims_blocks.specs.Claims.{ForContents}

-- nothing is both refused and done
not_both : {A : Type 0} (o : Outcome A) (q : Refusal) (a : A) → o ≡ refused q → o ≡ done a → ⊥
not_both o q a h k = let z : ◌≡◌ {A = ℕ} 0 1 = cc in omega arith

-- where all is done and a test came first, the test held
pub judged : {A B : Type 0} (q : Refusal) (t : Bool) (a : A) (next : A → Outcome B) (b : B) → and_then (unless q t a) next ≡ done b → (t ≡ true) × (next a ≡ done b)
judged q true a next b h = (refl, h)
judged q false a next b h = absurd (not_both (refused q) q b refl h)

-- ---- for what a judgement is refused

-- for no other reason than these
abbrev pub Only : {A : Type 0} → (Refusal → Type 0) → Outcome A → Type 0
Only these o = (q : Refusal) → o ≡ refused q → these q

module _ (these : Refusal → Type 0) where
  pub done_only : {A : Type 0} (a : A) → Only these (done a)
  done_only a p e = absurd (not_both (done a) p a e refl)

  pub refused_only : {A : Type 0} (q : Refusal) → these q → Only {A = A} these (refused q)
  refused_only q c p e = subst these (cc) c

  pub test_only : {A : Type 0} (q : Refusal) → these q → (t : Bool) (a : A) → Only these (unless q t a)
  test_only q c true a = done_only a
  test_only q c false a = refused_only q c

  pub then_only : {A B : Type 0} (o : Outcome A) (next : A → Outcome B) → Only these o → ((a : A) → Only these (next a)) → Only these (and_then o next)
  then_only (done a) next c n q e = n a q e
  then_only (refused p) next c n q e = c q (let same : p ≡ q = cc in ap refused same)

-- contents: 20 and 24
abbrev pub Fault : Refusal → Type 0
Fault q = (q ≡ Block20) ⊎ (q ≡ Length24)

-- what is judged so is done or refused for its contents
pub decided : (o : Outcome (List ℕ)) → Only Fault o → ((ds : List ℕ) × (o ≡ done ds)) ⊎ ForContents o
decided (done ds) c = inl (ds, refl)
decided (refused q) c = inr (go (c q refl))
  where
    go : Fault q → ForContents (refused q)
    go (inl e) = inl (ap refused e)
    go (inr e) = inr (ap refused e)

pub not_done : (o : Outcome (List ℕ)) → Only Fault o → ((ds : List ℕ) → o ≡ done ds → ⊥) → ForContents o
not_done o c h = ⊎_elim (λ d. absurd (h d.0 d.1)) (λ r. r) (decided o c)

-- and never both
pub not_refused : (o : Outcome (List ℕ)) (ds : List ℕ) → ForContents o → o ≡ done ds → ⊥
not_refused o ds (inl e) h = not_both o Block20 ds e h
not_refused o ds (inr e) h = not_both o Length24 ds e h
