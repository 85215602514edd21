-- A promise of the one shape admits one answer, and how a call meets it.
-- Assumes nothing.
use Prim.Native.Nat.{ℕ}
use native.Mathlib.Omega.{arith}
use mathlib.Core.Path.{◌≡◌, refl, sym, ap, ap₂, ◌∙◌, subst}
use mathlib.Core.List.{List, [], ◌++◌}
use Rattle.std.specs.Prelude.{Ok, Err}
use mathlib.Core.Bool.{Bool, true, false}
use lib.ListN.{length, drop}
use Rattle.numbers.specs.Numbers.{Judged, Outcome, done, refused, and_then, unless, number_of}
use Rattle.numbers.specs.Promise.{Said, Does, quietly}
use Rattle.numbers.specs.Answers.{result_of, verdict_of, verdict_says}
use Rattle.numbers.specs.declared.Refusal.{Refusal}
use Rattle.numbers.specs.declared.Reply.{Reply}

-- no second answer: what a call says and the buffer it was lent settle its reply and the buffer it leaves
pub once : {A : Type 0} {said : Said A} {before after after' : List A} {r r' : Reply} → Does said before r after → Does said before r' after' → (r ≡ r') × (after ≡ after')
once d e = (
  ap₂ (λ (n w : ℕ). record { number = n; written = w }) (d.number ∙ sym e.number) (d.count ∙ sym e.count),
  d.buffer ∙ sym e.buffer,
)

-- a refusal that left the buffer alone
pub does_refuse : {A : Type 0} (o : Outcome (List A)) (q : Refusal) (before : List A) (r : Reply) → o ≡ refused q → r.number ≡ number_of q → r.written ≡ 0 → Does (quietly o) before r before
does_refuse o q before r e n w = rw e (record { number = n; count = w; buffer = refl })

-- a value that was written over the beginning
pub does_write : {A : Type 0} (o : Outcome (List A)) (ws before after : List A) (r : Reply) → o ≡ done ws → r.number ≡ 0 → r.written ≡ length ws → after ≡ ws ++ drop (length ws) before → Does (quietly o) before r after
does_write o ws before after r e n w b = rw e (record { number = n; count = w; buffer = b })

-- a chain that came to a value passed its first judgement
pub then_done : {Q A B : Type 0} (o : Judged Q A) (next : A → Judged Q B) (b : B) → and_then o next ≡ done b → (a : A) × (o ≡ done a) × (next a ≡ done b)
then_done (done a) next b e = (a, refl, e)
then_done (refused q) next b e = absurd (let z : ◌≡◌ {A = ℕ} 0 1 = cc in omega arith)

-- a judgement that passed, and one that did not
pub passed : {A : Type 0} (q : Refusal) (holds : Bool) (a b : A) → unless q holds a ≡ done b → (holds ≡ true) × (a ≡ b)
passed q true a b e = (refl, cc)
passed q false a b e = absurd (let z : ◌≡◌ {A = ℕ} 0 1 = cc in omega arith)

pub failed : {A : Type 0} (q p : Refusal) (holds : Bool) (a : A) → unless q holds a ≡ refused p → (holds ≡ false) × (unless q holds a ≡ refused q)
failed q p true a e = absurd (let z : ◌≡◌ {A = ℕ} 0 1 = cc in omega arith)
failed q p false a e = (refl, refl)

pub value_of_lem : {Q A : Type 0} {a b : A} → ◌≡◌ {A = Judged Q A} (done a) (done b) → a ≡ b
value_of_lem e = cc

-- the same outcome by another name
pub does_as : {A : Type 0} (o o' : Outcome (List A)) {before after : List A} {r : Reply} → o ≡ o' → Does (quietly o) before r after → Does (quietly o') before r after
does_as {A} o o' {before} {after} {r} e d = subst (λ (x : Outcome (List A)). Does (quietly x) before r after) e d

-- ---- behind an answer of the code

-- it holds a value
pub result_ok : {Q A B : Type 0} (held : A → B) (o : Judged Q A) (b : B) → Ok b ≡ result_of held o → (a : A) × (o ≡ done a) × (b ≡ held a)
result_ok held (done a) b e = (a, refl, cc)
result_ok held (refused q) b e = absurd (let z : ◌≡◌ {A = ℕ} 0 1 = cc in omega arith)

-- it holds a fault
pub result_err : {Q A B : Type 0} (held : A → B) (o : Judged Q A) (q : Q) → Err q ≡ result_of held o → o ≡ refused q
result_err held (done a) q e = absurd (let z : ◌≡◌ {A = ℕ} 0 1 = cc in omega arith)
result_err held (refused p) q e = cc

-- where 00 writes nothing, the verdict says what was judged
pub verdict_said : (o : Outcome (List ℕ)) → ((ws : List ℕ) → o ≡ done ws → ws ≡ []) → verdict_says (verdict_of o) ≡ o
verdict_said (done ws) nothing = ap done (sym (nothing ws refl))
verdict_said (refused q) nothing = refl
