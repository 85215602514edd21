-- What the host hears of a ruling.
-- Assumes nothing.
use Prim.Native.Nat.{ℕ}
use native.Mathlib.Omega.{arith}
use mathlib.Core.Path.{◌≡◌, refl, ap}
use Rattle.numbers.specs.Numbers.{Outcome, done, refused, and_then}
use Rattle.numbers.specs.declared.Refusal.{Refusal}
use Rattle.numbers.proofs.Laws.{value_of_lem}
use Rattle.fields.specs.declared.Fault.{Fault}
use Rattle.fields.specs.Fields.{Ruling, pointing, heard}

-- judgement after judgement
pub heard_then : {A B : Type 0} (o : Ruling A) (next : A → Ruling B) → heard (and_then o next) ≡ and_then (heard o) (λ a. heard (next a))
heard_then (done a) next = refl
heard_then (refused f) next = refl

-- wherever it points
pub heard_pointing : {A : Type 0} (which at : ℕ) (o : Outcome A) → heard (pointing which at o) ≡ o
heard_pointing which at (done a) = refl
heard_pointing which at (refused q) = refl

-- a value is the same wherever its refusal would point
pub pointing_done : {A : Type 0} (which at : ℕ) (o : Outcome A) (a : A) → pointing which at o ≡ done a → o ≡ done a
pointing_done which at (done b) a e = ap done (value_of_lem e)
pointing_done which at (refused q) a e = absurd (let z : ◌≡◌ {A = ℕ} 0 1 = cc in omega arith)

-- and heard as it is
pub heard_done : {A : Type 0} (o : Ruling A) (a : A) → heard o ≡ done a → o ≡ done a
heard_done (done b) a e = ap done (value_of_lem e)
heard_done (refused f) a e = absurd (let z : ◌≡◌ {A = ℕ} 0 1 = cc in omega arith)

-- what is heard as a refusal has a fault with that refusal
pub heard_refused : {A : Type 0} (o : Ruling A) (q : Refusal) → heard o ≡ refused q → (f : Fault) × (o ≡ refused f) × (f.refusal ≡ q)
heard_refused (done a) q e = absurd (let z : ◌≡◌ {A = ℕ} 0 1 = cc in omega arith)
heard_refused (refused f) q e = (f, refl, cc)
