-- What is behind the fields' answer.
-- Assumes nothing.
use Prim.Native.Nat.{ℕ}
use native.Mathlib.Omega.{arith}
use mathlib.Core.Path.{◌≡◌}
use Rattle.std.specs.Prelude.{Ok, Err}
use Rattle.fields.specs.Fields.{Stage, read, faulty}
use Rattle.fields.specs.declared.Fault.{Fault}
use Rattle.fields.proofs.Laws.{stage_ok, stage_err, found_ok, found_err, field_found, field_bad}
use Rattle.verifyfields.specs.Answers.{verification_read}
use Rattle.verifyfields.specs.declared.Verification.{Verification}

pub fields_found : (o : Stage Verification) (v : Verification) → Ok v ≡ verification_read o → (past : ℕ) × (o ≡ read v past)
fields_found (read x past) v e = (past, (let h : x ≡ v = cc in rw h))
fields_found (faulty f) v e = absurd (let z : ◌≡◌ {A = ℕ} 0 1 = cc in omega arith)

pub fields_bad : (o : Stage Verification) (f : Fault) → Err f ≡ verification_read o → o ≡ faulty f
fields_bad (read x past) f e = absurd (let z : ◌≡◌ {A = ℕ} 0 1 = cc in omega arith)
fields_bad (faulty g) f e = cc

-- what reading the fields takes
pub ruleset stages_read = (stage_ok, stage_err, found_ok, found_err, field_found, field_bad)
