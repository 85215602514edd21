-- What is behind the fields' answer.
-- Assumes nothing.
use Prim.Native.Nat.{ℕ}
use native.Mathlib.Omega.{arith}
use mathlib.Core.Path.{◌≡◌}
use Rattle.std.specs.Prelude.{Ok, Err}
use Rattle.fields.specs.Fields.{Stage, read, faulty}
use Rattle.fields.specs.declared.Fault.{Fault}
use Rattle.bkfields.specs.Answers.{bk_read}
use Rattle.bkfields.specs.declared.Bk.{Bk}

pub fields_found : (o : Stage Bk) (p : Bk) → Ok p ≡ bk_read o → (past : ℕ) × (o ≡ read p past)
fields_found (read x past) p e = (past, (let h : x ≡ p = cc in rw h))
fields_found (faulty f) p e = absurd (let z : ◌≡◌ {A = ℕ} 0 1 = cc in omega arith)

pub fields_bad : (o : Stage Bk) (f : Fault) → Err f ≡ bk_read o → o ≡ faulty f
fields_bad (read x past) f e = absurd (let z : ◌≡◌ {A = ℕ} 0 1 = cc in omega arith)
fields_bad (faulty g) f e = cc
