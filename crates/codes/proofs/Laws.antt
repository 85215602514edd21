-- What an answer tells of the outcome behind it.
-- Assumes nothing.
use Prim.Native.Nat.{ℕ}
use native.Mathlib.Omega.{arith}
use mathlib.Core.Path.{◌≡◌, refl}
use mathlib.Core.Bool.{true, false≢true}
use Rattle.numbers.specs.Numbers.{Outcome, done, refused}
use Rattle.numbers.specs.declared.Refusal.{Refusal}
use Rattle.formats.specs.declared.Format.{Format}
use Rattle.numbers.specs.declared.Refusal.TheVariants.{NotHere69}
use Rattle.codes.specs.declared.Code.{Code}
use Rattle.codes.specs.declared.Code.TheVariants.{Built, Known, Unknown}
use Rattle.codes.specs.Codes.{is_known, format_of}

-- a known code that names no format here is 69
pub not_here : (k : Code) (q : Refusal) → is_known k ≡ true → format_of k ≡ refused q → format_of k ≡ refused NotHere69
not_here (Built f) q h e = absurd (let z : ◌≡◌ {A = ℕ} 0 1 = cc in omega arith)
not_here Known q h e = refl
not_here Unknown q h e = absurd (false≢true h)
