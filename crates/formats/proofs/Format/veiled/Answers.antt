-- `formats::Format::veiled` meets its contract.
use Prim.Native.Nat.{ℕ}
use native.Mathlib.Omega.{arith}
use mathlib.Core.Path.{◌≡◌, refl}
use mathlib.Core.Bool.{false}
use Rattle.formats.specs.declared.Format.{Format}
use Rattle.formats.specs.declared.Format.TheVariants.{F01, F03, F05, F34, F35, F47}
use Rattle.formats.specs.Formats.{veiled}
use Rattle.formats.proofs.Format.veiled.Goals as goal

-- a format as a number, so that a refusal names the one that is left
abbrev number : Format → ℕ
number F01 = 1
number F03 = 3
number F05 = 5
number F34 = 34
number F35 = 35
number F47 = 47

-- written out: veil_left_on_35 falls by it, at 35
pub returns-in_default : goal.returns-in_default
returns-in_default c = each c.args.self refl refl
  where
    each : (f : Format) → c.args.self ≡ f → number c.args.self ≡ number f → false ≡ veiled f
    each F01 e n = absurd (omega arith)
    each F03 e n = refl
    each F05 e n = refl
    each F34 e n = refl
    each F35 e n = absurd (omega arith)
    each F47 e n = absurd (omega arith)
