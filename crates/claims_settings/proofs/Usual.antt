-- Settings as the server is handed them and hands them in, computed.
-- Assumes nothing.
use Prim.Native.Nat.{ℕ, suc}
use native.Mathlib.Omega.{arith}
use mathlib.Core.Path.{◌≡◌, refl}
use mathlib.Core.Bool.{true}
use borrow.Author.Tests.{ne_eqb}
use Rattle.face.specs.Face.{yes?}
use Rattle.claims_settings.specs.Usual.{UsualShown, FlagsShown, FlagsTaken}

pub usual_shown : UsualShown
usual_shown = refl

pub flags_shown : FlagsShown
flags_shown header = (refl, refl, refl, refl)

-- any byte but 0
other_than_0 : (n : ℕ) → yes? (suc n) ≡ true
other_than_0 n = rw (ne_eqb (suc n) 0 (λ e. omega (arith, e)))

pub flags_taken : FlagsTaken
flags_taken header m n = (rw (other_than_0 m, other_than_0 n), rw (other_than_0 m), rw (other_than_0 n), refl)
