-- What `bits::look_up` keeps from turn to turn.
use mathlib.Core.Path.{◌≡◌}
use Rattle.bits.specs.Nibbled.{looked}
use Rattle.bits.proofs.look_up.Given as goal

abbrev pub invariant-loop-i : goal.invariant-loop-i
invariant-loop-i l = l.sum ≡ looked l.table l.i l.w
