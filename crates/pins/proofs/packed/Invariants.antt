-- What `pins::packed` keeps from turn to turn.
use mathlib.Core.Bool.{true}
use mathlib.Core.Path.{◌≡◌}
use lib.ListN.{drop}
use Rattle.pins.specs.Pins.{digit}
use Rattle.nibbles.specs.Nibbles.{word, every}
use Rattle.pins.proofs.packed.Given as goal

abbrev pub invariant-loop-i : goal.invariant-loop-i
invariant-loop-i l = (l.w ≡ word (drop l.i l.digits)) × (every digit (drop l.i l.digits) ≡ true)
