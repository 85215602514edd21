-- What `nibbles::put_nibbles` keeps from turn to turn.
use mathlib.Core.List.{◌++◌}
use mathlib.Core.Path.{◌≡◌}
use lib.ListN.{take, drop}
use Rattle.nibbles.specs.Nibbles.{row}
use Rattle.nibbles.proofs.put_nibbles.Given as goal

abbrev pub invariant-loop-i : goal.invariant-loop-i
invariant-loop-i l = l.out ≡ take l.i (row l.n l.w) ++ drop l.i l.initial.out
