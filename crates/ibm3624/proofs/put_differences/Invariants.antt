-- What `ibm3624::put_differences` keeps from turn to turn.
use mathlib.Core.List.{◌++◌}
use mathlib.Core.Path.{◌≡◌}
use lib.ListN.{take, drop}
use Rattle.ibm3624.specs.Ibm3624.{covered}
use Rattle.nibbles.specs.Nibbles.{row}
use Rattle.ibm3624.proofs.put_differences.Given as goal

abbrev pub invariant-loop-i : goal.invariant-loop-i
invariant-loop-i l = l.d-items ≡ take l.i (covered l.m (row l.n l.pin) (row l.n l.natural)) ++ drop l.i l.initial.d-items
