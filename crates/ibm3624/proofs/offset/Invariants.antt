-- What `ibm3624::offset` keeps from turn to turn.
use mathlib.Core.Path.{◌≡◌}
use lib.ListN.{drop}
use Rattle.ibm3624.specs.Ibm3624.{offset_of}
use Rattle.nibbles.specs.Nibbles.{row, word}
use Rattle.ibm3624.proofs.offset.Given as goal

abbrev pub invariant-loop-i : goal.invariant-loop-i
invariant-loop-i l = l.w ≡ word (drop l.i (offset_of l.m (row l.n l.pin) (row l.n l.natural)))
