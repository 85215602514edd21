-- What `nibbles::row_of` keeps from turn to turn.
use mathlib.Core.Path.{◌≡◌}
use lib.ListN.{take}
use Rattle.nibbles.proofs.Bytes.{gathered}
use Rattle.nibbles.proofs.row_of.Given as goal

abbrev pub invariant-loop-i : goal.invariant-loop-i
invariant-loop-i l = l.w ≡ gathered (take l.i l.bytes)
