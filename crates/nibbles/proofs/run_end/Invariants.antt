-- What `nibbles::run_end` keeps from turn to turn.
use Prim.Native.Nat.{◌+◌}
use mathlib.Core.Path.{◌≡◌}
use lib.Seq.{slice}
use lib.ListN.{length}
use Rattle.nibbles.specs.Nibbles.{row, within, leading}
use Rattle.nibbles.proofs.run_end.Given as goal

abbrev pub invariant-loop-i : goal.invariant-loop-i
invariant-loop-i l =
    l.from + length (leading (within l.low l.high) (slice l.from l.to (row 16 l.w))) ≡ l.i + length (leading (within l.low l.high) (slice l.i l.to (row 16 l.w)))
