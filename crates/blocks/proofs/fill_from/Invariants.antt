-- What `blocks::fill_from` keeps from turn to turn.
use Prim.Native.Nat.{◌≤◌}
use mathlib.Core.Path.{◌≡◌}
use lib.ListN.{drop}
use Rattle.blocks.proofs.Laws.{filled_row}
use Rattle.nibbles.specs.Nibbles.{word}
use Rattle.blocks.proofs.fill_from.Given as goal

abbrev pub invariant-loop-i : goal.invariant-loop-i
invariant-loop-i l = (l.from ≤ l.i) × (l.w ≡ word (drop l.i (filled_row l.kind l.fill)))
