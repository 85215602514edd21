-- What `weak::lists` keeps from turn to turn.
use Prim.Native.Nat.{◌+◌, ◌-◌, ◌*◌}
use mathlib.Core.Path.{◌≡◌}
use lib.ListN.{drop}
use Rattle.weak.specs.Answers.{lists}
use Rattle.weak.proofs.lists.Given as goal

abbrev pub invariant-loop-i : goal.invariant-loop-i
invariant-loop-i l =
    lists l.text l.weak.count l.weak.length (drop l.weak.list l.command) ≡ lists l.text (l.weak.count - l.i) l.weak.length (drop (l.weak.list + l.i * l.weak.length) l.command)
