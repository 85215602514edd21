-- What `classroom::hex` keeps from turn to turn.
use mathlib.Core.List.{◌++◌, map}
use mathlib.Core.Path.{◌≡◌}
use lib.ListN.{take, drop}
use Rattle.nibbles.specs.Nibbles.{row}
use Rattle.classroom.specs.Text.{character_of}
use Rattle.classroom.proofs.hex.Given as goal

abbrev pub invariant-loop-i : goal.invariant-loop-i
invariant-loop-i l = l.text ≡ take l.i (map character_of (row 16 l.row)) ++ drop l.i l.initial.text
