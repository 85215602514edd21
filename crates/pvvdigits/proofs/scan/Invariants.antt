-- What `pvvdigits::scan` keeps from turn to turn.
use mathlib.Core.List.{◌++◌}
use mathlib.Core.Path.{◌≡◌}
use lib.ListN.{take, drop}
use Rattle.pvvdigits.proofs.Laws.{found}
use Rattle.pvvdigits.specs.Answers.{Taken}
use Rattle.answers.specs.Answers.{digits_of}
use Rattle.nibbles.specs.Nibbles.{row}
use Rattle.pvvdigits.proofs.scan.Given as goal

abbrev pub invariant-loop-i : goal.invariant-loop-i
invariant-loop-i l = Taken l.taken × (take 4 (digits_of l.taken ++ found l.low l.high l.less (drop l.i (row 16 l.enciphered))) ≡ take 4 (digits_of l.initial.taken ++ found l.low l.high l.less (row 16 l.enciphered)))
