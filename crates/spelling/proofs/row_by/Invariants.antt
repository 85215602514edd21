-- What `spelling::row_by` keeps from turn to turn.
use mathlib.Core.List.{map}
use mathlib.Core.Path.{◌≡◌}
use lib.ListN.{drop}
use Rattle.alphabet.specs.Alphabet.{value_of}
use Rattle.nibbles.specs.Nibbles.{word}
use Rattle.spelling.proofs.row_by.Given as goal

abbrev pub invariant-loop-i : goal.invariant-loop-i
invariant-loop-i g l = l.w ≡ word (drop l.i (map value_of l.s))
