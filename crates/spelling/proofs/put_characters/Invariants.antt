-- What `spelling::put_characters` keeps from turn to turn.
use mathlib.Core.List.{◌++◌}
use mathlib.Core.Path.{◌≡◌}
use lib.ListN.{take, drop}
use Rattle.alphabet.specs.Alphabet.{characters}
use Rattle.nibbles.specs.Nibbles.{row}
use Rattle.spelling.proofs.put_characters.Given as goal

abbrev pub invariant-loop-i : goal.invariant-loop-i
invariant-loop-i l = l.out ≡ take l.i (characters (row l.n l.digits)) ++ drop l.i l.initial.out
