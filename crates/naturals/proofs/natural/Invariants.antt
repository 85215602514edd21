-- What `naturals::natural` keeps from turn to turn.
use mathlib.Core.List.{map}
use mathlib.Core.Path.{◌≡◌}
use lib.ListN.{drop}
use Rattle.alphabet.specs.Alphabet.{value_of}
use Rattle.naturals.specs.Naturals.{natural_of}
use Rattle.nibbles.specs.Nibbles.{row, word}
use Rattle.naturals.proofs.natural.Given as goal

abbrev pub invariant-loop-i : goal.invariant-loop-i
invariant-loop-i l = l.w ≡ word (drop l.i (natural_of l.n (map value_of l.table) (row 16 l.enciphered)))
