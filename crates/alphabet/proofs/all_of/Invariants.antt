-- What `alphabet::all_of` keeps from turn to turn.
use mathlib.Core.Path.{◌≡◌}
use mathlib.Core.Bool.{◌&&◌}
use lib.ListN.{drop}
use Rattle.alphabet.specs.Alphabet.{all_of}
use Rattle.alphabet.proofs.all_of.Given as goal

abbrev pub invariant-loop-c : goal.invariant-loop-c
invariant-loop-c l = all_of l.class l.c-items ≡ (l.good && all_of l.class (drop l.c-index l.c-items))
