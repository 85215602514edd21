-- What `des::onward` keeps from turn to turn.
use mathlib.Core.Path.{◌≡◌}
use lib.ListN.{drop}
use Rattle.fips46.specs.Fips46.{f, iterations}
use Rattle.des.proofs.onward.Given as goal

abbrev pub invariant-loop-k : goal.invariant-loop-k
invariant-loop-k l = iterations f l.ks l.initial.x ≡ iterations f (drop l.k-index l.ks) l.x
