-- `permutations::choice1` meets its contract.
use native.Mathlib.Omega.{arith}
use mathlib.Core.Path.{ap, ◌∙◌}
use Rattle.permutations.specs.Exchanges.{arranged}
use Rattle.permutations.proofs.Exchanges.{choice_is_PC1}
use Rattle.permutations.proofs.choice1.Goals as goal

pub returns : goal.returns
unfolding arranged
returns c = ap arranged c.flipped-x.ensures ∙ choice_is_PC1 c.args.key (omega (arith, c.ranges))
