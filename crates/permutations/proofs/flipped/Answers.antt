-- `permutations::flipped` meets its contract.
use Rattle.permutations.specs.Exchanges.{flip}
use Rattle.permutations.proofs.flipped.Goals as goal

pub returns : goal.returns
unfolding flip
returns c = cc
