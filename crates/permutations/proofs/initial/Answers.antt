-- `permutations::initial` meets its contract.
use native.Mathlib.Omega.{arith}
use Rattle.permutations.specs.Exchanges.{onward}
use Rattle.permutations.proofs.Exchanges.{onward_is_IP}
use Rattle.permutations.proofs.initial.Goals as goal

pub returns : goal.returns
unfolding onward
returns c = cc (onward_is_IP c.args.w (omega (arith, c.ranges)))
