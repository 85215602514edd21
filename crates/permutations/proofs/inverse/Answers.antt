-- `permutations::inverse` meets its contract.
use native.Mathlib.Omega.{arith}
use Rattle.permutations.specs.Exchanges.{back}
use Rattle.permutations.proofs.Exchanges.{back_is_IP⁻¹}
use Rattle.permutations.proofs.inverse.Goals as goal

pub returns : goal.returns
unfolding back
returns c = cc (back_is_IP⁻¹ c.args.w (omega (arith, c.ranges)))
