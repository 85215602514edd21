-- `offsettexts::put_offset` meets its contract.
use Rattle.std.proofs.Common.{arith}
use Rattle.std.proofs.lemmas.Grind.{common_steps}
use Rattle.offsettexts.proofs.put_offset.Goals as goal

-- written out: fill_that_tells_a_digit falls by it
pub returns : goal.returns
returns c = grind (arith, common_steps)
