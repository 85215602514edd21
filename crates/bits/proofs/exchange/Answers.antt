-- `bits::exchange` meets its contract.
use mathlib.Core.Path.{refl}
use Rattle.bits.specs.Exchange.{exchanged}
use Rattle.bits.proofs.exchange.Goals as goal

pub returns : goal.returns
unfolding exchanged
returns c = refl
