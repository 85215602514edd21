-- `cipherfunction::edges` meets its contract.
use mathlib.Core.Path.{refl}
use Rattle.cipherfunction.specs.Windows.{edged}
use Rattle.cipherfunction.proofs.edges.Goals as goal

pub returns : goal.returns
unfolding edged
returns c = refl
