-- `bits::look_up` meets its contract.
use mathlib.Core.Path.{refl}
use Rattle.bits.specs.Nibbled.{looked}
use Rattle.bits.proofs.Nibbled.{looked_next}
use Rattle.bits.proofs.look_up.Goals as goal

pub loop-i-init : goal.loop-i-init
unfolding looked
loop-i-init c = refl

pub loop-i-preserved : goal.loop-i-preserved
loop-i-preserved c = rw (c.nibble_at.ensures.0, c.loop-i.invariant, looked_next)
