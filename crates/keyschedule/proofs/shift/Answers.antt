-- `keyschedule::shift` meets its contract.
use mathlib.Core.Path.{refl}
use Rattle.fips46.specs.Fips46.{shifts}
use Rattle.keyschedule.proofs.Schedule.{shifts_at}
use Rattle.keyschedule.proofs.shift.Goals as goal

pub returns : goal.returns
unfolding shifts
returns c =
    let h = shifts_at c.args.i c.requires in
    (refl, h.0, h.1)
