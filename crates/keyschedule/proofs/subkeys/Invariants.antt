-- What `keyschedule::subkeys` keeps from turn to turn.
use Prim.Native.Nat.{◌^◌, ◌<◌}
use mathlib.Core.List.{◌++◌}
use mathlib.Core.Path.{◌≡◌}
use lib.ListN.{take, drop}
use Rattle.fips46.specs.Fips46.{shifts, scheduled}
use Rattle.keyschedule.proofs.subkeys.Given as goal

-- what is made of the blocks and what is to come are all of them
abbrev pub invariant-loop-i : goal.invariant-loop-i
invariant-loop-i l =
    (l.c < 2 ^ 28) × (l.d < 2 ^ 28) × (take l.i l.k-items ++ scheduled (drop l.i shifts) l.c l.d ≡ scheduled shifts l.initial.c l.initial.d)
