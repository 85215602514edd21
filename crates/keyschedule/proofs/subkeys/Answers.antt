-- `keyschedule::subkeys` meets its contract.
use Prim.Native.Nat.{ℕ, ◌/◌, ◌%◌, ◌^◌, ◌<◌}
use native.Mathlib.Nat.{mod-lt}
use native.Mathlib.Omega.{arith}
use mathlib.Core.Path.{refl, ap, ◌∙◌}
use lib.Pow.{shr_lt}
use Rattle.fips46.specs.Fips46.{shifts, scheduled, KS}
use Rattle.keyschedule.proofs.Schedule.{scheduled_next, scheduled_end, PC1-lt}
use Rattle.keyschedule.proofs.subkeys.Goals as goal

pub loop-i-init : goal.loop-i-init
loop-i-init c =
    let w = c.choice1-chosen.result in
    let h : w < 2 ^ 56 = rw c.choice1-chosen.ensures (PC1-lt c.args.key) in
    (shr_lt 28 28 h, mod-lt w (omega arith), refl)

pub loop-i-preserved : goal.loop-i-preserved
unfolding shifts
loop-i-preserved c =
    let l = c.loop-i in
    let left = c.rotate-c in
    let right = c.rotate-d in (
      left.ensures.1,
      right.ensures.1,
      scheduled_next shifts l.k-items _ l.i l.c l.d c.shift-n.result left.result right.result _
          (omega arith) (omega arith) l.invariant.2 c.shift-n.ensures.0 left.ensures.0 right.ensures.0 c.choice2.ensures,
    )

pub returns : goal.returns
unfolding KS
returns c =
    let l = c.loop-i in
    scheduled_end l.k-items _ l.i l.c l.d (omega arith) (omega arith) l.invariant.2
    ∙ ap (λ (x : ℕ). scheduled shifts (x / 2 ^ 28) (x % 2 ^ 28)) c.choice1-chosen.ensures
