-- `parity::is_odd` meets its contract.
use Prim.Native.Nat.{ℕ, ◌<◌}
use native.Mathlib.Omega.{arith}
use mathlib.Core.Path.{ap, ◌∙◌}
use lib.Dec.{eqb}
use Rattle.parity.specs.Parity.{is_odd}
use Rattle.parity.proofs.Laws.{folded_ones}
use Rattle.parity.proofs.is_odd.Goals as goal

pub returns : goal.returns
unfolding is_odd
returns c =
    let b = c.args.b in
    let h : b < 256 = omega (arith, c.ranges) in
    ap (λ (x : ℕ). eqb x 1) (c.fold.ensures ∙ folded_ones b h)
