-- `blocks::fill_end` meets its contract.
use Prim.Native.Nat.{ℕ, ◌/◌}
use native.Mathlib.Omega.{arith}
use mathlib.Core.Path.{ap, sym, ◌∙◌}
use Rattle.nibbles.proofs.Rows.{sixteen_power}
use Rattle.blocks.proofs.Laws.{fill_whole}
use Rattle.blocks.proofs.fill_end.Goals as goal

pub overflow_shr-clear : goal.overflow_shr-clear
overflow_shr-clear c = omega (arith, c.requires.0)

pub overflow_shr-places : goal.overflow_shr-places
overflow_shr-places c = omega (arith, c.requires.0)

pub returns-then-clear-places : goal.returns-then-clear-places
returns-then-clear-places c =
    let a = c.args in
    let power = sixteen_power a.from in
    fill_whole a.clear a.from a.least (omega (arith, c.requires.0)) c.requires.1
    (ap (λ (x : ℕ). a.clear / x) (sym power) ∙ c.if-clear-places.true ∙ ap (λ (x : ℕ). 0xFFFFFFFFFFFFFFFF / x) power)

pub returns : goal.returns
returns c = c.run_end.ensures
