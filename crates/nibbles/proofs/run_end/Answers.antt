-- `nibbles::run_end` meets its contract.
use native.Mathlib.Nat.{add-zero}
use native.Mathlib.Omega.{arith}
use mathlib.Core.Path.{◌≡◌, sym, ◌∙◌}
use mathlib.Core.Bool.{false}
use lib.ListN.{get_or}
use Rattle.nibbles.proofs.Rows.{row_length}
use Rattle.nibbles.proofs.Runs.{run_stop, run_on, run_over, under, over, inside}
use Rattle.nibbles.specs.Nibbles.{row, within}
use Rattle.nibbles.proofs.run_end.Goals as goal
use Rattle.nibbles.proofs.run_end.Goals.{then-n-low-via-then-n-low, then-n-low-via-else-n-low+then-high-n}

pub returns-then-n-low : goal.returns-then-n-low
returns-then-n-low c =
    let a = c.args in
    let l = c.loop-i in
    let outside : within a.low a.high (get_or (row 16 a.w) l.i 0) ≡ false =
    elim c.then-n-low.branch [
      | then-n-low-via-then-n-low w ↦ under a.low a.high _ (rw c.nibble-n.ensures at w.if-n-low.true)
      | then-n-low-via-else-n-low+then-high-n w ↦ over a.low a.high _ (rw c.nibble-n.ensures at w.if-high-n.true)
    ] in
    let fewer = run_stop (within a.low a.high) (row 16 a.w) l.i a.to (omega arith) (rw (row_length 16 a.w) (omega arith)) outside in
    omega (arith, l.invariant)

pub loop-i-preserved : goal.loop-i-preserved
loop-i-preserved c =
    let a = c.args in
    let l = c.loop-i in
    let more = run_on (within a.low a.high) (row 16 a.w) l.i a.to (omega arith) (rw (row_length 16 a.w) (omega arith))
    (inside a.low a.high _ (rw c.nibble-n.ensures at c.if-n-low.false) (rw c.nibble-n.ensures at c.if-high-n.false)) in
    omega (arith, l.invariant)

pub returns : goal.returns
returns c =
    let a = c.args in
    let l = c.loop-i in
    let end : l.i ≡ a.to = omega arith in
    let none = run_over (within a.low a.high) (row 16 a.w) a.to in
    sym (l.invariant ∙ rw (end, none) (add-zero a.to))
