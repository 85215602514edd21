-- `nibbles::put_nibbles` meets its contract.
use native.Mathlib.Omega.{arith}
use mathlib.Core.Path.{◌∙◌}
use Rattle.nibbles.proofs.Lists.{over_step, over_end}
use Rattle.nibbles.proofs.Rows.{row_length, row_at_less}
use Rattle.nibbles.specs.Nibbles.{row}
use Rattle.nibbles.proofs.put_nibbles.Goals as goal

pub loop-i-preserved : goal.loop-i-preserved
loop-i-preserved c =
    let a = c.args in
    let l = c.loop-i in
    over_step (row a.n a.w) a.out.now l.out l.i c.nibble.result 0 (rw (row_length a.n a.w) (omega arith)) (omega arith) l.invariant
    (c.nibble.ensures ∙ row_at_less a.n a.w l.i (omega arith) (omega arith))

pub returns : goal.returns
returns c =
    let a = c.args in
    let l = c.loop-i in
    over_end (row a.n a.w) a.out.now l.out l.i a.n (row_length a.n a.w) (omega arith) (omega arith) l.invariant
