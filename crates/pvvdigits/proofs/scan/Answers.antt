-- `pvvdigits::scan` meets its contract.
use Prim.Native.Nat.{◌<◌}
use native.Mathlib.Omega.{arith}
use mathlib.Core.Path.{refl, ap, ◌∙◌}
use lib.ListN.{drop, drop_of_length-le}
use Rattle.pvvdigits.proofs.Laws.{found, found_nil, taken_kept, step_taken, step_rest}
use Rattle.pins.specs.Answers.{pin_of}
use Rattle.nibbles.proofs.Rows.{row_length, row_below, row_at_lt}
use Rattle.nibbles.specs.Nibbles.{row}
use Rattle.pvvdigits.proofs.scan.Goals as goal

pub loop-i-init : goal.loop-i-init
loop-i-init c = (c.requires.0, refl)

pub step-taken-requires : goal.step-taken-requires
step-taken-requires c = (c.loop-i.invariant.0, omega (arith, row_at_lt c.args.enciphered c.loop-i.i, c.nibble.ensures), c.requires.1)

pub loop-i-preserved : goal.loop-i-preserved
loop-i-preserved c =
    let a = c.args in
    let l = c.loop-i in
    let ns = row 16 a.enciphered in
    let n = c.nibble.result in
    let small : n < 16 = omega (arith, row_at_lt a.enciphered l.i, c.nibble.ensures) in (
      step_taken a.low a.high a.less ns (row_below 16 a.enciphered) l.taken c.step-taken.result l.i (rw (row_length 16 a.enciphered) (omega arith)) n c.nibble.ensures small c.step-taken.ensures,
      step_rest a.low a.high a.less ns (row_below 16 a.enciphered) l.taken c.step-taken.result l.i (rw (row_length 16 a.enciphered) (omega arith)) n c.nibble.ensures small c.step-taken.ensures ∙ l.invariant.1,
    )

pub returns : goal.returns
returns c =
    let a = c.args in
    let l = c.loop-i in
    let none = ap (found a.low a.high a.less) (drop_of_length-le (row 16 a.enciphered) {i = l.i} (rw (row_length 16 a.enciphered) (omega arith))) ∙ found_nil a.low a.high a.less in
    taken_kept l.taken (found a.low a.high a.less (drop l.i (row 16 a.enciphered))) l.invariant.0 none ∙ ap pin_of l.invariant.1
