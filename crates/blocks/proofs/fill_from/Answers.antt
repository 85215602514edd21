-- `blocks::fill_from` meets its contract.
use Prim.Native.Nat.{ℕ, ◌-◌}
use native.Mathlib.Omega.{arith}
use mathlib.Core.Path.{◌≡◌, ap, ◌∙◌}
use lib.Dec.{lit≤}
use lib.ListN.{drop}
use Rattle.blocks.proofs.Laws.{filled_row, filled_row_below, filled_length, filled_at, filled_none, filled_from}
use Rattle.nibbles.proofs.Rows.{word_next, word_room}
use Rattle.formats.specs.Formats.{filled}
use Rattle.nibbles.specs.Nibbles.{word}
use Rattle.blocks.proofs.fill_from.Goals as goal

pub loop-i-init : goal.loop-i-init
loop-i-init c = (c.requires, filled_none c.args.kind c.args.fill)

pub overflow_mul-w : goal.overflow_mul-w
overflow_mul-w c =
    let l = c.loop-i in
    let a = c.args in
    omega (arith, word_room (filled_row a.kind a.fill) l.i l.w (omega arith) (rw (filled_length a.kind a.fill) (omega arith)) l.invariant.1 (filled_row_below a.kind a.fill) (rw (filled_length a.kind a.fill) (lit≤ tt)))

pub overflow_add-w : goal.overflow_add-w
overflow_add-w c =
    let l = c.loop-i in
    let a = c.args in
    let v = c.filled.ensures ∙ ap (filled a.kind) c.nibble.ensures ∙ filled_at a.kind a.fill (l.i - 1) (omega arith) in
    rw v (record { fits = word_room (filled_row a.kind a.fill) l.i l.w (omega arith) (rw (filled_length a.kind a.fill) (omega arith)) l.invariant.1 (filled_row_below a.kind a.fill) (rw (filled_length a.kind a.fill) (lit≤ tt)) })

pub loop-i-preserved : goal.loop-i-preserved
loop-i-preserved c =
    let l = c.loop-i in
    let a = c.args in
    let v = c.filled.ensures ∙ ap (filled a.kind) c.nibble.ensures ∙ filled_at a.kind a.fill (l.i - 1) (omega arith) in
    (omega arith, rw v (word_next (filled_row a.kind a.fill) l.i l.w (omega arith) (rw (filled_length a.kind a.fill) (omega arith)) l.invariant.1))

pub returns : goal.returns
returns c =
    let l = c.loop-i in
    let a = c.args in
    let end : l.i ≡ a.from = omega arith in
    l.invariant.1 ∙ ap (λ (k : ℕ). word (drop k (filled_row a.kind a.fill))) end ∙ ap word (filled_from a.kind a.fill a.from)
