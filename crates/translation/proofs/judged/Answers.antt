-- `translation::judged` meets its contract.
use Prim.Native.Nat.{ℕ}
use mathlib.Core.List.{List}
use mathlib.Core.Path.{sym, ap, ap₂, ◌∙◌}
use borrow.Author.Tests.{le-leb}
use Rattle.pairs.specs.Pairs.{pair_of}
use Rattle.translation.specs.Translation.{carried_block, translate_block}
use Rattle.answers.specs.Answers.{block_of}
use Rattle.numbers.specs.Numbers.{done}
use Rattle.numbers.proofs.Laws.{result_ok}
use Rattle.pins.proofs.Laws.{sized_held, account_held, account_row, block_row}
use Rattle.pins.specs.Answers.{row_of}
use Rattle.pins.specs.Pins.{account_field, sized}
use Rattle.nibbles.proofs.Bytes.{bytes_below}
use Rattle.nibbles.specs.Nibbles.{nibs, row}
use Rattle.translation.proofs.judged.Goals as goal

pub returns : goal.returns
unfolding translate_block
returns c =
    let a = c.args in
    let e = c.sized_row.ensures ∙ ap (λ (n : ℕ). row_of (sized n a.block.now)) c.block_width-2.ensures in
    let s = sized_held 8 a.block.now c.sized_row.result e _ c.in_ok-row.was in
    let k = account_held a.account.now c.account.result c.account.ensures _ c.in_ok-digits.was in
    let l = sized_held 8 a.fill.now c.sized_row-2.result c.sized_row-2.ensures _ c.in_ok-filler.was in
    let p = result_ok (λ f. f) (pair_of a.settings.restricted a.from a.to) _ (sym c.in_ok-read.was ∙ c.pair.ensures) in
    let block = block_row a.block.now (nibs a.block.now) _ s.0 (bytes_below a.block.now c.type_inv.block) s.1 in
    let fill = block_row a.fill.now (nibs a.fill.now) _ l.0 (bytes_below a.fill.now c.type_inv.fill) l.1 in
    rw (le-leb 8 a.room (rw c.block_width.ensures at c.if-room-block_width.false), s.0, k.1, l.0, p.1, ← p.2)
    (c.carried.ensures ∙ ap (λ (ds : List ℕ). block_of (carried_block (done (c.in_ok-read.read, c.in_ok-read.written)) (account_field ds) (row 16 c.in_ok-row.row) (row 16 c.in_ok-filler.filler))) (account_row a.account.now k.0 _ k.1 k.2)
    ∙ ap₂ (λ (ns fs : List ℕ). block_of (carried_block (done (c.in_ok-read.read, c.in_ok-read.written)) (account_field k.0) ns fs)) block fill)
