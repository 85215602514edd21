-- `blockcalls::judged_reading` meets its contract.
use Prim.Native.Nat.{ℕ}
use native.Mathlib.Omega.{arith}
use mathlib.Core.List.{List}
use mathlib.Core.Path.{ap, ap₂, sym, ◌∙◌}
use borrow.Author.Tests.{le-leb}
use Rattle.blocks.specs.Blocks.{read_row}
use Rattle.blockcalls.specs.BlockCalls.{read_block}
use Rattle.numbers.proofs.Laws.{result_ok}
use Rattle.pins.proofs.Laws.{sized_held, account_held, account_field_lem, block_row}
use Rattle.pins.specs.Answers.{row_of, reading_of}
use Rattle.pins.specs.Pins.{sized}
use Rattle.codes.specs.Codes.{code_of, format_of}
use Rattle.nibbles.proofs.Bytes.{bytes_below}
use Rattle.nibbles.specs.Nibbles.{nibs}
use Rattle.blockcalls.proofs.judged_reading.Goals as goal

pub returns : goal.returns
unfolding read_block
returns c =
    let a = c.args in
    let s = sized_held 8 a.block.now c.sized_row.result (c.sized_row.ensures ∙ ap (λ (k : ℕ). row_of (sized k a.block.now)) c.block_width.ensures) _ c.in_ok-row.was in
    let k = account_held a.account.now c.account.result c.account.ensures _ c.in_ok-digits.was in
    let f = result_ok (λ f. f) (format_of (code_of a.format)) _ (sym c.in_ok-f.was ∙ c.chosen.ensures) in
    let bytes = bytes_below a.block.now c.type_inv.block in
    rw (le-leb 12 a.room (omega arith), s.0, k.1, f.1, ← f.2)
    (c.read.ensures ∙ ap₂ (λ (v n : List ℕ). reading_of (read_row c.in_ok-f.f v n))
    (account_field_lem a.account.now k.0 _ _ k.1 k.2 c.field.ensures)
    (block_row a.block.now (nibs a.block.now) _ s.0 bytes s.1))
