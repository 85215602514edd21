-- `blockcalls::judged_writing` meets its contract.
use Prim.Native.Nat.{ℕ}
use mathlib.Core.List.{List}
use mathlib.Core.Path.{ap, ap₂, sym, ◌∙◌}
use borrow.Author.Tests.{le-leb}
use Rattle.std.proofs.Common.{Ok}
use Rattle.answers.proofs.Laws.{block_held, field_sixteen, bytes_sixteen}
use Rattle.blocks.proofs.Laws.{proper, written_row}
use Rattle.answers.specs.Answers.{digits_of}
use Rattle.blocks.specs.Blocks.{write_row}
use Rattle.blockcalls.specs.BlockCalls.{write_block}
use Rattle.numbers.proofs.Laws.{result_ok}
use Rattle.pins.proofs.Laws.{sized_held, account_held, account_field_lem, block_row, handed_done, pin_row}
use Rattle.pins.specs.Answers.{pin_of}
use Rattle.pins.specs.Pins.{pin_handed, account_field}
use Rattle.codes.specs.Codes.{code_of, format_of}
use Rattle.nibbles.proofs.Bytes.{bytes_below}
use Rattle.nibbles.specs.Nibbles.{nibs, word}
use Rattle.blockcalls.proofs.judged_writing.Goals as goal

pub write-requires : goal.write-requires
write-requires c =
    let a = c.args in
    let h = result_ok pin_of (pin_handed a.pin.now) _ (sym c.in_ok-pin.was ∙ c.handed.ensures) in
    let p = handed_done a.pin.now h.0 h.1 in
    rw h.2 (proper h.0 (rw p.0 at p.1))

pub returns : goal.returns
unfolding write_block
returns c =
    let a = c.args in
    let k = account_held a.account.now c.account.result c.account.ensures _ c.in_ok-digits.was in
    let s = sized_held 8 a.fill.now c.sized_row.result c.sized_row.ensures _ c.in_ok-row.was in
    let f = result_ok (λ f. f) (format_of (code_of a.format)) _ (sym c.in_ok-f.was ∙ c.chosen.ensures) in
    let h = result_ok pin_of (pin_handed a.pin.now) _ (sym c.in_ok-pin.was ∙ c.handed.ensures) in
    let p = handed_done a.pin.now h.0 h.1 in
    let bytes = bytes_below a.fill.now c.type_inv.fill in
    let q = rw p.0 at p.1 in
    let written = c.write.ensures
    ∙ ap₂ (λ (v n : List ℕ). word (write_row c.in_ok-f.f v (digits_of c.in_ok-pin.pin) n))
    (account_field_lem a.account.now k.0 _ _ k.1 k.2 c.field.ensures)
    (block_row a.fill.now (nibs a.fill.now) _ s.0 bytes s.1)
    ∙ ap (λ (ds : List ℕ). word (write_row c.in_ok-f.f (account_field k.0) ds (nibs a.fill.now))) (ap digits_of h.2 ∙ pin_row h.0 q) in
    rw (le-leb 8 a.room (rw c.block_width.ensures at c.if-room-block_width.false), k.1, s.0, f.1, ← f.2, h.1)
    (ap Ok (block_held c.write.result _ (written_row c.in_ok-f.f (account_field k.0) h.0 (nibs a.fill.now) (field_sixteen a.account.now k.0 k.1) q (bytes_sixteen a.fill.now (nibs a.fill.now) bytes s.0)) written))
