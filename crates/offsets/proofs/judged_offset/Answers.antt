-- `offsets::judged_offset` meets its contract.
use Prim.Native.Nat.{ℕ}
use mathlib.Core.List.{List}
use mathlib.Core.Path.{ap, sym, ◌∙◌}
use borrow.Author.Tests.{le-leb}
use Rattle.std.proofs.lemmas.Result.{err_from_is_err_and}
use Rattle.offsets.proofs.Laws.{offset_parts, given_compared}
use Rattle.offsets.specs.Answers.{compared_of, rows_in}
use Rattle.offsets.specs.Offsets.{offset_for, pin_and_natural}
use Rattle.numbers.proofs.Laws.{result_err}
use Rattle.pins.specs.Answers.{reading_of}
use Rattle.offsets.proofs.judged_offset.Goals as goal

pub returns-in_err-p : goal.returns-in_err-p
returns-in_err-p c =
    let i = c.args.inputs in
    let bad = result_err compared_of (pin_and_natural i.format i.table.now (rows_in c.in_ok-rows.rows)) _ (sym c.in_err-p.was ∙ c.paired.ensures) in
    let p = err_from_is_err_and c.from_residual-in_err-p.result c.from_residual-in_err-p.ensures.1 in
    rw (p.1, p.2, offset_parts c.args.variable i.check c.args.room i.format i.block.now i.account.now i.table.now i.enciphered.now, le-leb 12 c.args.room c.if-room-lt12.false, c.in_ok-rows.ensures.held, bad)

pub offset_for-requires : goal.offset_for-requires
offset_for-requires c =
    let i = c.args.inputs in
    (given_compared i.format i.check i.block.now i.account.now i.table.now i.enciphered.now c.in_ok-rows.rows c.in_ok-rows.ensures.held _ (sym c.in_ok-p.was ∙ c.paired.ensures)).2

pub returns : goal.returns
returns c =
    let i = c.args.inputs in
    let p = given_compared i.format i.check i.block.now i.account.now i.table.now i.enciphered.now c.in_ok-rows.rows c.in_ok-rows.ensures.held _ (sym c.in_ok-p.was ∙ c.paired.ensures) in
    rw (offset_parts c.args.variable i.check c.args.room i.format i.block.now i.account.now i.table.now i.enciphered.now, le-leb 12 c.args.room c.if-room-lt12.false, c.in_ok-rows.ensures.held, p.1)
    (c.offset_for.ensures ∙ ap (λ (q : List ℕ × List ℕ). reading_of (offset_for c.args.variable i.check q)) p.3)
