-- `pvv::judged_input` meets its contract.
use mathlib.Core.Path.{ap, sym, ◌∙◌}
use borrow.Author.Tests.{le-leb}
use Rattle.std.proofs.Common.{Ok}
use Rattle.std.proofs.lemmas.Result.{err_from_is_err_and}
use Rattle.pvvinput.proofs.Laws.{input_pin}
use Rattle.pvv.proofs.Laws.{input_parts, fields_of, read_pin, input_sixteen}
use Rattle.pvv.specs.Answers.{rows_in}
use Rattle.pvvinput.specs.PvvInput.{input_row}
use Rattle.pvv.specs.Pvv.{pin_read}
use Rattle.answers.proofs.Laws.{sixteen_nibs}
use Rattle.numbers.proofs.Laws.{result_ok, result_err}
use Rattle.pins.specs.declared.Pin.{Pin}
use Rattle.pins.specs.Answers.{pin_of}
use Rattle.nibbles.proofs.Rows.{row_length, row_below}
use Rattle.nibbles.proofs.Bytes.{bytes_below}
use Rattle.nibbles.specs.Nibbles.{row, word}
use Rattle.pvv.proofs.judged_input.Goals as goal

pub returns-in_err-pin : goal.returns-in_err-pin
returns-in_err-pin c =
    let a = c.args in
    let g = fields_of a.format a.index a.block.now a.account.now c.judged_fields.result c.judged_fields.ensures (bytes_below a.block.now c.type_inv.block) _ c.in_ok-rows.was in
    let bad = result_err pin_of (pin_read a.format (rows_in c.in_ok-rows.rows)) _ (sym c.in_err-pin.was ∙ c.read_by.ensures) in
    let p = err_from_is_err_and c.from_residual-in_err-pin.result c.from_residual-in_err-pin.ensures.1 in
    rw (p.1, p.2, input_parts a.format a.index a.block.now a.account.now a.room, le-leb 8 a.room c.if-room-lt8.false, g.0, bad)

pub returns : goal.returns
returns c =
    let a = c.args in
    let g = fields_of a.format a.index a.block.now a.account.now c.judged_fields.result c.judged_fields.ensures (bytes_below a.block.now c.type_inv.block) _ c.in_ok-rows.was in
    let r = c.in_ok-rows.rows in
    let ns = row 12 r.account in
    let d = result_ok pin_of (pin_read a.format (rows_in r)) _ (sym c.in_ok-pin.was ∙ c.read_by.ensures) in
    let p = read_pin a.format (rows_in r) d.0 (row_length 16 r.block) (row_length 12 r.account) d.1 in
    let sixteen = input_sixteen ns d.0 r.index (row_length 12 r.account) (row_below 12 r.account) g.1 p in
    rw (input_parts a.format a.index a.block.now a.account.now a.room, le-leb 8 a.room c.if-room-lt8.false, g.0, d.1)
    (ap Ok (c.input_row.ensures ∙ ap word (ap (λ (q : Pin). input_row ns r.index (row 16 q.digits)) d.2 ∙ input_pin ns d.0 r.index p
    ∙ sym (sixteen_nibs (input_row ns r.index d.0) sixteen))))
