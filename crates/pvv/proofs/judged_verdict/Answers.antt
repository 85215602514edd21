-- `pvv::judged_verdict` meets its contract.
use Prim.Native.Nat.{ℕ}
use mathlib.Core.List.{List}
use mathlib.Core.Path.{ap₂, sym, ◌∙◌}
use Rattle.std.proofs.lemmas.Result.{err_from_is_err_and}
use Rattle.pvv.proofs.Laws.{pvv_parts, fields_of, presented_row}
use Rattle.pvv.specs.Answers.{rows_in}
use Rattle.pvvdigits.specs.PvvDigits.{pvv_of}
use Rattle.pvv.specs.Pvv.{presented, pin_read}
use Rattle.numbers.specs.Answers.{verdict_of}
use Rattle.numbers.proofs.Laws.{result_ok, result_err}
use Rattle.pins.proofs.Laws.{sized_held, block_row}
use Rattle.pins.specs.Pins.{verdict}
use Rattle.pins.specs.Answers.{pin_of}
use Rattle.nibbles.proofs.Bytes.{bytes_below}
use Rattle.nibbles.specs.Nibbles.{nibs, same, word}
use Rattle.pvv.proofs.judged_verdict.Goals as goal

pub returns-in_err-read_by : goal.returns-in_err-read_by
returns-in_err-read_by c =
    let a = c.args in
    let g = fields_of a.format a.index a.block.now a.account.now c.judged_fields.result c.judged_fields.ensures (bytes_below a.block.now c.type_inv.block) _ c.in_ok-rows.was in
    let m = sized_held 8 a.enciphered.now c.sized_row.result c.sized_row.ensures _ c.in_ok-made.was in
    let s = result_ok word (presented a.pvv.now) _ (sym c.in_ok-shown.was ∙ c.presented_row.ensures) in
    let bad = result_err pin_of (pin_read a.format (rows_in c.in_ok-rows.rows)) _ (sym c.in_err-read_by.was ∙ c.read_by.ensures) in
    let p = err_from_is_err_and c.from_residual-in_err-read_by.result c.from_residual-in_err-read_by.ensures.1 in
    rw (p.1, p.2, pvv_parts a.format a.index a.block.now a.account.now a.enciphered.now a.pvv.now, g.0, m.0, s.1, bad)

pub compared-requires : goal.compared-requires
compared-requires c =
    let cs = c.args.pvv.now in
    let s = result_ok word (presented cs) _ (sym c.in_ok-shown.was ∙ c.presented_row.ensures) in
    (presented_row cs s.0 _ s.1 s.2).1

pub returns : goal.returns
returns c =
    let a = c.args in
    let g = fields_of a.format a.index a.block.now a.account.now c.judged_fields.result c.judged_fields.ensures (bytes_below a.block.now c.type_inv.block) _ c.in_ok-rows.was in
    let m = sized_held 8 a.enciphered.now c.sized_row.result c.sized_row.ensures _ c.in_ok-made.was in
    let s = result_ok word (presented a.pvv.now) _ (sym c.in_ok-shown.was ∙ c.presented_row.ensures) in
    let d = result_ok pin_of (pin_read a.format (rows_in c.in_ok-rows.rows)) _ (sym c.in_ok-read_by.was ∙ c.read_by.ensures) in
    let input = block_row a.enciphered.now (nibs a.enciphered.now) _ m.0 (bytes_below a.enciphered.now c.type_inv.enciphered) m.1 in
    let shown = (presented_row a.pvv.now s.0 _ s.1 s.2).0 in
    rw (pvv_parts a.format a.index a.block.now a.account.now a.enciphered.now a.pvv.now, g.0, m.0, s.1, d.1) (c.compared.ensures ∙ ap₂ (λ (es ps : List ℕ). verdict_of (verdict (same (pvv_of es) ps))) input shown)
