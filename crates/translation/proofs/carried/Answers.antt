-- `translation::carried` meets its contract.
use Prim.Native.Nat.{ℕ}
use mathlib.Core.List.{List}
use mathlib.Core.Path.{ap, ap₂, sym, ◌∙◌}
use Rattle.std.proofs.Common.{Ok}
use Rattle.std.proofs.lemmas.Result.{err_from_is_err_and}
use Rattle.answers.proofs.Laws.{block_held, row_sixteen, field_row_sixteen}
use Rattle.blocks.proofs.Laws.{read_pinned, proper, written_row}
use Rattle.answers.specs.Answers.{digits_of}
use Rattle.blocks.specs.Blocks.{read_row, write_row}
use Rattle.numbers.proofs.Laws.{result_ok, result_err}
use Rattle.pins.proofs.Laws.{field_row, pin_row}
use Rattle.pins.specs.Answers.{pin_of}
use Rattle.pins.specs.Pins.{account_field}
use Rattle.nibbles.proofs.Rows.{row_length}
use Rattle.nibbles.specs.Nibbles.{row, word}
use Rattle.translation.proofs.carried.Goals as goal

pub returns-in_err-pin : goal.returns-in_err-pin
returns-in_err-pin c =
    let a = c.args in
    let field = field_row a.account c.field-field.result c.field-field.ensures in
    let bad = result_err pin_of (read_row a.from (row 16 c.field-field.result) (row 16 a.block)) _ (sym c.in_err-pin.was ∙ c.read.ensures) in
    let p = err_from_is_err_and c.from_residual.result c.from_residual.ensures.1 in
    rw (p.1, p.2, ← field, bad)

pub write-requires : goal.write-requires
write-requires c =
    let a = c.args in
    let h = result_ok pin_of (read_row a.from (row 16 c.field-field.result) (row 16 a.block)) _ (sym c.in_ok-pin.was ∙ c.read.ensures) in
    let p = read_pinned a.from (row 16 c.field-field.result) (row 16 a.block) h.0 (row_length 16 c.field-field.result) (row_length 16 a.block) h.1 in
    rw h.2 (proper h.0 p)

pub returns : goal.returns
returns c =
    let a = c.args in
    let field = field_row a.account c.field-field.result c.field-field.ensures in
    let h = result_ok pin_of (read_row a.from (row 16 c.field-field.result) (row 16 a.block)) _ (sym c.in_ok-pin.was ∙ c.read.ensures) in
    let p = read_pinned a.from (row 16 c.field-field.result) (row 16 a.block) h.0 (row_length 16 c.field-field.result) (row_length 16 a.block) h.1 in
    let d = ap (λ (v : List ℕ). read_row a.from v (row 16 a.block)) (sym field) ∙ h.1 in
    let written = c.write.ensures ∙ ap₂ (λ (v ds : List ℕ). word (write_row a.to v ds (row 16 a.fill))) field (ap digits_of h.2 ∙ pin_row h.0 p) in
    rw d (ap Ok (block_held c.write.result (write_row a.to (account_field (row 12 a.account)) h.0 (row 16 a.fill)) (written_row a.to (account_field (row 12 a.account)) h.0 (row 16 a.fill) (field_row_sixteen a.account) p (row_sixteen a.fill)) written))
