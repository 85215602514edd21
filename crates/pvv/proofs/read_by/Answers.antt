-- `pvv::read_by` meets its contract.
use mathlib.Core.List.{List}
use mathlib.Core.Path.{ap, sym, ◌∙◌}
use Rattle.blocks.specs.Blocks.{read_row}
use Rattle.numbers.proofs.Laws.{result_ok}
use Rattle.pins.proofs.Laws.{field_row}
use Rattle.pins.specs.Answers.{reading_of}
use Rattle.codes.specs.Codes.{code_of, format_of}
use Rattle.nibbles.specs.Nibbles.{row}
use Rattle.pvv.proofs.read_by.Goals as goal

pub returns : goal.returns
returns c =
    let a = c.args in
    let f = result_ok (λ f. f) (format_of (code_of a.format)) _ (sym c.in_ok-f.was ∙ c.chosen.ensures) in
    rw (f.1, ← f.2) (c.read.ensures ∙ ap (λ (v : List _). reading_of (read_row c.in_ok-f.f v (row 16 a.rows.block))) (field_row a.rows.account c.field.result c.field.ensures))
