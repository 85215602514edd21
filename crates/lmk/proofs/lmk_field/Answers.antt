-- `lmk::lmk_field` meets its contract.
use mathlib.Core.Path.{sym, ◌∙◌}
use Rattle.std.proofs.lemmas.Result.{err_from_is_err_and}
use Rattle.lmk.proofs.Laws.{lmk_bad, lmk_there}
use Rattle.lmk.proofs.lmk_field.Goals as goal

pub returns-in_err-id : goal.returns-in_err-id
returns-in_err-id c =
    let a = c.args in
    let p = err_from_is_err_and c.from_residual.result c.from_residual.ensures.1 in
    let there = sym c.in-Some.is ∙ c.mark.ensures in
    rw (p.1, p.2) (lmk_bad a.command.now a.cursor.at _ there _ (sym c.in_err-id.was ∙ c.number.ensures))

pub returns : goal.returns
returns c =
    let a = c.args in
    let there = sym c.in-Some.is ∙ c.mark.ensures in
    lmk_there a.command.now a.cursor.at _ there _ _ (sym c.in_ok-id.was ∙ c.number.ensures)
