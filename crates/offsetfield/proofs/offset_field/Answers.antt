-- `offsetfield::offset_field` meets its contract.
use native.Mathlib.Omega.{arith}
use mathlib.Core.Path.{sym, ◌∙◌}
use Rattle.std.proofs.lemmas.Result.{err_from_is_err_and}
use Rattle.offsetfield.proofs.Reading.{offset_wrong}
use Rattle.offsetfield.proofs.offset_field.Goals as goal

pub returns-in_err-offset : goal.returns-in_err-offset
returns-in_err-offset c =
    let a = c.args in
    let p = err_from_is_err_and c.from_residual.result c.from_residual.ensures.1 in
    rw (p.1, p.2) (offset_wrong a.command.now a.cursor.at (omega arith) _ (sym c.in_err-offset.was ∙ c.presented.ensures))
