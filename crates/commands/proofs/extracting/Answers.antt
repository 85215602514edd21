-- `commands::extracting` meets its contract.
use mathlib.Core.Path.{sym, ◌∙◌}
use Rattle.std.proofs.lemmas.Result.{err_from_is_err_and}
use Rattle.frame.proofs.Laws.{framed_bounds}
use Rattle.commands.specs.Commands.{extracting}
use Rattle.commands.proofs.Laws.{opened_ok, opened_err}
use Rattle.commands.proofs.extracting.Goals as goal

pub returns-in_err-code : goal.returns-in_err-code
unfolding extracting
returns-in_err-code c =
    let a = c.args in
    let p = err_from_is_err_and c.from_residual.result c.from_residual.ensures.1 in
    rw (p.1, p.2, opened_err 16 a.room a.settings.header a.command.now _ (sym c.in_err-code.was ∙ c.«opened».ensures))

pub extract_by-requires : goal.extract_by-requires
extract_by-requires c =
    let a = c.args in
    let o = opened_ok 16 a.room a.settings.header a.command.now _ (sym c.in_ok-code.was ∙ c.«opened».ensures) in
    rw o.2 (framed_bounds a.settings.header a.command.now o.3).2

pub returns : goal.returns
unfolding extracting
returns c =
    let a = c.args in
    rw (opened_ok 16 a.room a.settings.header a.command.now _ (sym c.in_ok-code.was ∙ c.«opened».ensures)).0 c.extract_by.ensures
