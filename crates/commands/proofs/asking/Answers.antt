-- `commands::asking` meets its contract.
use mathlib.Core.Path.{sym, ◌∙◌}
use Rattle.std.proofs.lemmas.Result.{err_from_is_err_and}
use Rattle.frame.proofs.Laws.{framed_bounds}
use Rattle.commands.specs.Commands.{asking}
use Rattle.commands.proofs.Laws.{opened_ok, opened_err}
use Rattle.commands.proofs.asking.Goals as goal

pub returns-in_err-code : goal.returns-in_err-code
unfolding asking
returns-in_err-code c =
    let a = c.args in
    let p = err_from_is_err_and c.from_residual.result c.from_residual.ensures.1 in
    rw (p.1, p.2, opened_err 8 a.room a.settings.header a.command.now _ (sym c.in_err-code.was ∙ c.«opened».ensures))

pub ask_by-requires : goal.ask_by-requires
ask_by-requires c =
    let a = c.args in
    let o = opened_ok 8 a.room a.settings.header a.command.now _ (sym c.in_ok-code.was ∙ c.«opened».ensures) in
    rw o.2 (framed_bounds a.settings.header a.command.now o.3).2

pub returns : goal.returns
unfolding asking
returns c =
    let a = c.args in
    rw (opened_ok 8 a.room a.settings.header a.command.now _ (sym c.in_ok-code.was ∙ c.«opened».ensures)).0 c.ask_by.ensures
