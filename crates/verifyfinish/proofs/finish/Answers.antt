-- `verifyfinish::finish` meets its contract.
use mathlib.Core.Path.{sym, ap, ◌∙◌}
use Rattle.std.proofs.lemmas.Result.{err_from_is_err_and}
use Rattle.numbers.specs.Answers.{verdict_of}
use Rattle.verifyfinish.proofs.Laws.{finish_unread, verdict_may, finish_judged}
use Rattle.verifyfinish.proofs.finish.Goals as goal

pub returns-in_err-pair : goal.returns-in_err-pair
returns-in_err-pair c =
    let a = c.args in
    let p = err_from_is_err_and c.from_residual.result c.from_residual.ensures.1 in
    rw (p.1, p.2)
    (ap verdict_of (sym (finish_unread a.command.now a.verification c.requires a.variable a.boxed _ (sym c.in_err-pair.was ∙ c.pair.ensures))))

pub verdict_on-requires : goal.verdict_on-requires
verdict_on-requires c =
    let a = c.args in
    verdict_may a.command.now a.verification c.requires a.variable a.boxed _ (sym c.in_ok-pair.was ∙ c.pair.ensures) _ c.offset_at-presented.ensures

pub returns : goal.returns
returns c =
    let a = c.args in
    c.verdict_on.ensures
    ∙ finish_judged a.command.now a.verification c.requires a.variable a.boxed _ (sym c.in_ok-pair.was ∙ c.pair.ensures) _ c.offset_at-presented.ensures
