-- `bkfinish::finish` meets its contract.
use mathlib.Core.Path.{sym, ap, ◌∙◌}
use Rattle.std.proofs.lemmas.Result.{err_from_is_err_and}
use Rattle.pins.specs.Answers.{reading_of}
use Rattle.bkfinish.proofs.Laws.{compared_fit, finish_unread, finish_long, finish_weak, finish_made}
use Rattle.bkfinish.proofs.finish.Goals as goal

pub returns-in_err-pair : goal.returns-in_err-pair
returns-in_err-pair c =
    let a = c.args in
    let p = err_from_is_err_and c.from_residual.result c.from_residual.ensures.1 in
    rw (p.1, p.2) (ap reading_of (sym (finish_unread a.variable a.command.now a.bk a.boxed c.requires _ (sym c.in_err-pair.was ∙ c.pair.ensures))))

pub offset_for-requires : goal.offset_for-requires
offset_for-requires c =
    let a = c.args in
    compared_fit a.variable a.command.now a.bk a.boxed c.requires _ (sym c.in_ok-pair.was ∙ c.pair.ensures)

pub returns-in_err-offset : goal.returns-in_err-offset
returns-in_err-offset c =
    let a = c.args in
    let p = err_from_is_err_and c.from_residual-in_err-offset.result c.from_residual-in_err-offset.ensures.1 in
    rw (p.1, p.2)
    (ap reading_of (sym (finish_long a.variable a.command.now a.bk a.boxed c.requires _ (sym c.in_ok-pair.was ∙ c.pair.ensures)
    _ (sym c.in_err-offset.was ∙ c.offset_for.ensures))))

pub returns-then-is_weak : goal.returns-then-is_weak
returns-then-is_weak c =
    let a = c.args in
    ap reading_of (sym (finish_weak a.variable a.command.now a.bk a.boxed c.requires _ (sym c.in_ok-pair.was ∙ c.pair.ensures)
    _ (sym c.in_ok-offset.was ∙ c.offset_for.ensures) (sym c.is_weak.ensures ∙ c.if-is_weak.true)))

pub returns : goal.returns
returns c =
    let a = c.args in
    finish_made a.variable a.command.now a.bk a.boxed c.requires _ (sym c.in_ok-pair.was ∙ c.pair.ensures)
    _ (sym c.in_ok-offset.was ∙ c.offset_for.ensures) (sym c.is_weak.ensures ∙ c.if-is_weak.false)
