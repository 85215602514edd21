-- `bk::answer` meets its contract.
use mathlib.Core.Path.{sym, ap, ◌∙◌}
use Rattle.std.proofs.lemmas.Result.{err_from_is_err_and, IfOk-at_ok}
use Rattle.responses.specs.Answers.{answered_of}
use Rattle.bkfields.proofs.Found.{found_placed}
use Rattle.bk.proofs.Calls.{answer_faulty, answer_unboxed, answer_unfinished, answer_made}
use Rattle.bk.proofs.answer.Goals as goal

pub returns-in_err-bk : goal.returns-in_err-bk
returns-in_err-bk c =
    let a = c.args in
    let b = a.answers in
    let p = err_from_is_err_and c.from_residual.result c.from_residual.ensures.1 in
    rw (p.1, p.2)
    (ap answered_of (sym (answer_faulty a.settings b.pinparity b.pvkparity a.command.now a.start.at b.block.now b.enciphered.now
    _ (sym c.in_err-bk.was ∙ c.read.ensures))))

pub returns-in_err-boxed : goal.returns-in_err-boxed
returns-in_err-boxed c =
    let a = c.args in
    let b = a.answers in
    let p = err_from_is_err_and c.from_residual-in_err-boxed.result c.from_residual-in_err-boxed.ensures.1 in
    rw (p.1, p.2)
    (ap answered_of (sym (answer_unboxed a.settings b.pinparity b.pvkparity a.command.now a.start.at b.block.now b.enciphered.now
    _ (sym c.in_ok-bk.was ∙ c.read.ensures)
    _ (sym c.in_err-boxed.was ∙ c.key_box.ensures.answered))))

pub finish-requires : goal.finish-requires
finish-requires c =
    let a = c.args in
    found_placed a.settings.restricted a.command.now a.start.at _ (sym c.in_ok-bk.was ∙ c.read.ensures)

pub returns-in_err-offset : goal.returns-in_err-offset
returns-in_err-offset c =
    let a = c.args in
    let b = a.answers in
    let p = err_from_is_err_and c.from_residual-in_err-offset.result c.from_residual-in_err-offset.ensures.1 in
    rw (p.1, p.2)
    (ap answered_of (sym (answer_unfinished a.settings b.pinparity b.pvkparity a.command.now a.start.at b.block.now b.enciphered.now
    _ (sym c.in_ok-bk.was ∙ c.read.ensures)
    _ (IfOk-at_ok _ c.in_ok-boxed.was c.key_box.ensures.held)
    _ (sym c.in_err-offset.was ∙ c.finish.ensures))))

pub returns : goal.returns
returns c =
    let a = c.args in
    let b = a.answers in
    answer_made a.settings b.pinparity b.pvkparity a.command.now a.start.at b.block.now b.enciphered.now
    _ (sym c.in_ok-bk.was ∙ c.read.ensures)
    _ (IfOk-at_ok _ c.in_ok-boxed.was c.key_box.ensures.held)
    _ (sym c.in_ok-offset.was ∙ c.finish.ensures)
