-- `verify::ask` meets its contract.
use mathlib.Core.Path.{sym, ap, ◌∙◌}
use Rattle.std.proofs.lemmas.Result.{err_from_is_err_and}
use Rattle.pairing.specs.Pairing.{asked_at}
use Rattle.responses.specs.Answers.{asked_of}
use Rattle.responses.proofs.Laws.{block_asked, block_refused}
use Rattle.verifyfields.proofs.Found.{found_placed}
use Rattle.verify.proofs.Calls.{ask_faulty, ask_read}
use Rattle.verify.proofs.ask.Goals as goal

pub returns-in_err-verification : goal.returns-in_err-verification
returns-in_err-verification c =
    let a = c.args in
    let p = err_from_is_err_and c.from_residual.result c.from_residual.ensures.1 in
    rw (p.1, p.2) (ap asked_of (sym (ask_faulty a.pinkey a.command.now a.start.at _ (sym c.in_err-verification.was ∙ c.read.ensures))))

pub asked-requires : goal.asked-requires
asked-requires c =
    let a = c.args in
    (found_placed a.pinkey a.command.now a.start.at _ (sym c.in_ok-verification.was ∙ c.read.ensures)).offsetting

pub returns-in_err-asked : goal.returns-in_err-asked
returns-in_err-asked c =
    let a = c.args in
    let p = err_from_is_err_and c.from_residual-in_err-asked.result c.from_residual-in_err-asked.ensures.1 in
    rw (p.1, p.2)
    (block_refused (asked_at a.command.now c.in_ok-verification.verification.offsetting) _ (sym c.in_err-asked.was ∙ c.asked.ensures)
    ∙ ap asked_of (sym (ask_read a.pinkey a.command.now a.start.at _ (sym c.in_ok-verification.was ∙ c.read.ensures))))

pub returns : goal.returns
returns c =
    let a = c.args in
    block_asked (asked_at a.command.now c.in_ok-verification.verification.offsetting) _ (sym c.in_ok-asked.was ∙ c.asked.ensures)
    ∙ ap asked_of (sym (ask_read a.pinkey a.command.now a.start.at _ (sym c.in_ok-verification.was ∙ c.read.ensures)))
