-- `verify::extract` meets its contract.
use mathlib.Core.Path.{sym, ap, ◌∙◌}
use Rattle.std.proofs.Common.{Ok}
use Rattle.std.proofs.lemmas.Result.{err_from_is_err_and}
use Rattle.responses.specs.Answers.{asked_of}
use Rattle.verifyfields.proofs.Found.{found_block}
use Rattle.verify.proofs.Calls.{extract_faulty, extract_read}
use Rattle.verify.proofs.extract.Goals as goal

pub returns-in_err-verification : goal.returns-in_err-verification
returns-in_err-verification c =
    let a = c.args in
    let p = err_from_is_err_and c.from_residual.result c.from_residual.ensures.1 in
    rw (p.1, p.2) (ap asked_of (sym (extract_faulty a.pinkey a.command.now a.start.at _ (sym c.in_err-verification.was ∙ c.read.ensures))))

pub block_row-requires : goal.block_row-requires
block_row-requires c =
    let a = c.args in
    found_block a.pinkey a.command.now a.start.at _ (sym c.in_ok-verification.was ∙ c.read.ensures)

pub returns : goal.returns
returns c =
    let a = c.args in
    ap Ok c.block_row.ensures ∙ ap asked_of (sym (extract_read a.pinkey a.command.now a.start.at _ (sym c.in_ok-verification.was ∙ c.read.ensures)))
