-- `bk::extract` meets its contract.
use mathlib.Core.Path.{sym, ap, ◌∙◌}
use Rattle.std.proofs.Common.{Ok}
use Rattle.std.proofs.lemmas.Result.{err_from_is_err_and}
use Rattle.responses.specs.Answers.{asked_of}
use Rattle.bkfields.proofs.Found.{found_block}
use Rattle.bk.proofs.Calls.{extract_faulty, extract_read}
use Rattle.bk.proofs.extract.Goals as goal

pub returns-in_err-bk : goal.returns-in_err-bk
returns-in_err-bk c =
    let a = c.args in
    let p = err_from_is_err_and c.from_residual.result c.from_residual.ensures.1 in
    rw (p.1, p.2) (ap asked_of (sym (extract_faulty a.settings a.command.now a.start.at _ (sym c.in_err-bk.was ∙ c.read.ensures))))

pub block_row-requires : goal.block_row-requires
block_row-requires c =
    let a = c.args in
    found_block a.settings.restricted a.command.now a.start.at _ (sym c.in_ok-bk.was ∙ c.read.ensures)

pub returns : goal.returns
returns c =
    let a = c.args in
    ap Ok c.block_row.ensures ∙ ap asked_of (sym (extract_read a.settings a.command.now a.start.at _ (sym c.in_ok-bk.was ∙ c.read.ensures)))
