-- `pvv::pvv_verdict` meets its contract.
use mathlib.Core.Path.{ap, ◌∙◌}
use Rattle.pvv.proofs.Laws.{verdict_nothing}
use Rattle.pvv.specs.Pvv.{pvv_verdict}
use Rattle.numbers.specs.Answers.{verdict_says}
use Rattle.numbers.proofs.Laws.{does_as, verdict_said}
use Rattle.pvv.proofs.pvv_verdict.Goals as goal

pub returns : goal.returns
returns c =
    let a = c.args in
    let o = pvv_verdict a.format a.index a.block.now a.account.now a.enciphered.now a.pvv.now in
    let nothing = verdict_nothing a.format a.index a.block.now a.account.now a.enciphered.now a.pvv.now in
    does_as (verdict_says c.judged_verdict.result) o (ap verdict_says c.judged_verdict.ensures ∙ verdict_said o nothing) c.verdict.ensures
