-- `verdicts::offset_verdict` meets its contract.
use mathlib.Core.Path.{ap, ◌∙◌}
use Rattle.verdicts.proofs.Laws.{verdict_nothing}
use Rattle.verdicts.specs.Verdicts.{offset_verdict}
use Rattle.numbers.specs.Answers.{verdict_says}
use Rattle.numbers.proofs.Laws.{does_as, verdict_said}
use Rattle.verdicts.proofs.offset_verdict.Goals as goal

pub returns : goal.returns
returns c =
    let a = c.args in
    let v = a.settings.variable in
    let o = offset_verdict v a.inputs.format a.inputs.check a.inputs.block.now a.inputs.account.now a.inputs.table.now a.inputs.enciphered.now a.offset.now in
    let nothing = verdict_nothing v a.inputs.format a.inputs.check a.inputs.block.now a.inputs.account.now a.inputs.table.now a.inputs.enciphered.now a.offset.now in
    does_as (verdict_says c.judged_verdict.result) o (ap verdict_says c.judged_verdict.ensures ∙ verdict_said o nothing) c.verdict.ensures
