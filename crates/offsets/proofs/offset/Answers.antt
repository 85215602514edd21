-- `offsets::offset` meets its contract.
use mathlib.Core.Path.{ap, sym, ◌∙◌, subst}
use lib.ListN.{length}
use Rattle.offsets.proofs.Laws.{Texty, answered, roomy, offset_texty}
use Rattle.offsets.specs.Answers.{text_of, Roomy}
use Rattle.offsets.specs.Offsets.{offset_judged, spelt}
use Rattle.numbers.specs.declared.Refusal.{Refusal}
use Rattle.pins.specs.declared.Pin.{Pin}
use Rattle.std.specs.Prelude.{Result}
use Rattle.numbers.proofs.Laws.{does_as}
use Rattle.offsets.proofs.offset.Goals as goal

pub answer-requires : goal.answer-requires
answer-requires c =
    let a = c.args in
    let room = length a.out.now in
    let o = offset_judged a.settings.variable a.inputs.format a.inputs.check a.inputs.block.now a.inputs.account.now a.inputs.table.now a.inputs.enciphered.now room in
    let texty : Texty o room = offset_texty a.settings.variable a.inputs.format a.inputs.check a.inputs.block.now a.inputs.account.now a.inputs.table.now a.inputs.enciphered.now room in
    subst (λ (j : Result Pin Refusal). Roomy j room) (sym c.judged_offset.ensures) (roomy o room texty)

pub returns : goal.returns
returns c =
    let a = c.args in
    let room = length a.out.now in
    let o = offset_judged a.settings.variable a.inputs.format a.inputs.check a.inputs.block.now a.inputs.account.now a.inputs.table.now a.inputs.enciphered.now room in
    let texty : Texty o room = offset_texty a.settings.variable a.inputs.format a.inputs.check a.inputs.block.now a.inputs.account.now a.inputs.table.now a.inputs.enciphered.now room in
    does_as _ (spelt o) (ap text_of c.judged_offset.ensures ∙ answered o room texty) c.answer.ensures
