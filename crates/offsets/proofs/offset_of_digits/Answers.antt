-- `offsets::offset_of_digits` meets its contract.
use mathlib.Core.Path.{ap, sym, ◌∙◌, subst}
use lib.ListN.{length}
use Rattle.offsets.proofs.Laws.{Texty, answered, roomy, digits_texty}
use Rattle.offsets.specs.Answers.{text_of, Roomy}
use Rattle.offsets.specs.Offsets.{digits_judged, spelt}
use Rattle.numbers.specs.declared.Refusal.{Refusal}
use Rattle.pins.specs.declared.Pin.{Pin}
use Rattle.std.specs.Prelude.{Result}
use Rattle.numbers.proofs.Laws.{does_as}
use Rattle.offsets.proofs.offset_of_digits.Goals as goal

pub answer-requires : goal.answer-requires
answer-requires c =
    let a = c.args in
    let room = length a.out.now in
    let o = digits_judged a.settings.variable a.check a.pin.now a.natural.now room in
    let texty : Texty o room = digits_texty a.settings.variable a.check a.pin.now a.natural.now room in
    subst (λ (j : Result Pin Refusal). Roomy j room) (sym c.judged_digits.ensures) (roomy o room texty)

pub returns : goal.returns
returns c =
    let a = c.args in
    let room = length a.out.now in
    let o = digits_judged a.settings.variable a.check a.pin.now a.natural.now room in
    let texty : Texty o room = digits_texty a.settings.variable a.check a.pin.now a.natural.now room in
    does_as _ (spelt o) (ap text_of c.judged_digits.ensures ∙ answered o room texty) c.answer.ensures
