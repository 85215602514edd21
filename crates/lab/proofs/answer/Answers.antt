-- `lab::answer` meets its contract.
use mathlib.Core.Path.{◌∙◌, ap}
use lib.ListN.{length}
use Rattle.fields.specs.Fields.{shown}
use Rattle.lab.proofs.Laws.{says_as, answers_lab, replies_lab}
use Rattle.lab.proofs.answer.Goals as goal

pub returns : goal.returns
returns c =
    let a = c.args in
    let told = c.answer in
    let pin = c.odd_parity.ensures in
    let pvk = c.odd_parity-2.ensures in
    let clear = c.run.ensures ∙ c.clear_block-clear.ensures in
    let cipher = c.run-2.ensures ∙ c.validation_cipher-cipher.ensures in
    let room = length a.out.now in (
      says_as _ _ (answers_lab a.settings a.command.now a.pinkey.now a.pvk.now _ _ _ _ room pin pvk clear cipher) told.ensures.0,
      told.ensures.1 ∙ ap shown (replies_lab a.settings a.command.now a.pinkey.now a.pvk.now _ _ _ _ room pin pvk clear cipher),
    )
