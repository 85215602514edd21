-- `lab::clear_block` meets its contract.
use mathlib.Core.Path.{◌∙◌}
use Rattle.commands.specs.Commands.{extracted, room_to_extract}
use Rattle.ciphers.specs.declared.Way.TheVariants.{Decipher}
use Rattle.lab.proofs.Laws.{extracted_eight, none_made, some_made}
use Rattle.lab.proofs.clear_block.Goals as goal

pub returns-then-told-eq0 : goal.returns-then-told-eq0
returns-then-told-eq0 c =
    let a = c.args in
    let told = c.pin_block-told in
    none_made (extracted a.settings a.command.now room_to_extract) (extracted_eight a.settings a.command.now room_to_extract) _ _ told.result.reply told.ensures.0 c.if-told-eq0.true Decipher a.pinkey.now

pub returns : goal.returns
returns c =
    let a = c.args in
    let told = c.pin_block-told in
    c.make.ensures
    ∙ some_made (extracted a.settings a.command.now room_to_extract) (extracted_eight a.settings a.command.now room_to_extract) _ _ told.result.reply told.ensures.0 c.if-told-eq0.false Decipher a.pinkey.now
