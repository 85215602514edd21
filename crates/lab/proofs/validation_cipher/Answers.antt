-- `lab::validation_cipher` meets its contract.
use native.Mathlib.Omega.{arith}
use mathlib.Core.Path.{◌∙◌, ap, sym}
use lib.Seq.{take_all}
use Rattle.commands.specs.Commands.{asked, room_to_ask}
use Rattle.ciphers.specs.declared.Way.TheVariants.{Encipher}
use Rattle.lab.specs.Lab.{made_of}
use Rattle.lab.proofs.Laws.{asked_eight, none_made, some_made}
use Rattle.lab.proofs.validation_cipher.Goals as goal

pub returns-then-told-eq0 : goal.returns-then-told-eq0
returns-then-told-eq0 c =
    let a = c.args in
    let told = c.ask-told in
    none_made (asked a.settings a.command.now room_to_ask) (asked_eight a.settings a.command.now room_to_ask) _ _ told.result.reply told.ensures.0 c.if-told-eq0.true Encipher a.pvk.now

pub returns : goal.returns
returns c =
    let a = c.args in
    let told = c.ask-told in
    c.make.ensures ∙ ap (made_of Encipher a.pvk.now) (sym (take_all 8 _ (omega arith)))
    ∙ some_made (asked a.settings a.command.now room_to_ask) (asked_eight a.settings a.command.now room_to_ask) _ _ told.result.reply told.ensures.0 c.if-told-eq0.false Encipher a.pvk.now
