-- `commands::ask` meets its contract.
use Prim.Native.Nat.{ℕ}
use mathlib.Core.Path.{ap, sym, ◌∙◌, subst}
use lib.ListN.{length}
use Rattle.std.specs.Prelude.{Result}
use Rattle.numbers.proofs.Laws.{does_as}
use Rattle.fields.specs.Fields.{heard, shown}
use Rattle.fields.specs.declared.Fault.{Fault}
use Rattle.responses.specs.Answers.{RoomToAsk, asked_bytes}
use Rattle.responses.proofs.Laws.{asked_bytes_lem, asked_roomy}
use Rattle.commands.specs.Commands.{asking}
use Rattle.commands.proofs.Laws.{asked_block}
use Rattle.commands.proofs.ask.Goals as goal

pub ask-requires : goal.ask-requires
ask-requires c =
    let a = c.args in
    let room = length a.out.now in
    let o = asking a.settings a.command.now room in
    subst (λ (j : Result ℕ Fault). RoomToAsk j room) (sym c.asking-asked.ensures) (asked_roomy o room (asked_block a.settings a.command.now room))

pub returns : goal.returns
returns c =
    let a = c.args in
    let room = length a.out.now in
    let o = asking a.settings a.command.now room in
    let e = ap asked_bytes c.asking-asked.ensures ∙ asked_bytes_lem o room (asked_block a.settings a.command.now room) in
    (does_as _ (heard o) (ap heard e) c.ask.ensures.0, c.ask.ensures.1 ∙ ap shown e)
