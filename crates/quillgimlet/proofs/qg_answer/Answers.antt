-- `quillgimlet::qg_answer` meets its contract.
use mathlib.Core.Path.{ap, sym, ◌∙◌, subst}
use Prim.Native.Nat.{◌≤◌}
use lib.ListN.{length}
use Rattle.settings.specs.declared.Settings.{Settings}
use Rattle.fields.specs.Fields.{shown}
use Rattle.fields.specs.declared.Pointer.{Pointer}
use Rattle.commands.specs.Commands.{answered, replying}
use Rattle.places.proofs.Calls.{replying_rules, shown_short}
use Rattle.face.specs.Face.{yes?}
use Rattle.face.proofs.Laws.{faced}
use Rattle.quillgimlet.proofs.qg_answer.Goals as goal

pub wide-requires : goal.wide-requires
wide-requires c =
    let a = c.args in
    let settings = c.from.result in
    let room = length a.out.now in
    let o = replying settings (yes? a.pinparity) (yes? a.pvkparity) a.command.now a.block.now a.enciphered.now room in
    subst (λ (p : Pointer). (p.place ≤ 4096) × (p.field ≤ 4096)) (sym c.answer-told.ensures.1)
    (shown_short a.command.now o (replying_rules a.command.now settings (yes? a.pinparity) (yes? a.pvkparity) a.block.now a.enciphered.now room))

pub returns : goal.returns
returns c =
    let a = c.args in
    let e = c.from.ensures in
    let told = c.answer-told.ensures in
    faced c.wide.result (ap (λ (s : Settings). answered s (yes? a.pinparity) (yes? a.pvkparity) a.command.now a.block.now a.enciphered.now (length a.out.now)) e)
    (told.1 ∙ ap (λ (s : Settings). shown (replying s (yes? a.pinparity) (yes? a.pvkparity) a.command.now a.block.now a.enciphered.now (length a.out.now))) e) told.0 c.wide.ensures
