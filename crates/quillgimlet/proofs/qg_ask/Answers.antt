-- `quillgimlet::qg_ask` meets its contract.
use mathlib.Core.Path.{ap, sym, ◌∙◌, subst}
use Prim.Native.Nat.{◌≤◌}
use lib.ListN.{length}
use Rattle.settings.specs.declared.Settings.{Settings}
use Rattle.numbers.specs.Promise.{quietly}
use Rattle.fields.specs.Fields.{shown}
use Rattle.fields.specs.declared.Pointer.{Pointer}
use Rattle.commands.specs.Commands.{asking, asked}
use Rattle.places.proofs.Calls.{asking_rules, shown_short}
use Rattle.face.proofs.Laws.{faced}
use Rattle.quillgimlet.proofs.qg_ask.Goals as goal

pub wide-requires : goal.wide-requires
wide-requires c =
    let a = c.args in
    let o = asking c.from.result a.command.now (length a.out.now) in
    subst (λ (p : Pointer). (p.place ≤ 4096) × (p.field ≤ 4096)) (sym c.ask-told.ensures.1)
    (shown_short a.command.now o (asking_rules a.command.now c.from.result (length a.out.now)))

pub returns : goal.returns
returns c =
    let a = c.args in
    let e = c.from.ensures in
    let told = c.ask-told.ensures in
    faced c.wide.result (ap (λ (s : Settings). quietly (asked s a.command.now (length a.out.now))) e)
    (told.1 ∙ ap (λ (s : Settings). shown (asking s a.command.now (length a.out.now))) e) told.0 c.wide.ensures
