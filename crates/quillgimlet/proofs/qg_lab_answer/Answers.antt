-- `quillgimlet::qg_lab_answer` meets its contract.
use mathlib.Core.Path.{ap, sym, ◌∙◌, subst}
use Prim.Native.Nat.{◌≤◌}
use lib.ListN.{length}
use Rattle.settings.specs.declared.Settings.{Settings}
use Rattle.fields.specs.Fields.{shown}
use Rattle.fields.specs.declared.Pointer.{Pointer}
use Rattle.places.proofs.Calls.{replying_rules, shown_short}
use Rattle.parity.specs.Parity.{odd_parity}
use Rattle.lab.specs.Lab.{clear_block, validation_cipher, lab_answered, lab_replying}
use Rattle.face.proofs.Laws.{faced}
use Rattle.quillgimlet.proofs.qg_lab_answer.Goals as goal

pub wide-requires : goal.wide-requires
unfolding lab_replying
wide-requires c =
    let a = c.args in
    let settings = c.from.result in
    let s = a.command.now in
    let room = length a.out.now in
    subst (λ (p : Pointer). (p.place ≤ 4096) × (p.field ≤ 4096)) (sym c.answer-told.ensures.1)
    (shown_short s (lab_replying settings s a.pinkey.now a.pvk.now room)
    (replying_rules s settings (odd_parity a.pinkey.now) (odd_parity a.pvk.now) (clear_block settings s a.pinkey.now) (validation_cipher settings s a.pvk.now) room))

pub returns : goal.returns
returns c =
    let a = c.args in
    let e = c.from.ensures in
    let told = c.answer-told.ensures in
    faced c.wide.result (ap (λ (s : Settings). lab_answered s a.command.now a.pinkey.now a.pvk.now (length a.out.now)) e)
    (told.1 ∙ ap (λ (s : Settings). shown (lab_replying s a.command.now a.pinkey.now a.pvk.now (length a.out.now))) e) told.0 c.wide.ensures
