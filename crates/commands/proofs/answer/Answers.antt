-- `commands::answer` meets its contract.
use native.Mathlib.Omega.{arith}
use mathlib.Core.Path.{ap, sym, ◌∙◌, subst}
use lib.ListN.{length, drop}
use Prim.Native.Nat.{ℕ, ◌+◌}
use Rattle.frame.specs.Frame.{code_of}
use Rattle.frame.proofs.Laws.{framed_bounds}
use Rattle.commands.specs.Commands.{answer_by, commanded}
use Rattle.numbers.specs.Numbers.{number_of}
use Rattle.fields.specs.Fields.{heard, pointer_of, shown}
use Rattle.fields.specs.declared.Fault.{Fault}
use Rattle.responses.specs.Responses.{responding}
use Rattle.responses.specs.Answers.{answered_text, Writable}
use Rattle.responses.proofs.Laws.{sound_writable, sound_text, responds_as}
use Rattle.commands.proofs.Laws.{opened_ok, opened_err, answer_by_sound, answered_silent, answered_framed, replying_silent, replying_framed, does_nothing, does_answered}
use Rattle.commands.proofs.answer.Goals as goal

pub answer_by-answered-requires : goal.answer_by-answered-requires
answer_by-answered-requires c =
    let a = c.args in
    let o = opened_ok 65 (length a.out.now) a.settings.header a.command.now _ (sym c.in-Ok.is ∙ c.«opened».ensures) in
    rw o.2 (framed_bounds a.settings.header a.command.now o.3).2

pub respond-requires : goal.respond-requires
respond-requires c =
    let a = c.args in
    let b = a.answers in
    let s = a.command.now in
    let o = opened_ok 65 (length a.out.now) a.settings.header s _ (sym c.in-Ok.is ∙ c.«opened».ensures) in
    let bounds = framed_bounds a.settings.header s o.3 in
    let at = c.in-Ok.code in (
      rw o.2 (record { framed = bounds.0; coded = bounds.2; roomy = o.1 }),
      subst (Writable s) (sym c.answer_by-answered.ensures)
          (sound_writable s (answer_by (code_of (drop at s)) a.settings b.pinparity b.pvkparity s (at + 2) b.block.now b.enciphered.now)
          (answer_by_sound (code_of (drop at s)) a.settings b.pinparity b.pvkparity s (at + 2) b.block.now b.enciphered.now)),
    )

pub returns-in-Ok : goal.returns-in-Ok
returns-in-Ok c =
    let a = c.args in
    let b = a.answers in
    let s = a.command.now in
    let at = c.in-Ok.code in
    let room = length a.out.now in
    let o = opened_ok 65 room a.settings.header s _ (sym c.in-Ok.is ∙ c.«opened».ensures) in
    let said = answer_by (code_of (drop at s)) a.settings b.pinparity b.pvkparity s (at + 2) b.block.now b.enciphered.now in
    let text = ap (answered_text s) c.answer_by-answered.ensures
    ∙ sound_text s said (answer_by_sound (code_of (drop at s)) a.settings b.pinparity b.pvkparity s (at + 2) b.block.now b.enciphered.now) in
    let came = heard (commanded a.settings b.pinparity b.pvkparity s b.block.now b.enciphered.now at) in (
      does_answered a.settings b.pinparity b.pvkparity s b.block.now b.enciphered.now room at came a.out.now _ _
          (answered_framed a.settings b.pinparity b.pvkparity s b.block.now b.enciphered.now room at o.0 ∙ ap (λ (h : ℕ). responding h s came) (sym o.2))
          (responds_as at s a.out.now _ _ _ _ (ap heard text) c.respond.ensures.0),
      c.respond.ensures.1 ∙ ap shown (text ∙ sym (replying_framed a.settings b.pinparity b.pvkparity s b.block.now b.enciphered.now room at o.0)),
    )

pub returns-in-Err : goal.returns-in-Err
returns-in-Err c =
    let a = c.args in
    let b = a.answers in
    let s = a.command.now in
    let room = length a.out.now in
    let q = opened_err 65 room a.settings.header s _ (sym c.in-Err.is ∙ c.«opened».ensures) in
    let fault = c.from.ensures in
    let r = c.refused.ensures in (
      does_nothing a.settings b.pinparity b.pvkparity s b.block.now b.enciphered.now room _ a.out.now c.refused.result.reply
          (answered_silent a.settings b.pinparity b.pvkparity s b.block.now b.enciphered.now room _ q) (r.0 ∙ ap (λ (f : Fault). number_of f.refusal) fault) r.1,
      r.2 ∙ ap pointer_of fault ∙ sym (replying_silent a.settings b.pinparity b.pvkparity s b.block.now b.enciphered.now room _ q),
    )
