-- `verdicts::verdict_on` meets its contract.
use mathlib.Core.Path.{ap, sym, ◌∙◌}
use Rattle.verdicts.proofs.Laws.{verdict_long, verdict_other_length, verdict_other, verdict_same}
use Rattle.offsets.specs.Answers.{pair_in}
use Rattle.offsets.specs.Offsets.{offset_for}
use Rattle.answers.specs.Answers.{digits_of}
use Rattle.std.proofs.lemmas.Result.{err_from_is_err_and}
use Rattle.numbers.proofs.Laws.{result_ok, result_err}
use Rattle.pins.specs.Answers.{pin_of}
use Rattle.pins.specs.declared.Pin.{Pin}
use Rattle.verdicts.proofs.verdict_on.Goals as goal

pub returns-in_err-offset : goal.returns-in_err-offset
returns-in_err-offset c =
    let a = c.args in
    let q = pair_in a.p in
    let bad = result_err pin_of (offset_for a.variable a.check q) _ (sym c.in_err-offset.was ∙ c.offset_for.ensures) in
    let p = err_from_is_err_and c.from_residual.result c.from_residual.ensures.1 in
    rw (p.1, p.2, verdict_long a.variable a.check (digits_of a.presented) q _ bad)

pub returns-then-presented-offset : goal.returns-then-presented-offset
returns-then-presented-offset c =
    let a = c.args in
    let q = pair_in a.p in
    let o = offset_for a.variable a.check q in
    let h = result_ok pin_of o _ (sym c.in_ok-offset.was ∙ c.offset_for.ensures) in
    let n = ap (λ (x : Pin). x.length) h.2 in
    let d = ap (λ (x : Pin). x.digits) h.2 in
    rw (verdict_other_length a.variable a.check a.p a.presented c.requires.1 h.0 h.1 (λ e. c.if-presented-offset.true (e ∙ sym n)))

pub returns-then-presented-offset-2 : goal.returns-then-presented-offset-2
returns-then-presented-offset-2 c =
    let a = c.args in
    let q = pair_in a.p in
    let o = offset_for a.variable a.check q in
    let h = result_ok pin_of o _ (sym c.in_ok-offset.was ∙ c.offset_for.ensures) in
    let n = ap (λ (x : Pin). x.length) h.2 in
    let d = ap (λ (x : Pin). x.digits) h.2 in
    rw (verdict_other a.variable a.check a.p a.presented c.requires.1 h.0 h.1 (c.if-presented-offset.false ∙ n) (λ e. c.if-presented-offset-2.true (e ∙ sym d)))

pub returns : goal.returns
returns c =
    let a = c.args in
    let q = pair_in a.p in
    let o = offset_for a.variable a.check q in
    let h = result_ok pin_of o _ (sym c.in_ok-offset.was ∙ c.offset_for.ensures) in
    let n = ap (λ (x : Pin). x.length) h.2 in
    let d = ap (λ (x : Pin). x.digits) h.2 in
    rw (verdict_same a.variable a.check a.p a.presented c.requires.1 h.0 h.1 (c.if-presented-offset.false ∙ n) (c.if-presented-offset-2.false ∙ d))
