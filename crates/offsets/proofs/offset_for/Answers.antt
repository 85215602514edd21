-- `offsets::offset_for` meets its contract.
use Prim.Native.Nat.{ℕ}
use mathlib.Core.Path.{ap₂, sym, ◌∙◌, ap}
use Rattle.std.proofs.Common.{Ok}
use Rattle.std.proofs.lemmas.Result.{err_from_is_err_and}
use Rattle.offsets.proofs.Laws.{covers_within, matched}
use Rattle.ibm3624.proofs.Laws.{offset_length}
use Rattle.ibm3624.specs.Ibm3624.{covers}
use Rattle.numbers.proofs.Laws.{result_ok, result_err}
use Rattle.numbers.specs.Numbers.{done}
use Rattle.nibbles.proofs.Rows.{row_length}
use Rattle.offsets.proofs.offset_for.Goals as goal

pub returns-in_err-m : goal.returns-in_err-m
returns-in_err-m c =
    let a = c.args in
    let bad = result_err (λ n. n) (covers a.variable a.check a.p.length) _ (sym c.in_err-m.was ∙ c.covering.ensures) in
    let p = err_from_is_err_and c.from_residual.result c.from_residual.ensures.1 in
    rw (p.1, p.2, row_length a.p.length a.p.pin, bad)

pub offset-requires : goal.offset-requires
offset-requires c =
    let a = c.args in
    let m = result_ok (λ n. n) (covers a.variable a.check a.p.length) _ (sym c.in_ok-m.was ∙ c.covering.ensures) in
    matched a.p c.requires _ (covers_within a.variable a.check a.p.length _ (m.1 ∙ ap done (sym m.2)))

pub returns : goal.returns
returns c =
    let a = c.args in
    let p = a.p in
    let k = c.in_ok-m.m in
    let m = result_ok (λ n. n) (covers a.variable a.check p.length) _ (sym c.in_ok-m.was ∙ c.covering.ensures) in
    let made = m.1 ∙ ap done (sym m.2) in
    let long = offset_length k p.length p.pin p.natural (matched p c.requires k (covers_within a.variable a.check p.length k made)) in
    rw (ap (covers a.variable a.check) (row_length p.length p.pin) ∙ made) (ap₂ (λ (l d : ℕ). Ok (record { length = l; digits = d })) (sym long) c.offset.ensures)
