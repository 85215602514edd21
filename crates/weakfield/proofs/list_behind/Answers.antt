-- `weakfield::list_behind` meets its contract.
use native.Mathlib.Nat.{mul-le-mul, add-zero}
use native.Mathlib.Omega.{arith}
use mathlib.Core.Path.{sym, ap, ◌∙◌}
use Rattle.std.proofs.Common.{Ok}
use Rattle.std.proofs.lemmas.Result.{err_from_is_err_and}
use Rattle.numbers.specs.declared.Refusal.TheVariants.{Field15}
use Rattle.fields.proofs.Laws.{number_read}
use lib.ListN.{drop}
use Rattle.weak.specs.declared.Weak.{Weak}
use Rattle.weakfield.proofs.Laws.{listed_none, behind_unmeasured, behind_short, behind_whole}
use Rattle.weakfield.proofs.list_behind.Goals as goal

pub returns-then-count-eq0 : goal.returns-then-count-eq0
returns-then-count-eq0 c =
    let a = c.args in
    rw (listed_none a.cursor.at a.count (drop a.cursor.at a.command.now) c.if-count-eq0.true, add-zero a.cursor.at)
    (ap (λ (w : Weak). Ok (w, a.cursor)) c.none_at.ensures)

pub returns-in_err-length : goal.returns-in_err-length
returns-in_err-length c =
    let a = c.args in
    let p = err_from_is_err_and c.from_residual.result c.from_residual.ensures.1 in
    let bad = behind_unmeasured a.command.now a.count a.cursor.at c.if-count-eq0.false _ (sym c.in_err-length.was ∙ c.number.ensures) in
    rw (p.1, p.2) bad

pub overflow_mul-count : goal.overflow_mul-count
overflow_mul-count c =
    let a = c.args in
    let each = (number_read a.command.now a.cursor.at _ _ 4 12 Field15 (sym c.in_ok-length.was ∙ c.number.ensures)).4 in
    let most = mul-le-mul c.requires each in
    omega arith

pub returns-in_err-next : goal.returns-in_err-next
returns-in_err-next c =
    let a = c.args in
    let some = c.if-count-eq0.false in
    let each = sym c.in_ok-length.was ∙ c.number.ensures in
    let p = err_from_is_err_and c.from_residual-in_err-next.result c.from_residual-in_err-next.ensures.1 in
    rw (p.1, p.2) (behind_short a.command.now a.count a.cursor.at some _ _ _ each (sym c.in_err-next.was ∙ c.run.ensures))

pub returns : goal.returns
returns c =
    let a = c.args in
    let some = c.if-count-eq0.false in
    let each = sym c.in_ok-length.was ∙ c.number.ensures in
    let digits = sym c.in_ok-next.was ∙ c.run.ensures in
    behind_whole a.command.now a.count a.cursor.at some _ _ _ _ each digits
