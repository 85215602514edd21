-- `weakfield::weak_field` meets its contract.
use mathlib.Core.Path.{sym, ap, ◌∙◌}
use Rattle.std.proofs.Common.{Ok}
use Rattle.std.proofs.lemmas.Result.{err_from_is_err_and}
use Rattle.weak.specs.declared.Weak.{Weak}
use Rattle.weakfield.proofs.Laws.{field_absent, field_uncounted, counted_behind, field_counted}
use Rattle.weakfield.proofs.weak_field.Goals as goal

pub returns-in_default : goal.returns-in_default
returns-in_default c =
    let a = c.args in
    ap (λ (w : Weak). Ok (w, a.cursor)) c.none_at.ensures
    ∙ field_absent a.mark a.cursor.at a.command.now (sym c.in_default.is ∙ c.mark.ensures)

pub returns-in_err-count : goal.returns-in_err-count
returns-in_err-count c =
    let a = c.args in
    let there = sym c.in-Some.is ∙ c.mark.ensures in
    let p = err_from_is_err_and c.from_residual.result c.from_residual.ensures.1 in
    rw (p.1, p.2) (field_uncounted a.mark a.cursor.at a.command.now _ there _ (sym c.in_err-count.was ∙ c.number.ensures))

pub list_behind-requires : goal.list_behind-requires
list_behind-requires c =
    let a = c.args in
    let there = sym c.in-Some.is ∙ c.mark.ensures in
    (counted_behind a.mark a.cursor.at a.command.now _ there _ _ (sym c.in_ok-count.was ∙ c.number.ensures)).0

pub returns : goal.returns
returns c =
    let a = c.args in
    let there = sym c.in-Some.is ∙ c.mark.ensures in
    let counted = field_counted a.mark a.cursor.at a.command.now _ there _ _ (sym c.in_ok-count.was ∙ c.number.ensures) in
    c.list_behind.ensures ∙ sym counted
