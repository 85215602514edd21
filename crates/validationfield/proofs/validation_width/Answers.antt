-- `validationfield::validation_width` meets its contract.
use mathlib.Core.Path.{sym, ◌∙◌}
use lib.ListN.{drop}
use Rattle.fields.specs.Fields.{marked}
use Rattle.fields.proofs.Laws.{mark_there, mark_absent}
use Rattle.validation.proofs.Laws.{led_by_p}
use Rattle.validationfield.proofs.validation_width.Goals as goal

pub returns-in-Some : goal.returns-in-Some
returns-in-Some c =
    let a = c.args in
    rw (sym (led_by_p (drop a.cursor.at a.command.now)) ∙ (mark_there a.cursor.at (marked 0x50 (drop a.cursor.at a.command.now)) _ (sym c.in-Some.is ∙ c.mark.ensures)).0)

pub returns-in-None : goal.returns-in-None
returns-in-None c =
    let a = c.args in
    rw (sym (led_by_p (drop a.cursor.at a.command.now)) ∙ mark_absent a.cursor.at (marked 0x50 (drop a.cursor.at a.command.now)) (sym c.in-None.is ∙ c.mark.ensures))
