-- `fields::Cursor::trailer` meets its contract.
use mathlib.Core.Path.{sym, ap, ◌∙◌}
use Rattle.fields.specs.Fields.{at_most}
use Rattle.fields.proofs.Laws.{trailer_there}
use Rattle.fields.proofs.Cursor.trailer.Goals as goal

pub returns : goal.returns
returns c =
    let a = c.args in
    let there = sym c.in-Some.is ∙ c.mark.ensures in
    trailer_there a.command.now a.self.at _ _ _ there (c.at_most.ensures ∙ ap (at_most 32) c.ahead-left.ensures) c.run.ensures
