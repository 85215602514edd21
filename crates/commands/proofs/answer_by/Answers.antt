-- `commands::answer_by` meets its contract.
use mathlib.Core.Path.{sym, ap, ◌∙◌}
use Rattle.std.proofs.Common.{Err}
use Rattle.commands.specs.Commands.{answer_by}
use Rattle.commands.proofs.answer_by.Goals as goal

pub returns-in-Bk : goal.returns-in-Bk
unfolding answer_by
returns-in-Bk c = rw (sym c.at.ensures ∙ c.in-Bk.is) c.answer.ensures

pub returns-in-Da : goal.returns-in-Da
unfolding answer_by
returns-in-Da c = rw (sym c.at.ensures ∙ c.in-Da.is) c.answer-in-Da.ensures

pub returns-in-Ea : goal.returns-in-Ea
unfolding answer_by
returns-in-Ea c = rw (sym c.at.ensures ∙ c.in-Ea.is) c.answer-in-Ea.ensures

pub returns-in-Other : goal.returns-in-Other
unfolding answer_by
returns-in-Other c = rw (sym c.at.ensures ∙ c.in-Other.is) (ap Err c.from.ensures)
