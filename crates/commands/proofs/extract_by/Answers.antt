-- `commands::extract_by` meets its contract.
use mathlib.Core.Path.{sym, ap, ◌∙◌}
use Rattle.std.proofs.Common.{Err}
use Rattle.commands.specs.Commands.{extract_by}
use Rattle.commands.proofs.extract_by.Goals as goal

pub returns-in-Bk : goal.returns-in-Bk
unfolding extract_by
returns-in-Bk c = rw (sym c.at.ensures ∙ c.in-Bk.is) c.extract.ensures

pub returns-in-Da : goal.returns-in-Da
unfolding extract_by
returns-in-Da c = rw (sym c.at.ensures ∙ c.in-Da.is) c.extract-in-Da.ensures

pub returns-in-Ea : goal.returns-in-Ea
unfolding extract_by
returns-in-Ea c = rw (sym c.at.ensures ∙ c.in-Ea.is) c.extract-in-Ea.ensures

pub returns-in-Other : goal.returns-in-Other
unfolding extract_by
returns-in-Other c = rw (sym c.at.ensures ∙ c.in-Other.is) (ap Err c.from.ensures)
