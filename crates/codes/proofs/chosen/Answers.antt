-- `codes::chosen` meets its contract.
use Rattle.codes.proofs.chosen.Goals as goal

-- written out: known_format_called_unknown falls by it
pub returns-in-Known : goal.returns-in-Known
returns-in-Known c = rw (← c.from.ensures, c.in-Known.is)
