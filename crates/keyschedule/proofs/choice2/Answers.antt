-- `keyschedule::choice2` meets its contract.
use mathlib.Core.Path.{◌∙◌}
use Rattle.keyschedule.proofs.Choices.{looked_in_choices}
use Rattle.keyschedule.proofs.choice2.Goals as goal

pub returns : goal.returns
returns c = c.look_up.ensures ∙ looked_in_choices c.args.w c.requires
