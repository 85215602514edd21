-- `alphabet::digit` meets its contract.
use mathlib.Core.Path.{◌∙◌}
use lib.Bits.{and_mask}
use Rattle.alphabet.proofs.Laws.{digit_low}
use Rattle.alphabet.proofs.digit.Goals as goal

pub returns : goal.returns
returns c = and_mask c.args.c 4 ∙ digit_low c.args.c c.requires
