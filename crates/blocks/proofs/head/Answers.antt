-- `blocks::head` meets its contract.
use mathlib.Core.Path.{sym}
use Rattle.blocks.proofs.Laws.{digits_word}
use Rattle.nibbles.specs.Nibbles.{word}
use Rattle.blocks.proofs.head.Goals as goal

pub returns-in-Bare : goal.returns-in-Bare
unfolding word
returns-in-Bare c = rw c.in-Bare.is (sym (digits_word c.args.pin c.requires))

pub returns-in-Control : goal.returns-in-Control
unfolding word
returns-in-Control c = rw (c.in-Control.is, digits_word c.args.pin c.requires)
