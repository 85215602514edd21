-- `pins::field` meets its contract.
use native.Mathlib.Omega.{arith}
use Rattle.nibbles.proofs.Rows.{word_row}
use Rattle.nibbles.specs.Nibbles.{word}
use Rattle.pins.proofs.field.Goals as goal

pub returns : goal.returns
unfolding word
returns c = let e = word_row 12 c.args.digits in omega arith
