-- `pvvinput::first_four` meets its contract.
use Rattle.pvvinput.proofs.first_four.Goals as goal

-- written out: last_four_of_the_pin falls by it
pub returns : goal.returns
returns c = c.part.ensures
