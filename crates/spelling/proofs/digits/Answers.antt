-- `spelling::digits` meets its contract.
use Rattle.alphabet.proofs.Laws.{digit_at}
use Rattle.spelling.proofs.digits.Goals as goal

pub row_by-requires-clause-takes : goal.row_by-requires-clause-takes
row_by-requires-clause-takes c = λ i h. digit_at c.args.s.now i c.requires.1 h
