-- `nibbles::join` meets its contract.
use Rattle.nibbles.proofs.Rows.{word_join, word_join_fits}
use Rattle.nibbles.proofs.join.Goals as goal

pub overflow_add-result : goal.overflow_add-result
overflow_add-result c = rw (word_join c.args.head c.args.n c.args.tail c.requires.0 c.requires.2) (record { fits = word_join_fits c.args.head c.args.n c.args.tail c.requires.0 c.requires.1 c.requires.2 })

pub returns : goal.returns
returns c = rw (word_join c.args.head c.args.n c.args.tail c.requires.0 c.requires.2)
