-- `words::put_bytes` meets its contract.
use Rattle.words.proofs.Words.{high_first}
use Rattle.words.proofs.put_bytes.Goals as goal

pub returns : goal.returns
returns c = rw (c.copy_from_slice.ensures.after, c.to_be_bytes.ensures, high_first 8 c.args.w)
