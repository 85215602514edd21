-- `frame::put_code` meets its contract.
use Rattle.frame.proofs.put_code.Goals as goal

pub returns : goal.returns
returns c = c.put_run.ensures
