-- `responses::put_payload` meets its contract.
use mathlib.Core.Path.{subst}
use Rattle.responses.specs.Answers.{Short}
use Rattle.responses.proofs.Laws.{offset_put}
use Rattle.responses.proofs.put_payload.Goals as goal

pub put_offset-requires : goal.put_offset-requires
put_offset-requires c = (subst Short c.in-Offset.is c.requires.0, c.requires.1)

pub returns-in-Offset : goal.returns-in-Offset
returns-in-Offset c = offset_put c.args.payload _ c.args.out.now _ c.in-Offset.is c.requires.0 c.put_offset.ensures
