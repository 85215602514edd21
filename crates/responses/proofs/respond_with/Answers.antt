-- `responses::respond_with` meets its contract.
use native.Mathlib.Omega.{arith}
use mathlib.Core.Path.{◌∙◌}
use mathlib.Core.List.{◌++◌}
use lib.ListN.{drop, length-append, length-drop}
use Rattle.frame.specs.Frame.{opening}
use Rattle.frame.proofs.Laws.{opening_length}
use Rattle.responses.specs.Answers.{carried}
use Rattle.responses.proofs.Laws.{three_pieces}
use Rattle.responses.proofs.respond_with.Goals as goal

pub returns : goal.returns
returns c =
    let a = c.args in
    let s = a.command.now in
    let long = opening_length a.header s 0 (omega arith) in
    let count = c.put_payload.ensures.0 in
    record {
      number = c.done.ensures.0;
      count = c.done.ensures.1 ∙ rw (length-append (opening a.header s 0) (carried a.payload ++ drop a.mark s), length-append (carried a.payload) (drop a.mark s)) (omega (arith, long, count, length-drop a.mark s));
      buffer = three_pieces a.header _ a.mark (opening a.header s 0) (carried a.payload) s a.out.now _ _ _ long count (omega arith) c.«open».ensures c.put_payload.ensures.2 c.put_run.ensures;
    }
