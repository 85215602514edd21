-- `validation::validation_block` meets its contract.
use lib.ListN.{length}
use Rattle.validation.proofs.Laws.{call_block}
use Rattle.validation.specs.Validation.{validation_block}
use Rattle.answers.proofs.Laws.{answer_room, answer_says}
use Rattle.validation.proofs.validation_block.Goals as goal

pub answer-requires : goal.answer-requires
answer-requires c =
    let a = c.args in
    let room = length a.out.now in
    answer_room (validation_block a.validation.now a.account.now room) room (call_block a.validation.now a.account.now room) _ c.judged.ensures

pub returns : goal.returns
returns c =
    let a = c.args in
    let room = length a.out.now in
    answer_says (validation_block a.validation.now a.account.now room) room (call_block a.validation.now a.account.now room) _ c.judged.ensures c.answer.ensures
