-- `pvv::pvv_input` meets its contract.
use lib.ListN.{length}
use Rattle.pvv.proofs.Laws.{call_input}
use Rattle.pvv.specs.Pvv.{pvv_input}
use Rattle.answers.proofs.Laws.{Blocky, answer_room, answer_says}
use Rattle.pvv.proofs.pvv_input.Goals as goal

pub answer-requires : goal.answer-requires
answer-requires c =
    let a = c.args in
    let room = length a.out.now in
    let o = pvv_input a.format a.index a.block.now a.account.now room in
    let blocky : Blocky o room = call_input a.format a.index a.block.now a.account.now room in
    answer_room o room blocky _ c.judged_input.ensures

pub returns : goal.returns
returns c =
    let a = c.args in
    let room = length a.out.now in
    let o = pvv_input a.format a.index a.block.now a.account.now room in
    let blocky : Blocky o room = call_input a.format a.index a.block.now a.account.now room in
    answer_says o room blocky _ c.judged_input.ensures c.answer.ensures
