-- `translation::translate` meets its contract.
use lib.ListN.{length}
use Rattle.translation.proofs.Laws.{call_translated}
use Rattle.translation.specs.Translation.{translate_block}
use Rattle.answers.proofs.Laws.{Blocky, answer_room, answer_says}
use Rattle.nibbles.proofs.Bytes.{bytes_below}
use Rattle.translation.proofs.translate.Goals as goal

pub answer-requires : goal.answer-requires
answer-requires c =
    let a = c.args in
    let room = length a.out.now in
    let o = translate_block a.settings.restricted a.from a.to a.block.now a.account.now a.fill.now room in
    let blocky : Blocky o room = call_translated a.settings.restricted a.from a.to a.block.now a.account.now a.fill.now room
    (bytes_below a.block.now c.type_inv.block) (bytes_below a.fill.now c.type_inv.fill) in
    answer_room o room blocky _ c.judged.ensures

pub returns : goal.returns
returns c =
    let a = c.args in
    let room = length a.out.now in
    let o = translate_block a.settings.restricted a.from a.to a.block.now a.account.now a.fill.now room in
    let blocky : Blocky o room = call_translated a.settings.restricted a.from a.to a.block.now a.account.now a.fill.now room
    (bytes_below a.block.now c.type_inv.block) (bytes_below a.fill.now c.type_inv.fill) in
    answer_says o room blocky _ c.judged.ensures c.answer.ensures
