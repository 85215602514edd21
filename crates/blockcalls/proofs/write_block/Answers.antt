-- `blockcalls::write_block` meets its contract.
use lib.ListN.{length}
use Rattle.answers.proofs.Laws.{Blocky, answer_room, answer_says}
use Rattle.blockcalls.proofs.Laws.{call_written}
use Rattle.blockcalls.specs.BlockCalls.{write_block}
use Rattle.nibbles.proofs.Bytes.{bytes_below}
use Rattle.blockcalls.proofs.write_block.Goals as goal

pub answer-requires : goal.answer-requires
answer-requires c =
    let a = c.args in
    let o = write_block a.format a.pin.now a.account.now a.fill.now (length a.out.now) in
    let b = call_written a.format a.pin.now a.account.now a.fill.now (length a.out.now) in
    let fill = bytes_below a.fill.now c.type_inv.fill in
    let blocky : Blocky o (length a.out.now) = λ bs e. b bs fill e in
    answer_room o (length a.out.now) blocky _ c.judged_writing.ensures

pub returns : goal.returns
returns c =
    let a = c.args in
    let o = write_block a.format a.pin.now a.account.now a.fill.now (length a.out.now) in
    let b = call_written a.format a.pin.now a.account.now a.fill.now (length a.out.now) in
    let fill = bytes_below a.fill.now c.type_inv.fill in
    let blocky : Blocky o (length a.out.now) = λ bs e. b bs fill e in
    answer_says o (length a.out.now) blocky _ c.judged_writing.ensures c.answer.ensures
