-- `blockcalls::read_block` meets its contract.
use lib.ListN.{length}
use Rattle.answers.proofs.Laws.{Digital, digits_room, digits_say}
use Rattle.blockcalls.proofs.Laws.{read_digital}
use Rattle.blockcalls.specs.BlockCalls.{read_block}
use Rattle.blockcalls.proofs.read_block.Goals as goal

pub answer_digits-requires : goal.answer_digits-requires
answer_digits-requires c =
    let a = c.args in
    let room = length a.out.now in
    let o = read_block a.format a.block.now a.account.now room in
    let digital : Digital o room = read_digital a.format a.block.now a.account.now room in
    digits_room o room digital _ c.judged_reading.ensures

pub returns : goal.returns
returns c =
    let a = c.args in
    let room = length a.out.now in
    let o = read_block a.format a.block.now a.account.now room in
    let digital : Digital o room = read_digital a.format a.block.now a.account.now room in
    digits_say o room digital _ c.judged_reading.ensures c.answer_digits.ensures
