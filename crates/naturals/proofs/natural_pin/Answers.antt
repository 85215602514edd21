-- `naturals::natural_pin` meets its contract.
use lib.ListN.{length}
use Rattle.naturals.proofs.Laws.{natural_digital}
use Rattle.naturals.specs.Naturals.{natural_pin}
use Rattle.answers.proofs.Laws.{Digital, digits_room, digits_say}
use Rattle.nibbles.proofs.Bytes.{bytes_below}
use Rattle.naturals.proofs.natural_pin.Goals as goal

pub answer_digits-requires : goal.answer_digits-requires
answer_digits-requires c =
    let a = c.args in
    let room = length a.out.now in
    let o = natural_pin a.length a.table.now a.enciphered.now room in
    let digital : Digital o room = natural_digital a.length a.table.now a.enciphered.now room (bytes_below a.enciphered.now c.type_inv.enciphered) in
    digits_room o room digital _ c.judged_natural.ensures

pub returns : goal.returns
returns c =
    let a = c.args in
    let room = length a.out.now in
    let o = natural_pin a.length a.table.now a.enciphered.now room in
    let digital : Digital o room = natural_digital a.length a.table.now a.enciphered.now room (bytes_below a.enciphered.now c.type_inv.enciphered) in
    digits_say o room digital _ c.judged_natural.ensures c.answer_digits.ensures
