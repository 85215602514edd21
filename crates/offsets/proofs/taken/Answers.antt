-- `offsets::taken` meets its contract.
use mathlib.Core.Path.{sym, ap, ◌∙◌}
use lib.ListN.{length}
use borrow.Author.Tests.{eq-eqb}
use Rattle.numbers.specs.Numbers.{done}
use Rattle.numbers.proofs.Laws.{result_ok}
use Rattle.pins.proofs.Laws.{account_held, account_row}
use Rattle.ibm3624.specs.Ibm3624.{check_length}
use Rattle.offsets.specs.Offsets.{given}
use Rattle.offsets.proofs.taken.Goals as goal

pub returns-clause-held : goal.returns-clause-held
unfolding given
returns-clause-held c =
    let i = c.args.inputs in
    let k = result_ok (λ n. n) (check_length i.check) _ (sym c.in_ok-check_length.was ∙ c.check_length.ensures) in
    let s = rw c.block_width.ensures at c.in_ok-row.ensures.held in
    let n = account_held i.account.now c.account.result c.account.ensures _ c.in_ok-digits.was in
    let digits = n.1 ∙ ap done (sym (account_row i.account.now n.0 _ n.1 n.2)) in
    rw (k.1, s, digits, eq-eqb (length i.table.now) 16 c.if-inputs-ne16.false, c.in_ok-cipher.ensures.held)
