-- `validation::judged` meets its contract.
use Prim.Native.Nat.{ℕ}
use mathlib.Core.List.{List}
use mathlib.Core.Path.{sym, ap, ◌∙◌}
use Rattle.std.proofs.lemmas.Result.{err_from_is_err_and}
use Rattle.nibbles.specs.Nibbles.{word}
use Rattle.numbers.proofs.Laws.{result_ok, result_err}
use Rattle.pins.specs.Pins.{account_of}
use borrow.Author.Tests.{le-leb, lt-leb}
use Rattle.validation.proofs.Laws.{row_sixteen, row_block}
use Rattle.validation.specs.Validation.{validation_row, validation_block}
use Rattle.pins.proofs.Laws.{account_done, account_row}
use Rattle.pins.specs.Answers.{row_of}
use Rattle.validation.proofs.judged.Goals as goal

pub returns-then-room-lt8 : goal.returns-then-room-lt8
unfolding validation_block
returns-then-room-lt8 c = rw (lt-leb 8 c.args.room c.if-room-lt8.true)

pub returns-in_err-digits : goal.returns-in_err-digits
unfolding validation_block
returns-in_err-digits c =
    let a = c.args in
    let p = err_from_is_err_and c.from_residual.result c.from_residual.ensures.1 in
    let bad = result_err word (account_of a.account.now) _ (sym c.in_err-digits.was ∙ c.account.ensures) in
    rw (p.1, p.2, le-leb 8 a.room c.if-room-lt8.false, bad)

pub returns : goal.returns
unfolding validation_block
returns c =
    let a = c.args in
    let v = a.validation.now in
    let k = result_ok word (account_of a.account.now) _ (sym c.in_ok-digits.was ∙ c.account.ensures) in
    let d = account_done a.account.now k.0 k.1 in
    rw (le-leb 8 a.room c.if-room-lt8.false, k.1)
    (c.row.ensures ∙ ap (λ (ds : List ℕ). row_of (validation_row ds v)) (account_row a.account.now k.0 _ k.1 k.2)
    ∙ row_block (validation_row k.0 v) (λ ns e. row_sixteen k.0 v ns d.0 d.1 e))
