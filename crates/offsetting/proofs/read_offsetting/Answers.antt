-- `offsetting::read_offsetting` meets its contract.
use Prim.Native.Nat.{◌+◌}
use Rattle.std.proofs.Common.{rules}
use Rattle.std.proofs.lemmas.Result.{err_from_is_err_and}
use Rattle.alphabet.specs.declared.Class.TheVariants.{Digit}
use Rattle.numbers.specs.declared.Refusal.TheVariants.{Field15, Table25}
use Rattle.fields.specs.Fields.{run, number}
use Rattle.fields.proofs.Laws.{field_passed, field_refused}
use Rattle.offsetting.specs.Offsetting.{offsetting}
use Rattle.offsetting.proofs.read_offsetting.Goals as goal

-- written out: table_non_digit_called_15 falls by it
pub returns-in_err-validation : goal.returns-in_err-validation
unfolding offsetting
returns-in_err-validation c =
    let a = c.args in
    let s = a.command.now in
    let account = c.in_ok-check.account in
    let table = c.in_ok-table.table in
    let p = err_from_is_err_and c.from_residual-in_err-validation.result c.from_residual-in_err-validation.ensures.1 in
    rw (
      p.1,
      p.2,
      field_passed a.field a.start.at _ (number 4 12 Field15) s _ _ _ account c.number.ensures (search rules) c.in_ok-check.was,
      field_passed (a.field + 1) account.at _ (run Digit Field15 Field15 12) s _ _ _ table c.run.ensures (search rules) c.in_ok-table.was,
      field_refused (a.field + 2) table.at _ (run Digit Field15 Table25 16) s _ _ _ c.run-2.ensures (search rules) c.in_err-validation.was,
    )
