-- `pins::handed` meets its contract.
use mathlib.Core.Path.{sym, ◌∙◌}
use lib.ListN.{length}
use Rattle.std.proofs.lemmas.Result.{err_from_is_err_and}
use Rattle.numbers.proofs.Laws.{result_err}
use Rattle.pins.specs.Pins.{pin_length}
use Rattle.pins.proofs.handed.Goals as goal

-- written out: digits_judged_before_length falls by it
pub returns-in_err-pin_length : goal.returns-in_err-pin_length
returns-in_err-pin_length c =
    let bad = result_err (λ n. n) (pin_length (length c.args.digits.now)) _ (sym c.in_err-pin_length.was ∙ c.pin_length.ensures) in
    let p = err_from_is_err_and c.from_residual.result c.from_residual.ensures.1 in
    rw (p.1, p.2, bad)
