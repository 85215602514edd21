-- `answers::answer_digits` meets its contract.
use Prim.Native.Nat.{ℕ}
use mathlib.Core.List.{◌++◌}
use mathlib.Core.Path.{ap, sym, ◌∙◌}
use lib.ListN.{drop}
use Rattle.answers.specs.Answers.{digits_in, digits_of}
use Rattle.numbers.proofs.Laws.{does_write}
use Rattle.nibbles.proofs.Rows.{row_length}
use Rattle.answers.proofs.answer_digits.Goals as goal

-- written out: one_fixed_pin falls by it
pub returns-in-Ok : goal.returns-in-Ok
returns-in-Ok c =
    let a = c.args in
    let p = c.in-Ok.pin in
    let n = row_length p.length p.digits in
    does_write (digits_in a.judged) (digits_of p) a.out.now _ c.done.result (ap digits_in c.in-Ok.is) c.done.ensures.0
    (c.done.ensures.1 ∙ sym n) (c.put_nibbles.ensures ∙ ap (λ (k : ℕ). digits_of p ++ drop k a.out.now) (sym n))
