-- `answers::answer` meets its contract.
use Prim.Native.Nat.{ℕ}
use mathlib.Core.List.{◌++◌}
use mathlib.Core.Path.{◌≡◌, ap, sym, ◌∙◌}
use lib.ListN.{length, drop}
use Rattle.answers.specs.Answers.{bytes_of}
use Rattle.numbers.proofs.Laws.{does_write}
use Rattle.nibbles.proofs.Rows.{row_length}
use Rattle.nibbles.proofs.Bytes.{packs_length}
use Rattle.nibbles.specs.Nibbles.{row, packs}
use Rattle.answers.proofs.answer.Goals as goal

eight : (w : ℕ) → length (packs (row 16 w)) ≡ 8
eight w = packs_length 8 (row 16 w) (row_length 16 w)

-- written out: count_of_seven_for_a_block and one_fixed_block fall by it
pub returns-in-Ok : goal.returns-in-Ok
returns-in-Ok c =
    let a = c.args in
    let w = c.in-Ok.row in
    does_write (bytes_of a.judged) (packs (row 16 w)) a.out.now _ c.done.result (ap bytes_of c.in-Ok.is) c.done.ensures.0
    (c.done.ensures.1 ∙ sym (eight w)) (c.put_bytes.ensures ∙ ap (λ (n : ℕ). packs (row 16 w) ++ drop n a.out.now) (sym (eight w)))
