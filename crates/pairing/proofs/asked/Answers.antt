-- `pairing::asked` meets its contract.
use Prim.Native.Nat.{ℕ}
use mathlib.Core.Path.{sym, ap, ◌∙◌}
use lib.ListN.{take, drop}
use Rattle.nibbles.specs.Nibbles.{row}
use Rattle.pins.specs.Answers.{row_of}
use Rattle.validation.specs.Validation.{validation_row}
use Rattle.validation.specs.Validation.{shape_of, shape_width}
use Rattle.pairing.proofs.Laws.{cut, asked_block}
use Rattle.pairing.proofs.asked.Goals as goal

pub row-requires : goal.row-requires
row-requires c =
    let o = c.args.inputs in
    c.requires.shape
    ∙ ap (λ (n : ℕ). shape_of (take n (drop o.validation c.args.command.now))) (sym (cut o.validation (shape_width o.shape) _ c.width.ensures))

pub returns : goal.returns
returns c =
    let s = c.args.command.now in
    let o = c.args.inputs in
    let account = c.account_at-account in
    c.row.ensures
    ∙ ap (λ (n : ℕ). row_of (validation_row (row 12 account.result) (take n (drop o.validation s)))) (cut o.validation (shape_width o.shape) _ c.width.ensures)
    ∙ asked_block s o c.requires account.result account.ensures
