-- `keybox::slices` meets its contract.
use mathlib.Core.Path.{sym, ◌∙◌}
use Rattle.nibbles.proofs.Bytes.{bytes_below}
use Rattle.keybox.proofs.Laws.{slices_held}
use Rattle.keybox.proofs.slices.Goals as goal

pub returns-clause-held : goal.returns-clause-held
returns-clause-held c =
    let a = c.args in
    slices_held a.block.now a.enciphered.now (bytes_below a.block.now c.type_inv.block) (bytes_below a.enciphered.now c.type_inv.enciphered)
    _ _ (sym c.in_ok-clear.was ∙ c.sized_row.ensures) (sym c.in_ok-cipher.was ∙ c.sized_row-2.ensures)
