-- `blocks::under_veil` meets its contract.
use mathlib.Core.Path.{sym, ap, ◌∙◌}
use lib.Bits.{bit_xor, xor_lt}
use Rattle.nibbles.specs.Nibbles.{word}
use Rattle.nibbles.proofs.Rows.{row_xor, word_back}
use Rattle.blocks.proofs.under_veil.Goals as goal

pub returns-then-veiled : goal.returns-then-veiled
returns-then-veiled c =
    let a = c.args in
    let f = c.ranges in
    rw (← c.veiled.ensures, c.if-veiled.true)
    (sym (word_back (bit_xor a.block a.with) (xor_lt 64 a.block a.with f.block.fits f.with.fits)) ∙ ap word (row_xor 16 a.block a.with))

pub returns-else-veiled : goal.returns-else-veiled
returns-else-veiled c = rw (← c.veiled.ensures, c.if-veiled.false) (sym (word_back c.args.block c.ranges.block.fits))
