-- `nibbles::row_of` meets its contract.
use Prim.Native.Nat.{ℕ, ◌*◌, ◌/◌, ◌+◌}
use native.Mathlib.Omega.{arith}
use mathlib.Core.Path.{refl, ap, ◌∙◌}
use lib.Bits.{bit_and}
use lib.Seq.{take_all}
use Rattle.nibbles.proofs.Bytes.{bytes_below, gathered, gathered_next, gathered_room, lows, exchanged}
use Rattle.nibbles.proofs.row_of.Goals as goal

pub loop-i-init : goal.loop-i-init
unfolding gathered
loop-i-init c = refl

pub overflow_add-w : goal.overflow_add-w
overflow_add-w c =
    let l = c.loop-i in
    let bs = c.args.bytes.now in
    record { fits = gathered_room bs l.i l.w (omega arith) c.requires (bytes_below bs c.type_inv.bytes) l.invariant }

pub loop-i-preserved : goal.loop-i-preserved
loop-i-preserved c =
    let l = c.loop-i in
    let bs = c.args.bytes.now in
    gathered_next bs l.i l.w (omega arith) c.requires (bytes_below bs c.type_inv.bytes) l.invariant

pub returns : goal.returns
unfolding lows
returns c =
    let l = c.loop-i in
    let bs = c.args.bytes.now in
    c.exchanged.ensures ∙ ap (λ (w : ℕ). bit_and w 0x0F0F0F0F0F0F0F0F * 16 + bit_and (w / 16) 0x0F0F0F0F0F0F0F0F) (l.invariant ∙ ap gathered (take_all l.i bs (omega arith)))
    ∙ exchanged 8 bs (bytes_below bs c.type_inv.bytes) c.requires
