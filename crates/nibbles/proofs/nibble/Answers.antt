-- `nibbles::nibble` meets its contract.
use Prim.Native.Nat.{ℕ, ◌/◌, ◌%◌}
use mathlib.Core.Path.{sym, ap, ◌∙◌}
use lib.Bits.{and_mask}
use Rattle.nibbles.proofs.Rows.{row_at, sixteen_power}
use Rattle.nibbles.proofs.nibble.Goals as goal

pub returns : goal.returns
returns c = and_mask _ 4 ∙ ap (λ (x : ℕ). c.args.w / x % 16) (sixteen_power c.args.i) ∙ sym (row_at 16 c.args.w c.args.i c.requires)
