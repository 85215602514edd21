-- `nibbles::put_bytes` meets its contract.
use Prim.Native.Nat.{ℕ}
use native.Mathlib.Omega.{arith}
use mathlib.Core.List.{List, ◌++◌}
use mathlib.Core.Path.{ap, ◌∙◌}
use lib.ListN.{drop}
use mir.Syntax.{w64}
use Rattle.std.specs.Int.{to_le_bytes}
use Rattle.nibbles.proofs.Bytes.{lows, packed}
use Rattle.nibbles.proofs.put_bytes.Goals as goal

pub returns : goal.returns
unfolding lows
returns c =
    let bytes = c.copy_from_slice.ensures.after ∙ c.to_le_bytes.ensures ∙ ap (to_le_bytes w64) c.exchanged.ensures ∙ packed c.args.w (omega arith) in
    ap (λ (xs : List ℕ). xs ++ drop 8 c.args.out.now) bytes
