-- `words::word_of` meets its contract.
use native.Mathlib.Omega.{arith}
use mathlib.Core.List.{List}
use mathlib.Core.Path.{ap, ◌∙◌}
use Prim.Native.Nat.{ℕ}
use mir.Syntax.{w64}
use Rattle.std.specs.Int.{from_be_bytes}
use Rattle.words.proofs.Words.{spelled_from}
use Rattle.words.proofs.word_of.Goals as goal

pub returns : goal.returns
returns c =
    let bs = c.args.block.now in
    let whole = rw c.unwrap.ensures at c.try_from.ensures.1 in
    spelled_from bs c.from_be_bytes.result c.requires (λ i. omega (arith, c.type_inv.block i)) (omega arith)
    (c.from_be_bytes.ensures ∙ ap (λ (xs : List ℕ). from_be_bytes w64 xs) whole.same)
