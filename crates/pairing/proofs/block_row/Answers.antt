-- `pairing::block_row` meets its contract.
use Prim.Native.Nat.{ℕ}
use mathlib.Core.List.{map}
use mathlib.Core.Path.{refl, ap, ◌∙◌}
use Rattle.nibbles.specs.Nibbles.{word}
use Rattle.alphabet.specs.Alphabet.{value_of}
use Rattle.offsetting.specs.Offsetting.{part}
use Rattle.pairing.proofs.Laws.{cut, block_word}
use Rattle.pairing.proofs.block_row.Goals as goal

pub returns : goal.returns
returns c =
    let s = c.args.command.now in
    let b = c.args.sealed in
    block_word s b c.requires _ (c.values.ensures ∙ ap (λ (k : ℕ). word (map value_of (part s b.block k))) (cut b.block 16 16 refl))
