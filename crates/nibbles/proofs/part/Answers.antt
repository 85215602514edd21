-- `nibbles::part` meets its contract.
use Prim.Native.Nat.{ℕ, ◌/◌, ◌%◌, ◌^◌}
use mathlib.Core.Path.{sym, ap, ap₂, ◌∙◌}
use Rattle.nibbles.proofs.Rows.{row_part, word_row, one_shifted, sixteen_power}
use Rattle.nibbles.specs.Nibbles.{word}
use Rattle.nibbles.proofs.part.Goals as goal

pub returns : goal.returns
returns c =
    let a = c.args in
    ap₂ (λ (x y : ℕ). a.w / x % y) (sixteen_power a.from) (one_shifted a.n c.requires.1)
    ∙ sym (ap word (row_part 16 a.from a.n a.w c.requires.2) ∙ word_row a.n (a.w / 16 ^ a.from))
