-- What is asked of the places, and the rows that the code holds.
use Rattle.std.specs.Prelude.{ℕ, ◌+◌, ◌≤◌, ◌≡◌, List, true, length}
use Rattle.nibbles.specs.Nibbles.{row}
use Rattle.alphabet.specs.Alphabet.{all_of}
use Rattle.alphabet.specs.declared.Class.TheVariants.{Digit}
use Rattle.validation.specs.Validation.{shape_of, shape_width}
use Rattle.keybox.specs.declared.Boxed.{Boxed}
use Rattle.offsetting.specs.Offsetting.{part, validation_in}
use Rattle.offsetting.specs.declared.Offsetting.{Offsetting}

-- the places lie in the command, account and table have digits, the shape is that of the validation data, and the check length is one
pub record Placed (s : List ℕ) (o : Offsetting) : Type 0 where
  pub account : o.account + 12 ≤ length s
  pub number : all_of Digit (part s o.account 12) ≡ true
  pub table : o.table + 16 ≤ length s
  pub digits : all_of Digit (part s o.table 16) ≡ true
  pub validation : o.validation + shape_width o.shape ≤ length s
  pub shape : o.shape ≡ shape_of (validation_in s o)
  pub check : o.check ≤ 12

-- the rows that the key box answered
abbrev pub box_rows : Boxed → List ℕ × List ℕ
box_rows b = (row 16 b.block, row 16 b.enciphered)
