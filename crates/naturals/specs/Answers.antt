-- What the routines ask of the table that they are handed.
use Rattle.std.specs.Prelude.{ℕ, ◌≡◌, List, true, length}
use Rattle.alphabet.specs.Alphabet.{all_of}
use Rattle.alphabet.specs.declared.Class.TheVariants.{Digit}

-- the characters of a decimalisation table: sixteen, and digits
pub record Decimal (cs : List ℕ) : Type 0 where
  pub whole : length cs ≡ 16
  pub digits : all_of Digit cs ≡ true
