-- What the routines ask of the values that they are handed.
use Rattle.std.specs.Prelude.{ℕ, ◌≤◌, ◌≡◌, true}
use Rattle.nibbles.specs.Nibbles.{row, every}
use Rattle.pins.specs.Pins.{digit}

-- a PIN and a natural PIN of n digits each, at most 12, and m of their digits to cover
pub record Matched (m n pin natural : ℕ) : Type 0 where
  pub short : n ≤ 12
  pub within : m ≤ n
  pub digits : every digit (row n pin) ≡ true
  pub naturals : every digit (row n natural) ≡ true
