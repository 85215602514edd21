-- What writing takes, as a value of the code.
use Rattle.std.specs.Prelude.{◌^◌, ◌≤◌, ◌<◌, ◌≡◌, true}
use Rattle.nibbles.specs.Nibbles.{every}
use Rattle.pins.specs.Pins.{digit}
use Rattle.pins.specs.declared.Pin.{Pin}
use Rattle.answers.specs.Answers.{digits_of}

-- a PIN as the routines make it: 4 to 12 digits, and its word holds them and nothing behind them
pub record Proper (p : Pin) : Type 0 where
  pub long : 4 ≤ p.length
  pub short : p.length ≤ 12
  pub digits : every digit (digits_of p) ≡ true
  pub clean : p.digits < 16 ^ p.length
