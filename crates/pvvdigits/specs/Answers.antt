-- What was taken of a row so far, as a value of the code.
use Rattle.std.specs.Prelude.{◌^◌, ◌≤◌, ◌<◌}
use Rattle.pins.specs.declared.Pin.{Pin}

-- at most four nibbles, and the word holds them and nothing behind them
pub record Taken (p : Pin) : Type 0 where
  pub short : p.length ≤ 4
  pub clean : p.digits < 16 ^ p.length
