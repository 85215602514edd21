-- "Offset, verdict and PVV": the input of the ABA PVV.
use Rattle.std.specs.Prelude.{ℕ, List, ◌∷◌, ◌++◌, take, leb}
use Rattle.numbers.specs.Numbers.{Outcome, unless}
use Rattle.numbers.specs.declared.Refusal.TheVariants.{Field15}
use Rattle.pins.specs.Pins.{last_of}

-- "the last 11 account digits, the key index (0 to 6, else 15) and the first four PIN digits": the digits, where the index is judged
unfoldable pub input_row : List ℕ → ℕ → List ℕ → List ℕ
input_row account index pin = last_of 11 account ++ (index ∷ take 4 pin)

-- "the key index (0 to 6, else 15)"
abbrev pub key_index : ℕ → Outcome ℕ
key_index index = unless Field15 (leb index 6) index
