-- The answers of the checks as values of the code: what the paper's outcome is for each.
use Rattle.std.specs.Prelude.{ℕ, List, length, Result}
use Rattle.nibbles.specs.Nibbles.{word}
use Rattle.numbers.specs.Numbers.{Outcome}
use Rattle.numbers.specs.Answers.{result_of}
use Rattle.numbers.specs.declared.Refusal.{Refusal}
use Rattle.pins.specs.declared.Pin.{Pin}

-- a count, or the refusal
abbrev pub count_of : Outcome ℕ → Result ℕ Refusal
count_of o = result_of (λ n. n) o

-- a PIN as a value: its length, and its digits as a row in a word
abbrev pub pin_of : List ℕ → Pin
pin_of ds = record { length = length ds; digits = word ds }

-- a PIN that was read or handed in, or the refusal
abbrev pub reading_of : Outcome (List ℕ) → Result Pin Refusal
reading_of o = result_of pin_of o

-- a row in a word, or the refusal
abbrev pub row_of : Outcome (List ℕ) → Result ℕ Refusal
row_of o = result_of word o
