-- The answers of the checks as values of the code.
use Rattle.std.specs.Prelude.{ℕ, ◌≤◌, ◌≡◌, List, true, length, Result, Ok, Err}
use Rattle.nibbles.specs.Nibbles.{word, row, every}
use Rattle.numbers.specs.Numbers.{Outcome, done, refused}
use Rattle.numbers.specs.Answers.{result_of}
use Rattle.numbers.specs.declared.Refusal.{Refusal}
use Rattle.pins.specs.Pins.{digit}
use Rattle.pins.specs.declared.Pin.{Pin}
use Rattle.answers.specs.Answers.{digits_of}
use Rattle.offsettexts.specs.OffsetTexts.{offset_text}
use Rattle.offsets.specs.declared.Rows.{Rows}
use Rattle.offsets.specs.declared.Compared.{Compared}

-- the block, the account and the enciphered block as rows in words, or the refusal
abbrev pub rows_of : List ℕ × List ℕ × List ℕ → Rows
rows_of g = record { block = word g.0; account = word g.1; enciphered = word g.2 }

abbrev pub given_of : Outcome (List ℕ × List ℕ × List ℕ) → Result Rows Refusal
given_of o = result_of rows_of o

-- a PIN and its natural PIN as rows in words, or the refusal
abbrev pub compared_of : List ℕ × List ℕ → Compared
compared_of p = record { length = length p.0; pin = word p.0; natural = word p.1 }

abbrev pub comparison_of : Outcome (List ℕ × List ℕ) → Result Compared Refusal
comparison_of o = result_of compared_of o

-- the rows that such a value holds
abbrev pub rows_in : Rows → List ℕ × List ℕ × List ℕ
rows_in r = (row 16 r.block, row 12 r.account, row 16 r.enciphered)

abbrev pub pair_in : Compared → List ℕ × List ℕ
pair_in p = (row p.length p.pin, row p.length p.natural)

-- a PIN and natural PIN that may be compared: at most 12 digits each
pub record Fit (p : Compared) : Type 0 where
  pub short : p.length ≤ 12
  pub digits : every digit (row p.length p.pin) ≡ true
  pub naturals : every digit (row p.length p.natural) ≡ true

-- what an answer writes: the offset's text, or nothing
abbrev pub text_of : Result Pin Refusal → Outcome (List ℕ)
text_of (Ok p) = done (offset_text (digits_of p))
text_of (Err q) = refused q

-- there is room for it
abbrev pub Roomy : Result Pin Refusal → ℕ → Type 0
Roomy (Ok p) room = (p.length ≤ 12) × (12 ≤ room)
Roomy (Err q) room = Unit {0}
