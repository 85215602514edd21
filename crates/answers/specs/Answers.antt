-- The answers of the checks as values of the code.
use Rattle.std.specs.Prelude.{ℕ, ◌≤◌, List, Result, Ok, Err}
use Rattle.nibbles.specs.Nibbles.{row, nibs, packs}
use Rattle.numbers.specs.Numbers.{Outcome, done, refused, and_then}
use Rattle.pins.specs.Answers.{row_of}
use Rattle.pins.specs.declared.Pin.{Pin}
use Rattle.numbers.specs.declared.Refusal.{Refusal}

-- a block that was written, as a row in a word, or the refusal
abbrev pub block_of : Outcome (List ℕ) → Result ℕ Refusal
block_of o = row_of (and_then o (λ bytes. done (nibs bytes)))

-- what such an answer writes: the row's eight bytes, or nothing
abbrev pub bytes_of : Result ℕ Refusal → Outcome (List ℕ)
bytes_of (Ok w) = done (packs (row 16 w))
bytes_of (Err q) = refused q

-- there is room for what it writes
abbrev pub Roomy : Result ℕ Refusal → ℕ → Type 0
Roomy (Ok w) room = 8 ≤ room
Roomy (Err q) room = Unit {0}

-- a PIN's digits
abbrev pub digits_of : Pin → List ℕ
digits_of p = row p.length p.digits

-- what an answer that is a PIN writes: its digits, or nothing
abbrev pub digits_in : Result Pin Refusal → Outcome (List ℕ)
digits_in (Ok p) = done (digits_of p)
digits_in (Err q) = refused q

-- there is room for its digits
abbrev pub RoomyDigits : Result Pin Refusal → ℕ → Type 0
RoomyDigits (Ok p) room = (p.length ≤ 12) × (p.length ≤ room)
RoomyDigits (Err q) room = Unit {0}
