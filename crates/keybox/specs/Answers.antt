-- The key box's answers as values of the code.
use Rattle.std.specs.Prelude.{ℕ, List, Result}
use Rattle.nibbles.specs.Nibbles.{word, row}
use Rattle.numbers.specs.Numbers.{Outcome}
use Rattle.numbers.specs.Answers.{result_of}
use Rattle.numbers.specs.declared.Refusal.{Refusal}
use Rattle.fields.specs.Fields.{Ruling}
use Rattle.fields.specs.declared.Fault.{Fault}
use Rattle.keybox.specs.declared.Boxed.{Boxed}

-- the words of two rows
abbrev pub words_of : List ℕ × List ℕ → Boxed
words_of rows = record { block = word rows.0; enciphered = word rows.1 }

-- and the rows that they hold
abbrev pub rows_held : Boxed → List ℕ × List ℕ
rows_held b = (row 16 b.block, row 16 b.enciphered)

-- the slices' rows, or the refusal
abbrev pub sliced_of : Outcome (List ℕ × List ℕ) → Result Boxed Refusal
sliced_of o = result_of words_of o

-- both parities are good, or the refusal
abbrev pub parity_of : Outcome (Unit {0}) → Result (Unit {0}) Refusal
parity_of o = result_of (λ u. u) o

-- the rows, or the fault
abbrev pub box_read : Ruling (List ℕ × List ℕ) → Result Boxed Fault
box_read o = result_of words_of o
