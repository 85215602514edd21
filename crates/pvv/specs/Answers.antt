-- What the calls were given, as values of the code.
use Rattle.std.specs.Prelude.{ℕ, List, Result}
use Rattle.nibbles.specs.Nibbles.{word, row}
use Rattle.numbers.specs.Numbers.{Outcome}
use Rattle.numbers.specs.Answers.{result_of}
use Rattle.numbers.specs.declared.Refusal.{Refusal}
use Rattle.pvv.specs.declared.Rows.{Rows}

-- the block and the account as rows in words, and the index
abbrev pub rows_of : List ℕ × List ℕ × ℕ → Rows
rows_of g = record { block = word g.0; account = word g.1; index = g.2 }

-- them, or the refusal
abbrev pub given_of : Outcome (List ℕ × List ℕ × ℕ) → Result Rows Refusal
given_of o = result_of rows_of o

-- the rows that such a value holds, and its index
abbrev pub rows_in : Rows → List ℕ × List ℕ × ℕ
rows_in r = (row 16 r.block, row 12 r.account, r.index)
