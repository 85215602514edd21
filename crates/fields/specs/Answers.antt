-- The readers' answers as values of the code.
use Rattle.std.specs.Prelude.{ℕ, ◌+◌, Bool, cond, Option, Some, None, Result, Ok, Err}
use Rattle.numbers.specs.Answers.{result_of}
use Rattle.numbers.specs.declared.Refusal.{Refusal}
use Rattle.fields.specs.Fields.{Found, Stage, read, faulty}
use Rattle.fields.specs.declared.Cursor.{Cursor}
use Rattle.fields.specs.declared.Fault.{Fault}

-- the cursor at a place
abbrev pub cursor_at : ℕ → Cursor
cursor_at at = record { at = at }

-- what a reader found at a place: the value and the next cursor, or the refusal
abbrev pub found_at : {A : Type 0} → ℕ → Found A → Result (A × Cursor) Refusal
found_at at found = result_of (λ r. (r.0, cursor_at (at + r.1))) found

-- the cursor behind a mark, where the mark is
abbrev pub mark_from : ℕ → Bool → Option Cursor
mark_from at there = cond there (Some (cursor_at (at + 1))) None

-- what a stage read and the cursor behind it, or the fault
abbrev pub stage_of : {A : Type 0} → Stage A → Result (A × Cursor) Fault
stage_of (read a at) = Ok (a, cursor_at at)
stage_of (faulty f) = Err f
