-- Where a fault may point. The C face has 32 bits for a place and for a field: it rests on these bounds.
use Rattle.std.specs.Prelude.{ℕ, ◌≤◌, List, length}
use Rattle.numbers.specs.Numbers.{done, refused}
use Rattle.frame.specs.Frame.{longest_command}
use Rattle.fields.specs.Fields.{Stage, read, faulty, Ruling}
use Rattle.fields.specs.declared.Fault.{Fault}

-- the last field's number, of every command
abbrev pub last_field : ℕ
last_field = 12

-- into the command or at its end, and at a field or at none
pub record Points (s : List ℕ) (f : Fault) : Type 0 where
  pub place : f.place ≤ length s
  pub field : f.field ≤ last_field

-- so of a stage: what it read has what is asked of it, and it goes on in the command
abbrev pub StaysIn : {A : Type 0} → List ℕ → (A → Type 0) → Stage A → Type 0
StaysIn s Asked (read a at) = (at ≤ length s) × Asked a
StaysIn s Asked (faulty f) = Points s f

-- and of what a command comes to
abbrev pub RulesIn : {A : Type 0} → List ℕ → Ruling A → Type 0
RulesIn s (done a) = Unit {0}
RulesIn s (refused f) = Points s f

-- no place is beyond the longest command
abbrev pub RulesShort : {A : Type 0} → List ℕ → Ruling A → Type 0
RulesShort s (done a) = Unit {0}
RulesShort s (refused f) = Points s f × (f.place ≤ longest_command)
