-- A whole command, whose fields end where it ends: what the paper writes is read, and nothing else.
use Rattle.std.specs.Prelude.{ℕ, ◌+◌, ◌≡◌, ◌↔◌, List, [], length, drop}
use Rattle.fields.specs.Fields.{Stage, read, faulty}
use Rattle.fields.specs.declared.Fault.{Fault}
use Rattle.texts.specs.Exact.{Writing}

-- a command: its parts, which of them are one, their text, and what is read of parts that begin at a place
pub record Command (A : Type 0) : Type 1 where
  pub Parts : Type 0
  pub is : Parts → Type 0
  pub text : Parts → List ℕ
  pub placed : ℕ → Parts → A

-- how its fields are written: nothing is behind them
abbrev pub written : {A : Type 0} → Command A → ℕ → Writing A
written c at = record { Part = c.Parts; fine = λ p rest. (rest ≡ []) × c.is p; text = c.text; value = c.placed at }

-- 1. the text of such parts is read without a fault, to its end, and what is read are those parts, at the places where they stand
abbrev pub ReadBack : {A : Type 0} → Command A → (List ℕ → ℕ → Stage A) → Type 0
ReadBack c fields = (s : List ℕ) (at : ℕ) (p : c.Parts) → c.is p → drop at s ≡ c.text p → fields s at ≡ read (c.placed at p) (at + length (c.text p))

-- 2. nothing else: fields that are read without a fault are the text of such parts, and end with the command
abbrev pub NothingElse : {A : Type 0} → Command A → (List ℕ → ℕ → Stage A) → Type 0
NothingElse {A} c fields = (s : List ℕ) (at : ℕ) (v : A) (past : ℕ) → fields s at ≡ read v past
    → (p : c.Parts) × c.is p × (drop at s ≡ c.text p) × (v ≡ c.placed at p) × (past ≡ at + length (c.text p))

-- 3. so the fields are refused exactly when no parts write the command
abbrev pub RefusedExactly : {A : Type 0} → Command A → (List ℕ → ℕ → Stage A) → Type 0
RefusedExactly c fields = (s : List ℕ) (at : ℕ) → ((f : Fault) × (fields s at ≡ faulty f)) ↔ ((p : c.Parts) → c.is p → drop at s ≡ c.text p → ⊥)

-- and two different parts never write the same bytes
abbrev pub PartsSettled : {A : Type 0} → Command A → Type 0
PartsSettled c = (p q : c.Parts) → c.is p → c.is q → c.text p ≡ c.text q → p ≡ q

-- all of it, of a command and of what reads its fields at a place
pub record Exactly {A : Type 0} (c : Command A) (fields : List ℕ → ℕ → Stage A) : Type 0 where
  pub read_back : ReadBack c fields
  pub nothing_else : NothingElse c fields
  pub refused_exactly : RefusedExactly c fields
  pub parts_settled : PartsSettled c
