-- What it means that a reader reads exactly the texts of some parts: they are inverse to each other.
use Rattle.std.specs.Prelude.{ℕ, ◌+◌, ◌≡◌, List, ◌++◌, length, drop}
use Rattle.numbers.specs.Numbers.{done}
use Rattle.fields.specs.Fields.{Found, Stage, read}

-- how a field is written: its parts, which of them are fine before what stands behind the field, their text, and what is read of them.
-- A check length: the part 7 is fine since it lies from 4 to 12, its text is `07`, and 7 is read
pub record Writing (A : Type 0) : Type 1 where
  pub Part : Type 0
  pub fine : Part → List ℕ → Type 0
  pub text : Part → List ℕ
  pub value : Part → A

-- some characters begin with the text of fine parts: it has n of them, and a is what is read
pub record Opens {A : Type 0} (w : Writing A) (cs : List ℕ) (n : ℕ) (a : A) : Type 0 where
  pub part : w.Part
  pub rest : List ℕ
  pub good : w.fine part rest
  pub whole : cs ≡ w.text part ++ rest
  pub count : n ≡ length (w.text part)
  pub same : a ≡ w.value part

-- no two parts open the same characters
abbrev pub Apart : {A : Type 0} → Writing A → Type 0
Apart w = (p q : w.Part) (rest rest' : List ℕ) → w.fine p rest → w.fine q rest' → w.text p ++ rest ≡ w.text q ++ rest' → (p ≡ q) × (rest ≡ rest')

-- a reader is exact: what is written is read back, nothing else is read, and no two parts write the same
pub record Exact {A : Type 0} (reader : List ℕ → Found A) (w : Writing A) : Type 0 where
  pub back : (p : w.Part) (rest : List ℕ) → w.fine p rest → reader (w.text p ++ rest) ≡ done (w.value p, length (w.text p))
  pub only : (cs : List ℕ) (a : A) (n : ℕ) → reader cs ≡ done (a, n) → Opens w cs n a
  pub apart : Apart w

-- so is a stage that begins at a place of a command
pub record ExactAt {A : Type 0} (s : List ℕ) (at : ℕ) (stage : Stage A) (w : Writing A) : Type 0 where
  pub back : (p : w.Part) (rest : List ℕ) → w.fine p rest → drop at s ≡ w.text p ++ rest → stage ≡ read (w.value p) (at + length (w.text p))
  pub only : (a : A) (past : ℕ) → stage ≡ read a past → (n : ℕ) × (past ≡ at + n) × Opens w (drop at s) n a
  pub apart : Apart w
