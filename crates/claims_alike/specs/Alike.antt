-- One law for all commands: two that are both read, and are alike outside the characters of the PIN block, are read alike.
use Rattle.std.specs.Prelude.{ℕ, ◌+◌, ◌≤◌, ◌≡◌, List, take, drop}
use Rattle.fields.specs.Fields.{Stage, read, onward}
use Rattle.texts.specs.Exact.{Writing, ExactAt}

-- ---- a command, around its PIN block

-- a piece of a command, a stage and its text: what is written is read back, and nothing else is read
pub record Piece (A : Type 0) : Type 1 where
  pub stage : List ℕ → ℕ → Stage A
  pub writing : ℕ → Writing A
  pub exact : (s : List ℕ) (at : ℕ) → ExactAt s at (stage s at) (writing at)

-- a stage begins with n characters, and of two texts that it reads it tells apart only what stands behind these
pub record Passes {X : Type 0} (n : ℕ) (start : X → ℕ) (stage : List ℕ → ℕ → Stage X) : Type 0 where
  pub over : (s : List ℕ) (at : ℕ) (x : X) (past : ℕ) → stage s at ≡ read x past → (start x ≡ at) × (at + n ≤ past)
  pub blind : (s t : List ℕ) (at : ℕ) (x y : X) (past past' : ℕ) → drop (at + n) s ≡ drop (at + n) t
      → stage s at ≡ read x past → stage t at ≡ read y past' → stage t at ≡ read x past

-- how a command lies around a PIN block of n characters: what stands before it, the block with what belongs to it, what stands behind
pub record Layout (n : ℕ) (F X A S : Type 0) : Type 1 where
  pub front : Piece F
  pub block : Piece X
  pub tail : F → X → Piece A
  -- the front is fine whatever stands behind it
  pub whatever : (at : ℕ) (p : (front.writing at).Part) (rest rest' : List ℕ) → (front.writing at).fine p rest → (front.writing at).fine p rest'
  -- the block's characters, and where they begin: as its stage tells it, and as the whole command does
  pub start : X → ℕ
  pub passes : Passes n start block.stage
  pub place : A → ℕ
  pub placed : (f : F) (x : X) (at : ℕ) (p : ((tail f x).writing at).Part) → place (((tail f x).writing at).value p) ≡ start x
  -- what the response copies out of the command itself: it stands behind the block
  pub seen : A → List ℕ → S
  pub looked : (f : F) (x : X) (at : ℕ) (p : ((tail f x).writing at).Part) (s t : List ℕ) → ((i : ℕ) → at ≤ i → drop i s ≡ drop i t)
      → seen (((tail f x).writing at).value p) s ≡ seen (((tail f x).writing at).value p) t

-- its fields, from the left
abbrev pub fields : {n : ℕ} {F X A S : Type 0} → Layout n F X A S → List ℕ → ℕ → Stage A
fields c s at = onward (c.front.stage s at) (λ f at₂. onward (c.block.stage s at₂) (λ x at₃. (c.tail f x).stage s at₃))

-- ---- two commands

-- alike outside n characters from a place on
pub record Outside (n place : ℕ) (s t : List ℕ) : Type 0 where
  pub before : take place s ≡ take place t
  pub behind : drop (place + n) s ≡ drop (place + n) t

-- read alike: the same values and places, the block not before the fields, and the same to look at
pub record Alike {n : ℕ} {F X A S : Type 0} (c : Layout n F X A S) (s t : List ℕ) (at : ℕ) (a b : A) : Type 0 where
  pub same : a ≡ b
  pub within : at ≤ c.place a
  pub seen : c.seen a s ≡ c.seen b t

abbrev pub ReadAlike : Type 1
ReadAlike = (n : ℕ) (F X A S : Type 0) (c : Layout n F X A S) (s t : List ℕ) (at : ℕ) (a b : A) (past past' : ℕ)
    → fields c s at ≡ read a past → fields c t at ≡ read b past' → Outside n (c.place a) s t
    → Alike c s t at a b
