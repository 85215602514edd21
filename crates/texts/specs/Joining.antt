-- Writings made of writings: one behind the other, one or another, and the same in other parts.
use Rattle.std.specs.Prelude.{ℕ, ◌+◌, ◌≡◌, ◌⊎◌, List, [], ◌∷◌, ◌++◌, false, length}
use Rattle.std.proofs.Common.{inl, inr}
use Rattle.alphabet.specs.Alphabet.{begins}
use Rattle.texts.specs.Texts.{Optional, absent, present, optional_text}
use Rattle.texts.specs.Exact.{Writing}

-- what comes behind some parts that begin at a place: it may depend on what was read of them, and on its own place
abbrev pub following : {A B : Type 0} → ℕ → (w : Writing A) → (A → ℕ → Writing B) → w.Part → Writing B
following at w next p = next (w.value p) (at + length (w.text p))

-- one after the other
abbrev pub joined : {A B : Type 0} → ℕ → Writing A → (A → ℕ → Writing B) → Writing B
joined at w next = record {
  Part = (p : w.Part) × (following at w next p).Part;
  fine = λ p rest. w.fine p.0 ((following at w next p.0).text p.1 ++ rest) × (following at w next p.0).fine p.1 rest;
  text = λ p. w.text p.0 ++ (following at w next p.0).text p.1;
  value = λ p. (following at w next p.0).value p.1;
}

-- the same texts, read as other values
abbrev pub mapped : {A B : Type 0} → (A → B) → Writing A → Writing B
mapped f w = record { Part = w.Part; fine = w.fine; text = w.text; value = λ p. f (w.value p) }

-- behind a letter; or else another one, which does not begin with the letter
abbrev pub EitherFine : {A : Type 0} → ℕ → (w v : Writing A) → w.Part ⊎ v.Part → List ℕ → Type 0
EitherFine m w v (inl p) rest = w.fine p rest
EitherFine m w v (inr p) rest = (begins (m ∷ []) (v.text p ++ rest) ≡ false) × v.fine p rest

abbrev pub either_text : {A : Type 0} → ℕ → (w v : Writing A) → w.Part ⊎ v.Part → List ℕ
either_text m w v (inl p) = m ∷ w.text p
either_text m w v (inr p) = v.text p

abbrev pub either_value : {A : Type 0} → (w v : Writing A) → w.Part ⊎ v.Part → A
either_value w v (inl p) = w.value p
either_value w v (inr p) = v.value p

abbrev pub either : {A : Type 0} → ℕ → Writing A → Writing A → Writing A
either m w v = record { Part = w.Part ⊎ v.Part; fine = EitherFine m w v; text = either_text m w v; value = either_value w v }

-- behind a mark, or absent, where the next character is not the mark
abbrev pub OptionalFine : {A : Type 0} → List ℕ → (w : Writing A) → Optional w.Part → List ℕ → Type 0
OptionalFine mark w absent rest = begins mark rest ≡ false
OptionalFine mark w (present p) rest = w.fine p rest

abbrev pub optional_value : {A : Type 0} → (w : Writing A) → A → Optional w.Part → A
optional_value w none absent = none
optional_value w none (present p) = w.value p

abbrev pub optional : {A : Type 0} → List ℕ → Writing A → A → Writing A
optional mark w none =
    record { Part = Optional w.Part; fine = OptionalFine mark w; text = optional_text mark w.text; value = optional_value w none }

-- the same texts with the same values, in other parts
pub record Same {A : Type 0} (w v : Writing A) : Type 0 where
  pub to : w.Part → v.Part
  pub text : (p : w.Part) → v.text (to p) ≡ w.text p
  pub value : (p : w.Part) → v.value (to p) ≡ w.value p
  pub good : (p : w.Part) (rest : List ℕ) → w.fine p rest → v.fine (to p) rest
  pub from : (q : v.Part) (rest : List ℕ) → v.fine q rest → (p : w.Part) × (to p ≡ q) × w.fine p rest
