-- How formats, validation data, weak lists, maximum and offset are written, with what the readers read of each.
use Rattle.std.specs.Prelude.{ℕ, ◌+◌, ◌≡◌, List, [], ◌∷◌, Bool, false, length}
use Rattle.alphabet.specs.Alphabet.{begins}
use Rattle.formats.specs.declared.Format.{Format}
use Rattle.validation.specs.declared.Shape.{Shape}
use Rattle.validation.specs.declared.Shape.TheVariants.{Template, Whole}
use Rattle.weakfield.specs.WeakField.{none_at}
use Rattle.weak.specs.declared.Weak.{Weak}
use Rattle.texts.specs.Texts.{Optional, absent, present, optional_text}
use Rattle.texts.specs.Exact.{Writing}
use Rattle.texts_data.specs.DataTexts.{format_text, Allows, Validation, with_n, with_p, validation_text, IsValidation, WeakList, no_pins, pins, weak_text, IsWeakList, maximum_text, presented_text, IsPresented}

-- a format that is allowed
abbrev pub formats : Bool → Writing Format
formats restricted = record { Part = Format; fine = λ f _. Allows restricted f; text = format_text; value = λ f. f }

-- of validation data their shape is read, with the place of the N
abbrev pub shape : Validation → Shape
shape (with_n before behind) = Template (length before)
shape (with_p cs) = Whole

abbrev pub validations : Writing Shape
validations = record { Part = Validation; fine = λ v _. IsValidation v; text = validation_text; value = shape }

-- of a weak list that begins at a place count, length and the place of its entries are read: they stand behind mark, count and length
abbrev pub weak_in : ℕ → Optional WeakList → Weak
weak_in at absent = none_at at
weak_in at (present no_pins) = none_at (at + 3)
weak_in at (present (pins size es)) = record { count = length es; length = size; list = at + 5 }

-- where there is none the next character is not its mark
abbrev pub WeakFine : ℕ → Optional WeakList → List ℕ → Type 0
WeakFine mark absent rest = begins (mark ∷ []) rest ≡ false
WeakFine mark (present w) rest = IsWeakList w

abbrev pub weak_lists : ℕ → ℕ → Writing Weak
weak_lists mark at = record { Part = Optional WeakList; fine = WeakFine mark; text = optional_text (mark ∷ []) weak_text; value = weak_in at }

-- the maximum has no choice
abbrev pub maxima : Writing ℕ
maxima = record { Part = Unit {0}; fine = λ _ _. Unit {0}; text = λ _. maximum_text; value = λ _. 12 }

-- of an offset how many digits it has is read
abbrev pub offsets : Writing ℕ
offsets = record { Part = List ℕ; fine = λ digits _. IsPresented digits; text = presented_text; value = length }
