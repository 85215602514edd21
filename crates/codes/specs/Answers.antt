-- The answers of the checks as values of the code.
use Rattle.std.specs.Prelude.{Result}
use Rattle.numbers.specs.Numbers.{Outcome}
use Rattle.numbers.specs.Answers.{result_of}
use Rattle.numbers.specs.declared.Refusal.{Refusal}
use Rattle.formats.specs.declared.Format.{Format}

-- a format, or the refusal
abbrev pub chosen_of : Outcome Format → Result Format Refusal
chosen_of o = result_of (λ f. f) o
