-- The answers of the checks as values of the code.
use Rattle.std.specs.Prelude.{Result}
use Rattle.numbers.specs.Numbers.{Outcome}
use Rattle.numbers.specs.Answers.{result_of}
use Rattle.numbers.specs.declared.Refusal.{Refusal}
use Rattle.formats.specs.declared.Format.{Format}

-- the two formats, or the refusal
abbrev pub pair_from : Outcome (Format × Format) → Result (Format × Format) Refusal
pair_from o = result_of (λ p. p) o
