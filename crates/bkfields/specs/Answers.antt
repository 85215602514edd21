-- BK's answers as values of the code, and what its finish asks of the places.
use Rattle.std.specs.Prelude.{ℕ, ◌+◌, ◌≤◌, List, length, Result}
use Rattle.numbers.specs.Answers.{result_of}
use Rattle.fields.specs.Fields.{Stage, ruled}
use Rattle.fields.specs.declared.Fault.{Fault}
use Rattle.weak.specs.Answers.{Lies}
use Rattle.pairing.specs.Answers as inputs
use Rattle.bkfields.specs.declared.Bk.{Bk}

-- the fields, or the fault
abbrev pub bk_read : Stage Bk → Result Bk Fault
bk_read o = result_of (λ x. x) (ruled o)

-- the places lie in the command, as the pairing and the weak list ask, and behind the trailer's mark there are 32 characters at most
pub record Placed (s : List ℕ) (p : Bk) : Type 0 where
  pub offsetting : inputs.Placed s p.offsetting
  pub weak : Lies p.weak s
  pub trailer : p.trailer ≤ length s
  pub tail : length s ≤ p.trailer + 33
