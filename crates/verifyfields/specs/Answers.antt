-- The answers of DA and EA as values of the code, and what their finish asks of the places.
use Rattle.std.specs.Prelude.{ℕ, ◌+◌, ◌≤◌, ◌≡◌, List, true, length, Result}
use Rattle.alphabet.specs.Alphabet.{all_of}
use Rattle.alphabet.specs.declared.Class.TheVariants.{Digit}
use Rattle.numbers.specs.Answers.{result_of}
use Rattle.fields.specs.Fields.{Stage, ruled}
use Rattle.fields.specs.declared.Fault.{Fault}
use Rattle.offsetting.specs.Offsetting.{part}
use Rattle.pairing.specs.Answers as inputs
use Rattle.verifyfields.specs.declared.Verification.{Verification}

-- the fields, or the fault
abbrev pub verification_read : Stage Verification → Result Verification Fault
verification_read o = result_of (λ x. x) (ruled o)

-- the places lie in the command, as the pairing asks, the offset has at most twelve digits there, and behind the trailer's mark there
-- are 32 characters at most
pub record Placed (s : List ℕ) (v : Verification) : Type 0 where
  pub offsetting : inputs.Placed s v.offsetting
  pub offset : v.offset + v.digits ≤ length s
  pub short : v.digits ≤ 12
  pub digits : all_of Digit (part s v.offset v.digits) ≡ true
  pub trailer : v.trailer ≤ length s
  pub tail : length s ≤ v.trailer + 33
