-- The finish of a DA or an EA: the verdict on the offset that is presented.
use Rattle.std.specs.Prelude.{ℕ, List, Bool}
use Rattle.numbers.specs.Numbers.{Outcome, and_then}
use Rattle.verdicts.specs.Verdicts.{verdict_on}
use Rattle.pairing.specs.Pairing.{pair_at}
use Rattle.verifyfields.specs.VerifyFields.{offset_in}
use Rattle.verifyfields.specs.declared.Verification.{Verification}

-- "the block (20 or 24), 81", then the verdict of the paper, 00 or 01
unfoldable pub verify_finish : Bool → List ℕ → Verification → List ℕ × List ℕ → Outcome (List ℕ)
verify_finish variable s v rows =
    and_then (pair_at s v.sealed v.offsetting rows)
    (λ pair. verdict_on variable v.offsetting.check (offset_in s v) pair)
