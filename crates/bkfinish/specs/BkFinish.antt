-- The finish of a BK: the offset for a terminal PIN.
use Rattle.std.specs.Prelude.{ℕ, List, Bool, not}
use Rattle.numbers.specs.Numbers.{Outcome, and_then, unless}
use Rattle.numbers.specs.declared.Refusal.TheVariants.{Weak86}
use Rattle.offsets.specs.Offsets.{offset_for}
use Rattle.weak.specs.Weak.{is_on, weak_pins}
use Rattle.pairing.specs.Pairing.{pair_at}
use Rattle.bkfields.specs.declared.Bk.{Bk}

-- "the block (20 or 24), 81, 86": the offset's digits
unfoldable pub bk_finish : Bool → List ℕ → Bk → List ℕ × List ℕ → Outcome (List ℕ)
bk_finish variable s p rows =
    and_then (pair_at s p.sealed p.offsetting rows)
    (λ pair. and_then (offset_for variable p.offsetting.check pair)
    (λ ds. unless Weak86 (not (is_on pair.0 (weak_pins p.weak s))) ds))
