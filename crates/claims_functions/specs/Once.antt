-- What it means that the contract of a function admits one answer. The checker makes of each function f of a crate X what a
-- caller's proof reads: `f.ended` of X's contracts is f's signature with the parameters that are still there at exit, and
-- `f.Reads.Learnt` of X's proofs is what f's `ensures` clauses say of the arguments, the answer and those parameters.
use Rattle.std.specs.Prelude.{◌≡◌}
use contract.Lifetimes.{Lfts}
use denote.Triple.Entry.{Args, Res}
use denote.Triple.Clauses.{Ended, AtExit, Lasts, at_exit}

-- what a contract tells a caller: a claim about the lifetimes, the arguments, the answer and the parameters as they are at exit
abbrev pub Tells : Ended → Type 1
Tells T = (κs : Lfts T.signature.lifetimes) → Args T.signature κs → Res T.signature κs → AtExit T κs → Type 0

-- no second answer: at the same arguments two answers that a contract allows are equal, and so are two endings, which are what each
-- lent buffer holds at exit, to the last element
abbrev pub Settled : (T : Ended) → Tells T → Type 0
Settled T Told = (κs : Lfts T.signature.lifetimes) (a : Args T.signature κs) (r r' : Res T.signature κs) (ends ends' : Lasts T κs a)
    → Told κs a r (at_exit T κs a ends) → Told κs a r' (at_exit T κs a ends') → (r ≡ r') × (ends ≡ ends')
