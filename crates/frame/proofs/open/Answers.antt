-- `frame::open` meets its contract.
use Prim.Native.Nat.{ℕ, ◌+◌}
use native.Mathlib.Omega.{arith}
use mathlib.Core.List.{◌∷◌, ◌++◌}
use mathlib.Core.Path.{ap, ◌∙◌}
use lib.ListN.{get_or, take, drop}
use lib.Seq.{length-take-le}
use Rattle.frame.proofs.Laws.{over_lent}
use Rattle.frame.specs.Frame.{opening, raised, in_two_digits}
use Rattle.frame.proofs.open.Goals as goal

pub returns : goal.returns
unfolding opening
returns c =
    let a = c.args in
    let header = take a.header a.command.now in
    let long = length-take-le a.header a.command.now (omega arith) in
    let headed = c.put_run.ensures ∙ ap (λ (k : ℕ). header ++ drop k a.out.now) long in
    let answer = get_or a.command.now a.header 0 ∷ raised (get_or a.command.now (a.header + 1) 0) ∷ in_two_digits a.number in
    over_lent header answer a.out.now _ a.header 4 long headed _ c.put_code.ensures
