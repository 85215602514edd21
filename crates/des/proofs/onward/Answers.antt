-- `des::onward` meets its contract.
use Prim.Native.Nat.{◌+◌}
use native.Mathlib.Omega.{arith}
use mathlib.Core.Path.{ap, ◌∙◌, sym}
use lib.ListN.{drop, drop_of_length-le}
use Rattle.fips46.specs.Fips46.{f, iterations}
use Rattle.fips46.proofs.Iterations.{iterations_next}
use Rattle.des.proofs.onward.Goals as goal

pub loop-k-preserved : goal.loop-k-preserved
loop-k-preserved c =
    let ks = c.args.ks.now in
    let l = c.loop-k in
    l.invariant ∙ iterations_next f ks l.k-index l.x c.loop-k-test.true ∙ ap (iterations f (drop (l.k-index + 1) ks)) (sym c.iterate-x.ensures)

pub returns : goal.returns
unfolding iterations
returns c =
    let ks = c.args.ks.now in
    let l = c.loop-k in
    sym (l.invariant ∙ ap (λ s. iterations f s l.x) (drop_of_length-le ks {i = l.k-index} (omega arith)))
