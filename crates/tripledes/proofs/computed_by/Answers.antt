-- `tripledes::computed_by` meets its contract.
use Rattle.fips46.proofs.Undo.{three_on_end}
use Rattle.tripledes.proofs.computed_by.Goals as goal

pub returns : goal.returns
returns c =
    let a = c.args in
    cc (three_on_end a.k1.now a.k2.now a.k3.now a.w)
