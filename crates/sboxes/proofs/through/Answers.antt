-- `sboxes::through` meets its contract.
use Rattle.fips46.proofs.Rows.{in_row}
use Rattle.sboxes.proofs.Laws.{permuted_at}
use Rattle.sboxes.proofs.through.Goals as goal

pub returns : goal.returns
returns c =
    let a = c.args in
    let pre = c.requires in
    (permuted_at a.n a.bits pre.0 pre.1 pre.2, in_row a.n a.bits pre.0 pre.1)
