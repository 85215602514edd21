-- `pvvdigits::digits_of` meets its contract.
use lib.Dec.{lit≤}
use Rattle.pvvdigits.proofs.Laws.{scans_taken, scans_pvv}
use Rattle.nibbles.proofs.Rows.{row_below}
use Rattle.nibbles.specs.Nibbles.{row}
use Rattle.pvvdigits.proofs.digits_of.Goals as goal

pub scan-whole-requires : goal.scan-whole-requires
scan-whole-requires c =
    let e = c.args.enciphered in
    (scans_taken (row 16 e) (row_below 16 e) c.scan-decimal.result c.scan-decimal.ensures, lit≤ tt)

pub returns : goal.returns
returns c =
    let e = c.args.enciphered in
    scans_pvv (row 16 e) (row_below 16 e) c.scan-decimal.result c.scan-decimal.ensures c.scan-whole.result c.scan-whole.ensures
