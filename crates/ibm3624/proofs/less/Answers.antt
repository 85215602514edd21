-- `ibm3624::less` meets its contract.
use native.Mathlib.Omega.{arith}
use mir.Facts.{to_z-of_z, to_z_pos}
use mir.Syntax.{w32}
use Rattle.ibm3624.proofs.Signed.{difference_fits}
use Rattle.ibm3624.proofs.less.Goals as goal

pub overflow_sub-result : goal.overflow_sub-result
overflow_sub-result c =
    let p = to_z_pos w32 {n = c.args.pin} (omega arith) in
    let q = to_z_pos w32 {n = c.args.natural} (omega arith) in
    rw (p, q) (difference_fits c.args.pin c.args.natural c.requires.0 c.requires.1)

pub returns : goal.returns
returns c =
    let p = to_z_pos w32 {n = c.args.pin} (omega arith) in
    let q = to_z_pos w32 {n = c.args.natural} (omega arith) in
    rw (p, q) (to_z-of_z (difference_fits c.args.pin c.args.natural c.requires.0 c.requires.1))
