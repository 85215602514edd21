-- `ibm3624::reduced` meets its contract.
use mir.Facts.{to_z-of_z}
use Rattle.ibm3624.proofs.Signed.{difference_fits, raised_fits, raised_counts, plain_counts, raised_is, plain_is}
use Rattle.ibm3624.proofs.reduced.Goals as goal

pub overflow_add-result : goal.overflow_add-result
overflow_add-result c =
    let a = c.args in
    let h = c.requires.0 in
    let k = c.requires.1 in
    let d = to_z-of_z (rw (← c.less-d.ensures) at (difference_fits a.pin a.natural h k)) in
    let e = c.less-d.ensures in
    rw (d, e) (raised_fits a.pin a.natural h k)

pub overflow_cast-result : goal.overflow_cast-result
overflow_cast-result c =
    let a = c.args in
    let h = c.requires.0 in
    let k = c.requires.1 in
    let d = to_z-of_z (rw (← c.less-d.ensures) at (difference_fits a.pin a.natural h k)) in
    let e = c.less-d.ensures in
    rw (d, e, to_z-of_z (raised_fits a.pin a.natural h k)) (raised_counts a.pin a.natural h k)

pub overflow_cast-result-else-d-lt0 : goal.overflow_cast-result-else-d-lt0
overflow_cast-result-else-d-lt0 c =
    let a = c.args in
    let h = c.requires.0 in
    let k = c.requires.1 in
    let d = to_z-of_z (rw (← c.less-d.ensures) at (difference_fits a.pin a.natural h k)) in
    let e = c.less-d.ensures in
    rw (d, e) (plain_counts a.pin a.natural h k (rw (d, e) at c.if-d-lt0.false))

pub returns-then-d-lt0 : goal.returns-then-d-lt0
returns-then-d-lt0 c =
    let a = c.args in
    let h = c.requires.0 in
    let k = c.requires.1 in
    let d = to_z-of_z (rw (← c.less-d.ensures) at (difference_fits a.pin a.natural h k)) in
    let e = c.less-d.ensures in
    rw (d, e, to_z-of_z (raised_fits a.pin a.natural h k)) (raised_is a.pin a.natural h k (rw (d, e) at c.if-d-lt0.true))

pub returns-else-d-lt0 : goal.returns-else-d-lt0
returns-else-d-lt0 c =
    let a = c.args in
    let h = c.requires.0 in
    let k = c.requires.1 in
    let d = to_z-of_z (rw (← c.less-d.ensures) at (difference_fits a.pin a.natural h k)) in
    let e = c.less-d.ensures in
    rw (d, e) (plain_is a.pin a.natural h k (rw (d, e) at c.if-d-lt0.false))
