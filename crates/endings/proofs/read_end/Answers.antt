-- `endings::read_end` meets its contract.
use Prim.Native.Nat.{◌+◌}
use mathlib.Core.Path.{ap}
use Rattle.std.proofs.Common.{Err, rules}
use Rattle.fields.specs.Fields.{trailer}
use Rattle.fields.proofs.Laws.{field_passed}
use Rattle.lmk.specs.Lmk.{lmk_field}
use Rattle.endings.specs.Endings.{end}
use Rattle.endings.proofs.Laws.{closed_over}
use Rattle.endings.proofs.read_end.Goals as goal

-- written out: leftovers_point_at_the_trailers_mark and leftovers_taken fall by it
pub returns-then-past-command : goal.returns-then-past-command
unfolding end
returns-then-past-command c =
    let a = c.args in
    let s = a.command.now in
    let own = c.in_ok-own.own in
    let mark = c.in_ok-own.mark in
    let past = c.in_ok-past.past in
    rw (
      field_passed a.field a.start.at _ lmk_field s _ _ own mark c.lmk_field-named.ensures (search rules) c.in_ok-own.was,
      field_passed (a.field + 1) mark.at _ trailer s _ _ _ past c.trailer-trailing.ensures (search rules) c.in_ok-past.was,
      closed_over a.keys own a.field a.start.at s mark.at past.at c.if-past-command.true,
    )
    (ap Err c.fault_at.ensures)
