-- `offsets::judged_digits` meets its contract.
use Prim.Native.Nat.{ℕ}
use mathlib.Core.List.{List}
use mathlib.Core.Path.{ap, sym, ◌∙◌}
use borrow.Author.Tests.{le-leb}
use Rattle.offsets.proofs.Laws.{digits_parts, comparison_fit, digits_alike}
use Rattle.offsets.specs.Offsets.{digits_given, offset_for}
use Rattle.pins.specs.Answers.{reading_of}
use Rattle.offsets.proofs.judged_digits.Goals as goal

pub offset_for-requires : goal.offset_for-requires
offset_for-requires c =
    let a = c.args in
    (comparison_fit (digits_given a.check a.pin.now a.natural.now) (digits_alike a.check a.pin.now a.natural.now) _ (sym c.in_ok-p.was ∙ c.handed.ensures)).2

pub returns : goal.returns
returns c =
    let a = c.args in
    let p = comparison_fit (digits_given a.check a.pin.now a.natural.now) (digits_alike a.check a.pin.now a.natural.now) _ (sym c.in_ok-p.was ∙ c.handed.ensures) in
    rw (digits_parts a.variable a.check a.room a.pin.now a.natural.now, le-leb 12 a.room c.if-room-lt12.false, p.1) (c.offset_for.ensures ∙ ap (λ (q : List ℕ × List ℕ). reading_of (offset_for a.variable a.check q)) p.3)
