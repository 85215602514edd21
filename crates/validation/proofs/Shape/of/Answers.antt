-- `validation::Shape::of` meets its contract.
use mathlib.Core.Path.{sym}
use borrow.Author.Tests.{eq-eqb, ne_eqb}
use Rattle.validation.proofs.Laws.{shape_none}
use Rattle.validation.specs.Validation.{shape_of}
use Rattle.validation.proofs.Shape.of.Goals as goal

pub returns-then-characters-eq0 : goal.returns-then-characters-eq0
returns-then-characters-eq0 c = sym (shape_none c.args.characters.now c.if-characters-eq0.true)

pub returns-then-characters-eq80 : goal.returns-then-characters-eq80
unfolding shape_of
returns-then-characters-eq80 c = rw (eq-eqb _ _ c.if-characters-eq80.true) c.whole.ensures

pub returns : goal.returns
unfolding shape_of
returns c = rw (ne_eqb _ _ c.if-characters-eq80.false) c.template.ensures
