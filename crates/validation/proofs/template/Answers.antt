-- `validation::template` meets its contract.
use mathlib.Core.Path.{ap, sym, ◌∙◌}
use borrow.Author.Tests.{ne_eqb}
use Rattle.validation.proofs.Laws.{template_end, template_other, template_rest}
use Rattle.validation.specs.declared.Shape.TheVariants.{Template}
use Rattle.validation.proofs.template.Goals as goal

pub returns-then-s-ne-TEMPLATE_WIDTH : goal.returns-then-s-ne-TEMPLATE_WIDTH
returns-then-s-ne-TEMPLATE_WIDTH c = rw (ne_eqb _ 12 c.if-s-ne-TEMPLATE_WIDTH.true)

pub returns-then-at-ge12 : goal.returns-then-at-ge12
returns-then-at-ge12 c =
    let s = c.args.s.now in
    rw (template_end s c.class_end-at.result c.class_end-at.ensures c.if-s-ne-TEMPLATE_WIDTH.false c.if-at-ge12.true)

pub returns-then-s-at-ne78 : goal.returns-then-s-at-ne78
returns-then-s-at-ne78 c =
    let s = c.args.s.now in
    rw (template_other s c.class_end-at.result c.class_end-at.ensures c.if-s-ne-TEMPLATE_WIDTH.false c.if-s-at-ne78.true)

pub returns-then-not-all_of : goal.returns-then-not-all_of
returns-then-not-all_of c =
    let s = c.args.s.now in
    let rest = template_rest s c.class_end-at.result c.class_end-at.ensures c.if-s-ne-TEMPLATE_WIDTH.false c.if-s-at-ne78.false in
    rw (rest ∙ sym c.all_of.ensures ∙ c.if-not-all_of.true)

pub returns : goal.returns
returns c =
    let s = c.args.s.now in
    let e = c.class_end-at.ensures in
    let rest = template_rest s c.class_end-at.result e c.if-s-ne-TEMPLATE_WIDTH.false c.if-s-at-ne78.false in
    rw (rest ∙ sym c.all_of.ensures ∙ c.if-not-all_of.false) (ap Template e)
