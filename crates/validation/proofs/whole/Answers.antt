-- `validation::whole` meets its contract.
use mathlib.Core.Path.{sym, ◌∙◌}
use Rattle.validation.proofs.Laws.{whole_other, whole_rest}
use Rattle.validation.proofs.whole.Goals as goal

pub returns-then-s-ne-WHOLE_WIDTH : goal.returns-then-s-ne-WHOLE_WIDTH
returns-then-s-ne-WHOLE_WIDTH c = rw (whole_other c.args.s.now c.if-s-ne-WHOLE_WIDTH.true)

pub returns-then-not-all_of : goal.returns-then-not-all_of
returns-then-not-all_of c =
    let rest = whole_rest c.args.s.now c.if-s-ne-WHOLE_WIDTH.false in
    rw (rest ∙ sym c.all_of.ensures ∙ c.if-not-all_of.true)

pub returns : goal.returns
returns c =
    let rest = whole_rest c.args.s.now c.if-s-ne-WHOLE_WIDTH.false in
    rw (rest ∙ sym c.all_of.ensures ∙ c.if-not-all_of.false)
