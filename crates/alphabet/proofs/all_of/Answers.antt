-- `alphabet::all_of` meets its contract.
use mathlib.Core.Path.{sym, ap, ◌∙◌}
use Rattle.std.proofs.lemmas.Slice.{between_is}
use Rattle.alphabet.proofs.Laws.{all_on, all_over}
use Rattle.alphabet.specs.Alphabet.{all_of}
use Rattle.alphabet.proofs.all_of.Goals as goal

pub loop-c-preserved : goal.loop-c-preserved
loop-c-preserved c =
    let a = c.args in
    let l = c.loop-c in
    l.invariant ∙ all_on a.class _ l.good l.c-index c.loop-c-test.true ∙ rw c.admits-good.ensures

pub returns : goal.returns
returns c =
    let a = c.args in
    let l = c.loop-c in
    sym (ap (all_of a.class) (sym (between_is a.s.now a.from a.to)) ∙ l.invariant ∙ all_over a.class _ l.good l.c-index c.loop-c-test.false)
