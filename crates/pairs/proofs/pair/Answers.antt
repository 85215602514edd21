-- `pairs::pair` meets its contract.
use mathlib.Core.Path.{ap, sym, ◌∙◌}
use Rattle.numbers.proofs.Laws.{result_ok}
use Rattle.codes.specs.Codes.{code_of, is_known, format_of}
use Rattle.pairs.specs.Pairs.{pair_of}
use Rattle.pairs.proofs.pair.Goals as goal

-- written out: restricted_pair_judged_backwards falls by it
pub returns-then-not-may : goal.returns-then-not-may
unfolding pair_of
returns-then-not-may c =
    let a = c.args in
    let read = result_ok _ (format_of (code_of a.from)) _ (sym c.in_ok-read.was ∙ c.chosen.ensures) in
    let written = result_ok _ (format_of (code_of a.to)) _ (sym c.in_ok-written.was ∙ c.chosen-2.ensures) in
    rw (
      ap is_known (sym c.from.ensures) ∙ sym c.is_known.ensures ∙ c.if-not-is_known.false,
      ap is_known (sym c.from-2.ensures) ∙ sym c.is_known-2.ensures ∙ c.if-not-is_known-2.false,
      read.1,
      written.1,
      ← read.2,
      ← written.2,
      sym c.may.ensures ∙ c.if-not-may.true,
    )
