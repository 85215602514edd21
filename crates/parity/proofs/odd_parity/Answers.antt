-- `parity::odd_parity` meets its contract.
use Rattle.std.proofs.Common.{rules, tests, ◌∙◌}
use Rattle.std.proofs.lemmas.Iterator.{YieldsList-from_slice}
use Rattle.std.proofs.lemmas.Iterator.Search.{all_from_yields_List}
use Rattle.parity.specs.Parity.{is_odd}
use Rattle.parity.proofs.Laws.{all_odd}
use Rattle.parity.proofs.odd_parity.Goals as goal

pub returns : goal.returns
returns c =
    all_from_yields_List is_odd _ _ _ c.all.ensures.ran (YieldsList-from_slice c.args.key.now (cc)) (λ x b q k. search (rules, tests)) ∙ all_odd c.args.key.now
