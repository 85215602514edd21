-- `offsettexts::only_f` meets its contract.
use mathlib.Core.Path.{◌∙◌}
use Rattle.std.proofs.Common.{rules}
use borrow.Author.Tests.{tests}
use Rattle.std.proofs.lemmas.Iterator.{YieldsList-from_slice}
use Rattle.std.proofs.lemmas.Iterator.Search.{all_from_yields_List}
use Rattle.pins.proofs.Laws.{every_one}
use Rattle.nibbles.specs.Nibbles.{within}
use Rattle.offsettexts.proofs.only_f.Goals as goal

pub returns : goal.returns
returns c =
    let s = c.args.s.now in
    all_from_yields_List (within 0x46 0x46) _ _ c.all.result c.all.ensures.ran (YieldsList-from_slice s (cc)) (λ x b q k. search (rules, tests))
    ∙ every_one (within 0x46 0x46) s
