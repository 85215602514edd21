-- `offsets::all_digits` meets its contract.
use mathlib.Core.Path.{◌∙◌}
use Rattle.std.proofs.Common.{rules}
use borrow.Author.Tests.{tests}
use Rattle.std.proofs.lemmas.Iterator.{YieldsList-from_slice}
use Rattle.std.proofs.lemmas.Iterator.Search.{all_from_yields_List}
use Rattle.pins.specs.Pins.{digit}
use Rattle.pins.proofs.Laws.{every_one}
use Rattle.offsets.proofs.all_digits.Goals as goal

pub returns : goal.returns
returns c =
    let ds = c.args.digits.now in
    all_from_yields_List digit _ _ c.all.result c.all.ensures.ran (YieldsList-from_slice ds (cc)) (λ x b q k. search (rules, tests))
    ∙ every_one digit ds
