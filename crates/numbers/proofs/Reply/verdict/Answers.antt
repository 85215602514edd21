-- `numbers::Reply::verdict` meets its contract.
use mathlib.Core.Path.{ap}
use Rattle.numbers.proofs.Laws.{does_refuse}
use Rattle.numbers.specs.Answers.{verdict_says}
use Rattle.numbers.proofs.Reply.verdict.Goals as goal

-- written out: block_refused_as_unverified falls by it
pub returns-in-Err : goal.returns-in-Err
returns-in-Err c = does_refuse (verdict_says c.args.judged) _ _ _ (ap verdict_says c.in-Err.is) c.refused.ensures.0 c.refused.ensures.1
