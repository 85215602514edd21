-- `validation::with_account` meets its contract.
use native.Mathlib.Omega.{arith}
use mathlib.Core.Path.{sym}
use lib.Dec.{lit<}
use lib.Seq.{length-take-le}
use Rattle.validation.proofs.Laws.{front_under, last_under, back_under, tail_joined, tail_under, all_joined}
use Rattle.validation.proofs.with_account.Goals as goal

pub slice_bounds-values-end : goal.slice_bounds-values-end
slice_bounds-values-end c = sym (length-take-le c.args.at c.args.s.now (omega arith))

pub values-front-requires : goal.values-front-requires
values-front-requires c = rw (length-take-le c.args.at c.args.s.now (omega arith)) (omega arith)

pub join-requires : goal.join-requires
join-requires c =
    let a = c.args in (
      lit< tt,
      last_under a.account a.s.now a.at c.requires.0 c.requires.1 c.part-last_five.result c.part-last_five.ensures,
      back_under a.account a.s.now a.at c.requires.0 c.requires.1 c.values-back.result c.values-back.ensures,
    )

pub join-requires-2 : goal.join-requires-2
join-requires-2 c =
    let a = c.args in
    let tail = tail_joined a.account a.s.now a.at c.requires.0 c.requires.1 c.part-last_five.result c.values-back.result c.join.result c.part-last_five.ensures c.values-back.ensures c.join.ensures in (
      omega arith,
      front_under a.account a.s.now a.at c.requires.0 c.requires.1 c.values-front.result c.values-front.ensures,
      tail_under a.account a.s.now a.at c.requires.0 c.requires.1 c.join.result tail,
    )

pub returns : goal.returns
returns c =
    let a = c.args in
    let tail = tail_joined a.account a.s.now a.at c.requires.0 c.requires.1 c.part-last_five.result c.values-back.result c.join.result c.part-last_five.ensures c.values-back.ensures c.join.ensures in
    all_joined a.account a.s.now a.at c.requires.0 c.requires.1 c.values-front.result c.join.result c.join-2.result c.values-front.ensures tail c.join-2.ensures
