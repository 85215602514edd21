-- `validation::Shape::row` meets its contract.
use Prim.Native.Nat.{ℕ}
use native.Mathlib.Omega.{arith}
use mathlib.Core.List.{List, map}
use mathlib.Core.Path.{ap, sym, ◌∙◌}
use borrow.Author.Rules.{rules}
use Rattle.validation.proofs.Laws.{behind, shape_twelve, shape_seventeen}
use Rattle.std.proofs.Common.{Ok}
use Rattle.alphabet.specs.Alphabet.{value_of}
use Rattle.nibbles.specs.Nibbles.{word}
use Rattle.validation.specs.Validation.{validation_row}
use Rattle.validation.proofs.Shape.row.Goals as goal

pub with_account-requires : goal.with_account-requires
with_account-requires c = shape_twelve c.args.validation.now _ (sym c.requires ∙ c.in-Template.is)

pub slice_bounds-values-count : goal.slice_bounds-values-count
slice_bounds-values-count c = let long = shape_seventeen c.args.validation.now (sym c.requires ∙ c.in-Whole.is) in omega arith

pub slice_bounds-values-start : goal.slice_bounds-values-start
slice_bounds-values-start c = let long = shape_seventeen c.args.validation.now (sym c.requires ∙ c.in-Whole.is) in omega arith

pub values-requires : goal.values-requires
values-requires c = let long = shape_seventeen c.args.validation.now (sym c.requires ∙ c.in-Whole.is) in search rules

pub returns-in-Template : goal.returns-in-Template
unfolding validation_row
returns-in-Template c =
    let a = c.args in
    rw (sym c.requires ∙ c.in-Template.is) (ap Ok c.with_account.ensures)

pub returns-in-Whole : goal.returns-in-Whole
unfolding validation_row
returns-in-Whole c =
    let a = c.args in
    rw (sym c.requires ∙ c.in-Whole.is)
    (ap Ok (c.values.ensures ∙ ap (λ (cs : List ℕ). word (map value_of cs)) (behind 1 a.validation.now)))

pub returns-in-Neither : goal.returns-in-Neither
unfolding validation_row
returns-in-Neither c =
    let a = c.args in
    rw (sym c.requires ∙ c.in-Neither.is)
