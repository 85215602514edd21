-- `verdicts::judged_verdict` meets its contract.
use Prim.Native.Nat.{ℕ}
use mathlib.Core.List.{List}
use mathlib.Core.Path.{ap₂, sym, ◌∙◌}
use Rattle.std.proofs.lemmas.Result.{err_from_is_err_and}
use Rattle.offsets.specs.Answers.{compared_of, rows_in}
use Rattle.offsets.specs.Offsets.{pin_and_natural}
use Rattle.offsets.proofs.Laws.{given_compared}
use Rattle.verdicts.proofs.Laws.{verdict_parts, presented_held}
use Rattle.verdicts.specs.Verdicts.{verdict_on}
use Rattle.numbers.specs.Answers.{verdict_of}
use Rattle.numbers.proofs.Laws.{result_err}
use Rattle.verdicts.proofs.judged_verdict.Goals as goal

pub returns-in_err-p : goal.returns-in_err-p
returns-in_err-p c =
    let i = c.args.inputs in
    let s = presented_held c.args.offset.now _ (sym c.in_ok-presented.was ∙ c.presented.ensures) in
    let bad = result_err compared_of (pin_and_natural i.format i.table.now (rows_in c.in_ok-rows.rows)) _ (sym c.in_err-p.was ∙ c.paired.ensures) in
    let p = err_from_is_err_and c.from_residual-in_err-p.result c.from_residual-in_err-p.ensures.1 in
    rw (p.1, p.2, verdict_parts c.args.variable i.format i.check i.block.now i.account.now i.table.now i.enciphered.now c.args.offset.now, c.in_ok-rows.ensures.held, s.1, bad)

pub verdict_on-requires : goal.verdict_on-requires
verdict_on-requires c =
    let i = c.args.inputs in
    let s = presented_held c.args.offset.now _ (sym c.in_ok-presented.was ∙ c.presented.ensures) in
    let p = given_compared i.format i.check i.block.now i.account.now i.table.now i.enciphered.now c.in_ok-rows.rows c.in_ok-rows.ensures.held _ (sym c.in_ok-p.was ∙ c.paired.ensures) in
    (p.2, s.2)

pub returns : goal.returns
returns c =
    let i = c.args.inputs in
    let s = presented_held c.args.offset.now _ (sym c.in_ok-presented.was ∙ c.presented.ensures) in
    let p = given_compared i.format i.check i.block.now i.account.now i.table.now i.enciphered.now c.in_ok-rows.rows c.in_ok-rows.ensures.held _ (sym c.in_ok-p.was ∙ c.paired.ensures) in
    rw (verdict_parts c.args.variable i.format i.check i.block.now i.account.now i.table.now i.enciphered.now c.args.offset.now, c.in_ok-rows.ensures.held, s.1, p.1)
    (c.verdict_on.ensures ∙ ap₂ (λ (os : List ℕ) (q : List ℕ × List ℕ). verdict_of (verdict_on c.args.variable i.check os q)) s.3 p.3)
