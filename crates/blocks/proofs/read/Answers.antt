-- `blocks::read` meets its contract.
use Prim.Native.Nat.{ℕ, ◌≤◌}
use mathlib.Core.Path.{ap, sym, ◌∙◌, subst}
use Rattle.blocks.proofs.Laws.{read_clear, veil_held}
use Rattle.blocks.specs.Blocks.{counted}
use Rattle.pins.specs.Answers.{count_of}
use Rattle.pins.specs.Pins.{pin_length}
use Rattle.formats.specs.declared.Lead.{Lead}
use Rattle.formats.specs.Formats.{lead_of, veiled}
use Rattle.numbers.proofs.Laws.{passed, result_ok, result_err}
use Rattle.numbers.specs.declared.Refusal.TheVariants.{Length24}
use Rattle.std.proofs.lemmas.Result.{err_from_is_err_and}
use Rattle.nibbles.proofs.Runs.{inside_high}
use Rattle.nibbles.specs.Nibbles.{row, within}
use Rattle.blocks.proofs.read.Goals as goal

pub returns-in_err-said : goal.returns-in_err-said
returns-in_err-said c =
    let a = c.args in
    let w = c.under_veil-clear.result in
    let reads_as = read_clear a.f (row 16 a.with) (row 16 a.block) (row 16 w) (veil_held (veiled a.f) a.with a.block w c.under_veil-clear.ensures) in
    let count = c.counted_by.ensures ∙ ap (λ (l : Lead). count_of (counted l (row 16 w))) c.lead.ensures in
    let p = err_from_is_err_and c.from_residual.result c.from_residual.ensures.1 in
    rw (p.1, p.2, reads_as, result_err (λ n. n) (counted (lead_of a.f) (row 16 w)) _ (sym c.in_err-said.was ∙ count))

pub returns-in_err-n : goal.returns-in_err-n
returns-in_err-n c =
    let a = c.args in
    let w = c.under_veil-clear.result in
    let reads_as = read_clear a.f (row 16 a.with) (row 16 a.block) (row 16 w) (veil_held (veiled a.f) a.with a.block w c.under_veil-clear.ensures) in
    let count = c.counted_by.ensures ∙ ap (λ (l : Lead). count_of (counted l (row 16 w))) c.lead.ensures in
    let said = result_ok (λ n. n) (counted (lead_of a.f) (row 16 w)) _ (sym c.in_ok-said.was ∙ count) in
    let bad = result_err (λ n. n) (pin_length c.in_ok-said.said) _ (sym c.in_err-n.was ∙ c.pin_length.ensures) in
    let p = err_from_is_err_and c.from_residual-in_err-n.result c.from_residual-in_err-n.ensures.1 in
    rw (p.1, p.2, reads_as, said.1, ← said.2, bad)

pub digits-requires : goal.digits-requires
digits-requires c =
    let n = result_ok (λ n. n) (pin_length c.in_ok-said.said) _ (sym c.in_ok-n.was ∙ c.pin_length.ensures) in
    let p = passed Length24 (within 4 12 c.in_ok-said.said) c.in_ok-said.said _ n.1 in
    subst (λ (k : ℕ). k ≤ 12) (p.1 ∙ sym n.2) (inside_high 4 12 c.in_ok-said.said p.0)

pub returns : goal.returns
returns c =
    let a = c.args in
    let w = c.under_veil-clear.result in
    let reads_as = read_clear a.f (row 16 a.with) (row 16 a.block) (row 16 w) (veil_held (veiled a.f) a.with a.block w c.under_veil-clear.ensures) in
    let count = c.counted_by.ensures ∙ ap (λ (l : Lead). count_of (counted l (row 16 w))) c.lead.ensures in
    let said = result_ok (λ n. n) (counted (lead_of a.f) (row 16 w)) _ (sym c.in_ok-said.was ∙ count) in
    let n = result_ok (λ n. n) (pin_length c.in_ok-said.said) _ (sym c.in_ok-n.was ∙ c.pin_length.ensures) in
    rw (reads_as, said.1, ← said.2, n.1, ← n.2) c.digits.ensures
