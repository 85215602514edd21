-- `offsets::with_natural` meets its contract.
use Prim.Native.Nat.{ℕ}
use native.Mathlib.Omega.{arith}
use mathlib.Core.List.{List, map}
use mathlib.Core.Path.{ap, sym, ◌∙◌}
use Rattle.std.proofs.lemmas.Result.{err_from_is_err_and}
use Rattle.offsets.proofs.Laws.{ap₃}
use Rattle.offsets.specs.Offsets.{pin_with_natural}
use Rattle.alphabet.specs.Alphabet.{value_of}
use Rattle.naturals.specs.Naturals.{natural_of}
use Rattle.blocks.proofs.Laws.{read_pinned}
use Rattle.blocks.specs.Blocks.{read_row}
use Rattle.numbers.proofs.Laws.{result_ok, result_err}
use Rattle.pins.proofs.Laws.{field_row}
use Rattle.pins.specs.declared.Pin.{Pin}
use Rattle.pins.specs.Answers.{pin_of}
use Rattle.nibbles.proofs.Rows.{row_length}
use Rattle.nibbles.specs.Nibbles.{row, word}
use Rattle.offsets.proofs.with_natural.Goals as goal

pub returns-in_err-pin : goal.returns-in_err-pin
unfolding pin_with_natural
returns-in_err-pin c =
    let a = c.args in
    let field = field_row a.rows.account c.field.result c.field.ensures in
    let bad = result_err pin_of (read_row a.format (row 16 c.field.result) (row 16 a.rows.block)) _ (sym c.in_err-pin.was ∙ c.read.ensures) in
    let p = err_from_is_err_and c.from_residual.result c.from_residual.ensures.1 in
    rw (p.1, p.2, ← field, bad)

pub natural-natural-requires : goal.natural-natural-requires
natural-natural-requires c =
    let a = c.args in
    let with = row 16 c.field.result in
    let block = row 16 a.rows.block in
    let h = result_ok pin_of (read_row a.format with block) _ (sym c.in_ok-pin.was ∙ c.read.ensures) in
    let p = read_pinned a.format with block h.0 (row_length 16 c.field.result) (row_length 16 a.rows.block) h.1 in
    let n = ap (λ (x : Pin). x.length) h.2 in
    (omega (arith, p.short, n), c.requires)

pub returns : goal.returns
unfolding pin_with_natural
returns c =
    let a = c.args in
    let field = field_row a.rows.account c.field.result c.field.ensures in
    let h = result_ok pin_of (read_row a.format (row 16 c.field.result) (row 16 a.rows.block)) _ (sym c.in_ok-pin.was ∙ c.read.ensures) in
    let n = ap (λ (x : Pin). x.length) h.2 in
    let d = ap (λ (v : List ℕ). read_row a.format v (row 16 a.rows.block)) (sym field) ∙ h.1 in
    let w = ap (λ (x : Pin). x.digits) c.natural-natural.ensures ∙ ap (λ (k : ℕ). word (natural_of k (map value_of a.table.now) (row 16 a.rows.enciphered))) n in
    rw d (ap₃ n (ap (λ (x : Pin). x.digits) h.2) w)
