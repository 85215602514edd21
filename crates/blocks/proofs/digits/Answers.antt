-- `blocks::digits` meets its contract.
use Prim.Native.Nat.{ℕ, ◌+◌}
use native.Mathlib.Omega.{arith}
use mathlib.Core.Path.{◌≡◌, ap, sym, ◌∙◌, ap₂}
use lib.Seq.{slice, length-slice}
use lib.ListN.{length}
use Rattle.nibbles.proofs.Rows.{row_length}
use Rattle.nibbles.specs.Nibbles.{row, leading, within}
use Rattle.std.proofs.Common.{Ok}
use Rattle.blocks.proofs.Laws.{digits_end, wrong_digits, wrong_fill, right_contents}
use Rattle.formats.specs.Formats.{lead_width, least_fill}
use Rattle.blocks.proofs.digits.Goals as goal

pub returns-then-run_end-to : goal.returns-then-run_end-to
returns-then-run_end-to c =
    let a = c.args in
    rw (wrong_digits a.f a.clear a.n c.width-from.result (c.width-from.ensures ∙ ap lead_width c.lead.ensures) c.requires (rw c.run_end.ensures at c.if-run_end-to.true))

pub returns-then-fill_end-lt16 : goal.returns-then-fill_end-lt16
returns-then-fill_end-lt16 c =
    let a = c.args in
    let from = c.width-from.result in
    let least = c.least.ensures ∙ ap least_fill c.fill.ensures in
    let run = c.fill_end.ensures ∙ ap (λ (l : ℕ). from + a.n + length (leading (within l 15) (slice (from + a.n) 16 (row 16 a.clear)))) least in
    rw (wrong_fill a.f a.clear a.n from (c.width-from.ensures ∙ ap lead_width c.lead.ensures) c.requires (rw c.run_end.ensures at c.if-run_end-to.false) (rw run at c.if-fill_end-lt16.true))

pub returns : goal.returns
returns c =
    let a = c.args in
    let from = c.width-from.result in
    let end = digits_end a.f a.clear a.n from (c.width-from.ensures ∙ ap lead_width c.lead.ensures) c.requires in
    let least = c.least.ensures ∙ ap least_fill c.fill.ensures in
    let run = c.fill_end.ensures ∙ ap (λ (l : ℕ). from + a.n + length (leading (within l 15) (slice (from + a.n) 16 (row 16 a.clear)))) least in
    let long : a.n ≡ length (slice from (from + a.n) (row 16 a.clear)) = sym (length-slice from (from + a.n) (row 16 a.clear) (rw (row_length 16 a.clear) end) ∙ omega arith) in
    rw (right_contents a.f a.clear a.n from (c.width-from.ensures ∙ ap lead_width c.lead.ensures) c.requires (rw c.run_end.ensures at c.if-run_end-to.false) (rw run at c.if-fill_end-lt16.false))
    (ap₂ (λ (l d : ℕ). Ok (record { length = l; digits = d })) long c.part.ensures)
