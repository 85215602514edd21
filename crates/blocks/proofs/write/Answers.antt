-- `blocks::write` meets its contract.
use Prim.Native.Nat.{ℕ, ◌+◌, ◌*◌, ◌^◌, ◌<◌, ◌-◌}
use native.Mathlib.Omega.{arith}
use mathlib.Core.List.{List, ◌++◌, map}
use mathlib.Core.Path.{ap, sym, ◌∙◌, subst, ap₂}
use lib.ListN.{drop}
use Rattle.answers.specs.Answers.{digits_of}
use Rattle.formats.specs.declared.Fill.{Fill}
use Rattle.blocks.proofs.Laws.{from_small, head_under, tail_under, joined}
use Rattle.blocks.specs.Blocks.{veil, write_row}
use Rattle.formats.specs.declared.Lead.{Lead}
use Rattle.formats.specs.Formats.{lead_width, veiled, leads, filled}
use Rattle.nibbles.specs.Nibbles.{row, word}
use Rattle.blocks.proofs.write.Goals as goal

pub overflow_add-from : goal.overflow_add-from
overflow_add-from c = omega (arith, from_small c.args.f c.args.pin c.requires 0 _ (ap (λ (k : ℕ). k + c.args.pin.length) (c.width.ensures ∙ ap lead_width c.lead-lead.ensures)))

pub fill_from-requires : goal.fill_from-requires
fill_from-requires c = omega (arith, from_small c.args.f c.args.pin c.requires 0 _ (ap (λ (k : ℕ). k + c.args.pin.length) (c.width.ensures ∙ ap lead_width c.lead-lead.ensures)))

pub join-clear-requires : goal.join-clear-requires
join-clear-requires c =
    let a = c.args in
    let from : ℕ = c.width.result + a.pin.length in
    let head = c.head.ensures ∙ ap (λ (l : Lead). word (leads l a.pin.length ++ digits_of a.pin)) c.lead-lead.ensures in
    let tail = c.fill_from.ensures ∙ ap (λ (k : Fill). word (map (filled k) (drop from (row 16 a.fill)))) c.fill.ensures in (
      omega (arith, from_small a.f a.pin c.requires a.fill from (ap (λ (k : ℕ). k + c.args.pin.length) (c.width.ensures ∙ ap lead_width c.lead-lead.ensures))),
      subst (λ (x : ℕ). x < 16 ^ from) (sym head) (head_under a.f a.pin c.requires a.fill from (ap (λ (k : ℕ). k + c.args.pin.length) (c.width.ensures ∙ ap lead_width c.lead-lead.ensures))),
      subst (λ (x : ℕ). x < 16 ^ (16 - from)) (sym tail) (tail_under a.f a.pin c.requires a.fill from (ap (λ (k : ℕ). k + c.args.pin.length) (c.width.ensures ∙ ap lead_width c.lead-lead.ensures))),
    )

pub returns : goal.returns
unfolding write_row
returns c =
    let a = c.args in
    let from : ℕ = c.width.result + a.pin.length in
    let head = c.head.ensures ∙ ap (λ (l : Lead). word (leads l a.pin.length ++ digits_of a.pin)) c.lead-lead.ensures in
    let tail = c.fill_from.ensures ∙ ap (λ (k : Fill). word (map (filled k) (drop from (row 16 a.fill)))) c.fill.ensures in
    let clear = c.join-clear.ensures ∙ ap₂ (λ (h t : ℕ). t * 16 ^ from + h) head tail in
    c.under_veil.ensures
    ∙ ap (λ (ns : List ℕ). word (veil (veiled a.f) (row 16 a.with) ns)) (ap (row 16) clear ∙ joined a.f a.pin c.requires a.fill from (ap (λ (k : ℕ). k + c.args.pin.length) (c.width.ensures ∙ ap lead_width c.lead-lead.ensures)))
