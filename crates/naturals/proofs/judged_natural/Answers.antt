-- `naturals::judged_natural` meets its contract.
use Prim.Native.Nat.{ℕ, ◌≤◌}
use native.Mathlib.Omega.{arith}
use mathlib.Core.List.{List, map}
use mathlib.Core.Path.{ap, sym, ◌∙◌, subst}
use borrow.Author.Tests.{le-leb, eq-eqb}
use Rattle.naturals.proofs.Laws.{table_judged}
use Rattle.alphabet.specs.Alphabet.{value_of}
use Rattle.naturals.specs.Naturals.{natural_of, natural_pin}
use Rattle.pins.proofs.Laws.{sized_held, block_row}
use Rattle.std.proofs.Common.{Ok}
use Rattle.pins.specs.Answers.{pin_of}
use Rattle.pins.specs.Pins.{pin_length}
use Rattle.numbers.proofs.Laws.{passed, result_ok}
use Rattle.numbers.specs.declared.Refusal.TheVariants.{Length24}
use Rattle.nibbles.proofs.Bytes.{bytes_below}
use Rattle.nibbles.proofs.Runs.{inside_high}
use Rattle.nibbles.specs.Nibbles.{nibs, within}
use Rattle.naturals.proofs.judged_natural.Goals as goal

pub natural-requires : goal.natural-requires
natural-requires c =
    let a = c.args in
    let sixteen = c.if-table-ne16.false in
    let n = result_ok (λ n. n) (pin_length a.length) _ (sym c.in_ok-n.was ∙ c.pin_length.ensures) in
    let p = passed Length24 (within 4 12 a.length) a.length _ n.1 in
    let small = subst (λ (x : ℕ). x ≤ 12) (p.1 ∙ sym n.2) (inside_high 4 12 a.length p.0) in
    (omega arith, record { whole = sixteen; digits = table_judged a.table.now sixteen _ c.all_of.ensures ∙ c.if-not-all_of.false })

pub returns : goal.returns
unfolding natural_pin
returns c =
    let a = c.args in
    let sixteen = c.if-table-ne16.false in
    let s = sized_held 8 a.enciphered.now c.sized_row.result c.sized_row.ensures _ c.in_ok-cipher.was in
    let t = table_judged a.table.now sixteen _ c.all_of.ensures ∙ c.if-not-all_of.false in
    let n = result_ok (λ n. n) (pin_length a.length) _ (sym c.in_ok-n.was ∙ c.pin_length.ensures) in
    let bytes = bytes_below a.enciphered.now c.type_inv.enciphered in
    let er = block_row a.enciphered.now (nibs a.enciphered.now) _ s.0 bytes s.1 in
    rw (le-leb 12 a.room c.if-room-lt12.false, eq-eqb (lib.ListN.length a.table.now) 16 sixteen, s.0, t, n.1, ← n.2)
    (ap Ok (c.natural.ensures ∙ ap (λ (es : List ℕ). pin_of (natural_of c.in_ok-n.n (map value_of a.table.now) es)) er))
