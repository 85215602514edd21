-- `pvvinput::input_row` meets its contract.
use Prim.Native.Nat.{ℕ, ◌+◌, ◌*◌, ◌^◌, ◌<◌}
use native.Mathlib.Omega.{arith}
use mathlib.Core.Path.{ap, ◌∙◌}
use lib.Dec.{lit<, lit≤}
use Rattle.pvvinput.proofs.Laws.{part_under, input_word}
use Rattle.pvvinput.proofs.input_row.Goals as goal

pub join-behind-requires : goal.join-behind-requires
join-behind-requires c = (lit< tt, omega arith, rw c.first_four.ensures (part_under 0 4 15 c.args.pin (lit≤ tt) (lit≤ tt)))

pub join-requires : goal.join-requires
join-requires c =
    let a = c.args in
    let four : c.first_four.result < 16 ^ 4 = rw c.first_four.ensures (part_under 0 4 4 a.pin (lit≤ tt) (lit≤ tt)) in
    (lit< tt, rw c.part.ensures (part_under 1 11 11 a.account (lit≤ tt) (lit≤ tt)), omega (arith, c.join-behind.ensures))

pub returns : goal.returns
returns c =
    let a = c.args in
    let behind = c.join-behind.ensures ∙ ap (λ (w : ℕ). w * 16 + a.index) c.first_four.ensures in
    c.join.ensures ∙ ap (λ (w : ℕ). c.join-behind.result * 16 ^ 11 + w) c.part.ensures ∙ input_word a.account a.index a.pin c.join-behind.result behind
