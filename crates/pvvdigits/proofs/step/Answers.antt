-- `pvvdigits::step` meets its contract.
use Prim.Native.Nat.{ℕ, ◌+◌, ◌-◌, ◌^◌, ◌<◌, ◌≤◌}
use native.Mathlib.Omega.{arith}
use native.Mathlib.Nat.{lt_of_lt_of_le, pow-le-pow_right}
use mathlib.Core.List.{List, ◌++◌}
use mathlib.Core.Path.{sym, ap, ◌∙◌}
use lib.Dec.{lit<}
use lib.ListN.{take}
use Rattle.pvvdigits.proofs.Laws.{found_one, found_none, taken_kept, taken_full, taken_one}
use Rattle.pins.specs.Answers.{pin_of}
use Rattle.answers.specs.Answers.{digits_of}
use Rattle.nibbles.proofs.Runs.{inside, under, over}
use Rattle.pvvdigits.proofs.step.Goals as goal

pub returns-then-n-low : goal.returns-then-n-low
returns-then-n-low c =
    let a = c.args in
    taken_kept a.taken _ c.requires.0 (found_none a.low a.high a.less a.n (under a.low a.high a.n c.if-n-low.true))

pub returns-then-high-n : goal.returns-then-high-n
returns-then-high-n c =
    let a = c.args in
    taken_kept a.taken _ c.requires.0 (found_none a.low a.high a.less a.n (over a.low a.high a.n c.if-high-n.true))

pub returns-then-taken-ge4 : goal.returns-then-taken-ge4
returns-then-taken-ge4 c = taken_full c.args.taken _ c.requires.0 c.if-taken-ge4.true

pub join-requires : goal.join-requires
join-requires c =
    let a = c.args in
    let small : a.n - a.less < 16 ^ 1 = omega arith in
    let room : 1 ≤ 16 - a.taken.length = omega arith in
    (omega arith, c.requires.0.clean, lt_of_lt_of_le small (pow-le-pow_right (lit< tt) room))

pub returns : goal.returns
returns c =
    let a = c.args in
    let one = found_one a.low a.high a.less a.n (inside a.low a.high a.n c.if-n-low.false c.if-high-n.false) in
    ap (λ (w : ℕ). record { length = a.taken.length + 1; digits = w }) c.join.ensures ∙ taken_one a.taken (a.n - a.less) c.requires.0 (omega arith)
    ∙ ap (λ (l : List ℕ). pin_of (take 4 (digits_of a.taken ++ l))) (sym one)
