-- `pins::packed` meets its contract.
use Prim.Native.Nat.{ℕ, ◌≤◌, ◌<◌, ◌-◌, ◌^◌}
use native.Mathlib.Omega.{arith}
use mathlib.Core.Bool.{true}
use mathlib.Core.List.{List}
use mathlib.Core.Path.{◌≡◌}
use lib.Dec.{lit≤}
use lib.ListN.{length, drop, get_or, length-drop}
use Rattle.nibbles.proofs.Lists.{below_weaken}
use Rattle.nibbles.proofs.Rows.{word_next, word_none, word_under}
use Rattle.nibbles.proofs.Runs.{every_at, every_next, every_none, every_below, over, inside}
use Rattle.pins.specs.Pins.{digit}
use Rattle.nibbles.specs.Nibbles.{word, every}
use Rattle.pins.proofs.packed.Goals as goal

-- the digits so far leave room for one more
small : (ds : List ℕ) (i : ℕ) → length ds ≤ 12 → every digit (drop i ds) ≡ true → word (drop i ds) < 16 ^ 12
small ds i h e = word_under 12 (drop i ds) (below_weaken 10 16 (drop i ds) (lit≤ tt) (every_below 9 (drop i ds) e)) (rw (length-drop i ds) (omega arith))

pub loop-i-init : goal.loop-i-init
loop-i-init c = (word_none c.args.digits.now, every_none digit c.args.digits.now)

pub returns-then-digit-gt9 : goal.returns-then-digit-gt9
returns-then-digit-gt9 c =
    let ds = c.args.digits.now in
    let i = c.loop-i.i in
    rw (every_at digit ds (i - 1) (omega arith) (over 0 9 (get_or ds (i - 1) 0) c.if-digit-gt9.true))

pub overflow_mul-w : goal.overflow_mul-w
overflow_mul-w c =
    let l = c.loop-i in
    let ds = c.args.digits.now in
    omega (arith, small ds l.i (omega arith) l.invariant.1, l.invariant.0)

pub overflow_add-w : goal.overflow_add-w
overflow_add-w c =
    let l = c.loop-i in
    let ds = c.args.digits.now in
    omega (arith, small ds l.i (omega arith) l.invariant.1, l.invariant.0)

pub loop-i-preserved : goal.loop-i-preserved
loop-i-preserved c =
    let l = c.loop-i in
    let ds = c.args.digits.now in (
      rw c.from.ensures (word_next ds l.i l.w (omega arith) (omega arith) l.invariant.0),
      every_next digit ds l.i (omega arith) (omega arith) l.invariant.1 (inside 0 9 (get_or ds (l.i - 1) 0) (omega arith) c.if-digit-gt9.false),
    )
