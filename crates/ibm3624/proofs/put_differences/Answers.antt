-- `ibm3624::put_differences` meets its contract.
use Prim.Native.Nat.{◌<◌}
use native.Mathlib.Omega.{arith}
use mathlib.Core.Path.{sym, ap, ◌∙◌, ap₂}
use mathlib.Core.List.{List, ◌++◌, append-nil}
use lib.IntN.{ℤ, pos}
use lib.ListN.{take, drop, drop_of_length-le}
use lib.Seq.{length-take-le}
use mir.Facts.{to_z-of_z}
use mir.Val.{to_z, of_z}
use mir.Syntax.{w8, w32}
use Rattle.ibm3624.proofs.Signed.{difference_fits, difference_small}
use Rattle.ibm3624.proofs.Laws.{covered_length, covered_at, pin_nibble, natural_nibble, pin_digit, natural_digit, digit_of_pin, digit_of_natural}
use Rattle.nibbles.proofs.Lists.{over_step, over_end}
use Rattle.ibm3624.specs.Ibm3624.{difference, covered}
use Rattle.nibbles.specs.Nibbles.{row}
use Rattle.ibm3624.proofs.put_differences.Goals as goal

pub less-requires : goal.less-requires
less-requires c =
    let a = c.args in
    let pre = c.requires.0 in
    let i = c.loop-i.i in
    let here : i < a.m = let n = length-take-le a.m a.out.now c.requires.1 in omega arith in
    let p = c.nibble.ensures ∙ pin_nibble a.m a.n a.pin a.natural pre i here in
    let q = c.nibble-in-loop-i.ensures ∙ natural_nibble a.m a.n a.pin a.natural pre i here in
    (rw p (pin_digit a.m a.n a.pin a.natural pre i), rw q (natural_digit a.m a.n a.pin a.natural pre i))

pub overflow_cast-d : goal.overflow_cast-d
overflow_cast-d c =
    let a = c.args in
    let pre = c.requires.0 in
    let i = c.loop-i.i in
    let here : i < a.m = let n = length-take-le a.m a.out.now c.requires.1 in omega arith in
    let p = c.nibble.ensures ∙ pin_nibble a.m a.n a.pin a.natural pre i here in
    let q = c.nibble-in-loop-i.ensures ∙ natural_nibble a.m a.n a.pin a.natural pre i here in
    let x = digit_of_pin a.m a.n a.pin a.natural pre i in
    let y = digit_of_natural a.m a.n a.pin a.natural pre i in
    let px = pin_digit a.m a.n a.pin a.natural pre i in
    let qy = natural_digit a.m a.n a.pin a.natural pre i in
    rw (c.less.ensures ∙ ap₂ difference p q, to_z-of_z (difference_fits x y px qy)) (difference_small x y px qy)

pub loop-i-preserved : goal.loop-i-preserved
loop-i-preserved c =
    let a = c.args in
    let pre = c.requires.0 in
    let l = c.loop-i in
    let n = length-take-le a.m a.out.now c.requires.1 in
    let here : l.i < a.m = omega arith in
    let ws = covered a.m (row a.n a.pin) (row a.n a.natural) in
    let long = covered_length a.m a.n a.pin a.natural pre in
    let p = c.nibble.ensures ∙ pin_nibble a.m a.n a.pin a.natural pre l.i here in
    let q = c.nibble-in-loop-i.ensures ∙ natural_nibble a.m a.n a.pin a.natural pre l.i here in
    let x = digit_of_pin a.m a.n a.pin a.natural pre l.i in
    let y = digit_of_natural a.m a.n a.pin a.natural pre l.i in
    let e = c.less.ensures ∙ ap₂ difference p q in
    let px = pin_digit a.m a.n a.pin a.natural pre l.i in
    let qy = natural_digit a.m a.n a.pin a.natural pre l.i in
    let v = ap (λ (z : ℤ). to_z w8 (of_z w8 (to_z w32 (of_z w32 z)))) e ∙ ap (λ (z : ℤ). to_z w8 (of_z w8 z)) (to_z-of_z (difference_fits x y px qy)) ∙ to_z-of_z (difference_small x y px qy) in
    over_step ws (take a.m a.out.now) l.d-items l.i _ (pos 0) (rw long here) (omega arith) l.invariant
    (v ∙ sym (covered_at a.m a.n a.pin a.natural pre l.i here))

pub returns : goal.returns
returns c =
    let a = c.args in
    let l = c.loop-i in
    let n = length-take-le a.m a.out.now c.requires.1 in
    let ws = covered a.m (row a.n a.pin) (row a.n a.natural) in
    let long = covered_length a.m a.n a.pin a.natural c.requires.0 in
    let all = over_end ws (take a.m a.out.now) l.d-items l.i a.m long (omega arith) (omega arith) l.invariant in
    let none = drop_of_length-le (take a.m a.out.now) {i = a.m} (omega arith) in
    ap (λ (zs : List ℤ). zs ++ drop a.m a.out.now) (all ∙ ap (λ (zs : List ℤ). ws ++ zs) none ∙ append-nil ws)
