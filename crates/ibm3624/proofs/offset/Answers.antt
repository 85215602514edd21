-- `ibm3624::offset` meets its contract.
use Prim.Native.Nat.{ℕ, ◌-◌}
use native.Mathlib.Omega.{arith}
use mathlib.Core.Path.{sym, ap, ◌∙◌, ap₂}
use lib.Dec.{lit≤}
use lib.ListN.{drop}
use Rattle.ibm3624.proofs.Laws.{offset_length, offset_below, offset_at, pin_nibble, natural_nibble, pin_digit, natural_digit}
use Rattle.nibbles.proofs.Lists.{below_weaken}
use Rattle.nibbles.proofs.Rows.{word_next, word_room, word_none}
use Rattle.ibm3624.specs.Ibm3624.{difference, modulo_ten, offset_of}
use Rattle.nibbles.specs.Nibbles.{row, word}
use Rattle.ibm3624.proofs.offset.Goals as goal

pub loop-i-init : goal.loop-i-init
loop-i-init c =
    let a = c.args in
    let pre = c.requires in
    let ws = offset_of a.m (row a.n a.pin) (row a.n a.natural) in
    word_none ws ∙ ap (λ (k : ℕ). word (drop k ws)) (offset_length a.m a.n a.pin a.natural pre)

pub overflow_mul-w : goal.overflow_mul-w
overflow_mul-w c =
    let a = c.args in
    let pre = c.requires in
    let l = c.loop-i in
    let ws = offset_of a.m (row a.n a.pin) (row a.n a.natural) in
    let long = offset_length a.m a.n a.pin a.natural pre in
    omega (arith, word_room ws l.i l.w (omega arith) (rw long (omega arith)) l.invariant (below_weaken 10 16 ws (lit≤ tt) (offset_below a.m a.n a.pin a.natural pre)) (omega (arith, long, pre.within, pre.short)))

pub reduced-requires : goal.reduced-requires
reduced-requires c =
    let a = c.args in
    let pre = c.requires in
    let l = c.loop-i in
    let ws = offset_of a.m (row a.n a.pin) (row a.n a.natural) in
    let long = offset_length a.m a.n a.pin a.natural pre in
    let p = c.nibble.ensures ∙ pin_nibble a.m a.n a.pin a.natural pre (l.i - 1) (omega arith) in
    let q = c.nibble-in-loop-i.ensures ∙ natural_nibble a.m a.n a.pin a.natural pre (l.i - 1) (omega arith) in
    (rw p (pin_digit a.m a.n a.pin a.natural pre (l.i - 1)), rw q (natural_digit a.m a.n a.pin a.natural pre (l.i - 1)))

pub overflow_add-w : goal.overflow_add-w
overflow_add-w c =
    let a = c.args in
    let pre = c.requires in
    let l = c.loop-i in
    let ws = offset_of a.m (row a.n a.pin) (row a.n a.natural) in
    let long = offset_length a.m a.n a.pin a.natural pre in
    let p = c.nibble.ensures ∙ pin_nibble a.m a.n a.pin a.natural pre (l.i - 1) (omega arith) in
    let q = c.nibble-in-loop-i.ensures ∙ natural_nibble a.m a.n a.pin a.natural pre (l.i - 1) (omega arith) in
    let v = c.reduced.ensures ∙ ap₂ (λ (x y : ℕ). modulo_ten (difference x y)) p q ∙ sym (offset_at a.m a.n a.pin a.natural pre (l.i - 1) (omega arith)) in
    rw v (record { fits = word_room ws l.i l.w (omega arith) (rw long (omega arith)) l.invariant (below_weaken 10 16 ws (lit≤ tt) (offset_below a.m a.n a.pin a.natural pre)) (omega (arith, long, pre.within, pre.short)) })

pub loop-i-preserved : goal.loop-i-preserved
loop-i-preserved c =
    let a = c.args in
    let pre = c.requires in
    let l = c.loop-i in
    let ws = offset_of a.m (row a.n a.pin) (row a.n a.natural) in
    let long = offset_length a.m a.n a.pin a.natural pre in
    let p = c.nibble.ensures ∙ pin_nibble a.m a.n a.pin a.natural pre (l.i - 1) (omega arith) in
    let q = c.nibble-in-loop-i.ensures ∙ natural_nibble a.m a.n a.pin a.natural pre (l.i - 1) (omega arith) in
    let v = c.reduced.ensures ∙ ap₂ (λ (x y : ℕ). modulo_ten (difference x y)) p q ∙ sym (offset_at a.m a.n a.pin a.natural pre (l.i - 1) (omega arith)) in
    rw v (word_next ws l.i l.w (omega arith) (rw long (omega arith)) l.invariant)
