-- `spelling::put_characters` meets its contract.
use Prim.Native.Nat.{ℕ, ◌+◌}
use native.Mathlib.Omega.{arith}
use mathlib.Core.Path.{◌≡◌, sym, ap, ◌∙◌}
use lib.ListN.{length, length-map}
use Rattle.nibbles.proofs.Lists.{over_step, over_end, map_at}
use Rattle.nibbles.proofs.Rows.{row_length, row_at_less}
use Rattle.alphabet.specs.Alphabet.{characters}
use Rattle.nibbles.specs.Nibbles.{row}
use Rattle.spelling.proofs.put_characters.Goals as goal

spelled : (n w : ℕ) → length (characters (row n w)) ≡ n
spelled n w = length-map (row n w) (λ d. 0x30 + d) ∙ row_length n w

pub loop-i-preserved : goal.loop-i-preserved
loop-i-preserved c =
    let a = c.args in
    let l = c.loop-i in
    over_step (characters (row a.n a.digits)) a.out.now l.out l.i _ 0 (rw (spelled a.n a.digits) (omega arith)) (omega arith) l.invariant
    (ap (λ (d : ℕ). 0x30 + d) (c.nibble.ensures ∙ row_at_less a.n a.digits l.i (omega arith) (omega arith))
    ∙ sym (map_at (λ d. 0x30 + d) (row a.n a.digits) l.i 0 0 (rw (row_length a.n a.digits) (omega arith))))

pub returns : goal.returns
returns c =
    let a = c.args in
    let l = c.loop-i in
    over_end (characters (row a.n a.digits)) a.out.now l.out l.i a.n (spelled a.n a.digits) (omega arith) (omega arith) l.invariant
