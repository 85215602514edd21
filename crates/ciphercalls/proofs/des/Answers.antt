-- `ciphercalls::des` meets its contract.
use mathlib.Core.Bool.{true, ◌&&◌}
use mathlib.Core.Path.{◌≡◌, refl}
use Prim.Native.Nat.{◌≤◌}
use lib.Dec.{eqb}
use lib.ListN.{length}
use borrow.Author.Rules.{rules}
use Rattle.ciphers.specs.Ciphers.{des_word, des_block}
use Rattle.ciphercalls.specs.CipherCalls.{des_call}
use Rattle.ciphercalls.proofs.Laws.{first_is_ciphered, does_as}
use Rattle.ciphercalls.proofs.des.Goals as goal

pub returns : goal.returns
unfolding des_call
returns c =
    let a = c.args in
    let made = c.write_first.ensures in
    let f : c.if-key-eq8.fit ≡ (eqb (length a.key.now) 8 && eqb (length a.block.now) 8) = search rules in
    let e : c.if-key-eq8.fit ≡ true → 8 ≤ length a.out.now → made.0 ≡ des_word a.way a.key.now a.block.now = search rules in
    does_as (first_is_ciphered (λ k. eqb (length k) 8) (des_block a.way) a.key.now a.block.now (length a.out.now) _ made.0 _ f refl e) made.2
