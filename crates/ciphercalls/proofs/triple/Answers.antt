-- `ciphercalls::triple` meets its contract.
use mathlib.Core.Bool.{true, ◌&&◌}
use mathlib.Core.Path.{◌≡◌, refl}
use Prim.Native.Nat.{◌≤◌}
use lib.Dec.{eqb}
use lib.ListN.{length}
use borrow.Author.Rules.{rules}
use Rattle.ciphers.specs.Ciphers.{is_lab_key, triple_word, triple_block}
use Rattle.ciphercalls.specs.CipherCalls.{triple_call}
use Rattle.ciphercalls.proofs.Laws.{first_is_ciphered, does_as}
use Rattle.ciphercalls.proofs.triple.Goals as goal

pub returns : goal.returns
unfolding triple_call
returns c =
    let a = c.args in
    let made = c.write_first.ensures in
    let f : c.if-is_lab_key.fit ≡ (is_lab_key a.key.now && eqb (length a.block.now) 8) = search rules in
    let e : c.if-is_lab_key.fit ≡ true → 8 ≤ length a.out.now → made.0 ≡ triple_word a.way a.key.now a.block.now = search rules in
    does_as (first_is_ciphered is_lab_key (triple_block a.way) a.key.now a.block.now (length a.out.now) _ made.0 _ f refl e) made.2
