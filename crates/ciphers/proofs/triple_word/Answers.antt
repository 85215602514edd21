-- `ciphers::triple_word` meets its contract.
use native.Mathlib.Omega.{arith}
use mathlib.Core.Path.{ap, ◌∙◌}
use mathlib.Core.Bool.{Bool, cond}
use lib.ListN.{length}
use borrow.Author.Tests.{lt-ltb, le-ltb}
use Rattle.ciphers.proofs.Laws.{thrice_is_triple}
use Rattle.ciphers.proofs.triple_word.Goals as goal

-- written out: third_key_taken_for_the_first falls by it
pub returns : goal.returns
returns c =
    let a = c.args in
    let key = a.key.now in
    c.thrice-2.ensures
    ∙ thrice_is_triple a.way key a.block.now _ _ _ 16 c.word_of-w.result
    (ap (λ (x : Bool). cond x 0 16) (le-ltb (length key) 24 c.if-key-lt24.false)) c.subkeys_at-k1.ensures c.subkeys_at-k2.ensures c.subkeys_at-k3.ensures c.word_of-w.ensures
