-- `ciphers::des_word` meets its contract.
use mathlib.Core.Path.{ap, ◌∙◌}
use Rattle.fips46.specs.Fips46.{KS}
use Rattle.ciphers.proofs.Laws.{once_is_des}
use Rattle.ciphers.proofs.des_word.Goals as goal

-- written out: subkeys_in_order_when_deciphering falls by it
pub returns : goal.returns
returns c =
    let block = c.word_of-2 in
    let key = c.word_of in
    let a = c.args in
    c.once.ensures
    ∙ once_is_des a.way a.key.now a.block.now _ block.result (c.subkeys-ks.ensures ∙ ap KS key.ensures) block.ensures
