-- `lab::make` meets its contract.
use mathlib.Core.Path.{◌∙◌, sym}
use Rattle.lab.proofs.Laws.{lab_key}
use Rattle.lab.proofs.make.Goals as goal

pub returns : goal.returns
returns c =
    let a = c.args in
    c.put_bytes.ensures ∙ lab_key a.way a.key.now a.block.now _ (sym c.is_lab_key.ensures ∙ c.if-not-is_lab_key.false) c.triple_word.ensures
