-- `pvvdigits::compared` meets its contract.
use mathlib.Core.Path.{sym, ◌∙◌}
use Rattle.pvvdigits.proofs.Laws.{verdict_same, verdict_other}
use Rattle.pvvdigits.proofs.compared.Goals as goal

pub returns-then-digits_of-shown : goal.returns-then-digits_of-shown
returns-then-digits_of-shown c =
    let a = c.args in
    rw (verdict_other a.enciphered a.shown c.requires (λ e. c.if-digits_of-shown.true (c.digits_of.ensures ∙ e)))

pub returns : goal.returns
returns c =
    let a = c.args in
    rw (verdict_same a.enciphered a.shown c.requires (sym c.digits_of.ensures ∙ c.if-digits_of-shown.false))
