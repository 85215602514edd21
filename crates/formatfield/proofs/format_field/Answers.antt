-- `formatfield::format_field` meets its contract.
use mathlib.Core.Path.{sym, ap, ◌∙◌}
use Rattle.std.proofs.Common.{Ok}
use lib.ListN.{drop}
use Rattle.numbers.proofs.Laws.{result_ok}
use Rattle.numbers.specs.declared.Refusal.TheVariants.{Field15}
use Rattle.codes.specs.Codes.{code_of, format_of}
use Rattle.fields.specs.Fields.{number}
use Rattle.fields.specs.declared.Cursor.{Cursor}
use Rattle.fields.proofs.Laws.{found_ok}
use Rattle.formats.specs.declared.Format.{Format}
use Rattle.formatfield.specs.FormatField.{format_field}
use Rattle.formatfield.proofs.format_field.Goals as goal

-- written out: restricted_allows_every_format falls by it
pub returns : goal.returns
unfolding format_field
returns c =
    let a = c.args in
    let cs = drop a.cursor.at a.command.now in
    let code = found_ok a.cursor.at (number 0 99 Field15 cs) _ _ (sym c.in_ok-code.was ∙ c.number.ensures) in
    let format = result_ok (λ (f : Format). f) (format_of (code_of _)) _ (sym c.in_ok-format.was ∙ c.chosen.ensures) in
    rw (code.1, format.1, ← format.2, sym c.allowed.ensures ∙ c.if-not-allowed.false) (ap (λ (n : Cursor). Ok (c.in_ok-format.format, n)) code.2)
