-- `sealed::read_sealed` meets its contract.
use Prim.Native.Nat.{◌+◌}
use Rattle.std.proofs.Common.{◌≡◌, rules, arith}
use Rattle.std.proofs.lemmas.Result.{err_from_is_err_and, MatchResult-weaker}
use Rattle.alphabet.specs.declared.Class.TheVariants.{CapitalHex}
use Rattle.numbers.specs.declared.Refusal.TheVariants.{Field15}
use Rattle.fields.specs.Fields.{run}
use Rattle.fields.proofs.Laws.{err_weaker, place_of, field_passed, field_refused}
use Rattle.formatfield.specs.FormatField.{format_field}
use Rattle.sealed.specs.Sealed.{sealed}
use Rattle.sealed.proofs.read_sealed.Goals as goal

-- written out: place_kept_from_the_field_before falls by it
pub returns-in_err-format : goal.returns-in_err-format
unfolding sealed
returns-in_err-format c =
    let a = c.args in
    let s = a.command.now in
    let format = c.in_ok-at_format.at_format in
    let p = err_from_is_err_and c.from_residual-in_err-format.result c.from_residual-in_err-format.ensures.1 in
    rw (
      p.1,
      p.2,
      field_passed a.field a.block.at _ (run CapitalHex Field15 Field15 16) s _ _ _ format c.run-digits.ensures (search rules) c.in_ok-at_format.was,
      field_refused (a.field + 1) format.at _ (format_field a.restricted) s _ c.map_err-2.result _ c.format_field-chosen.ensures
          (MatchResult-weaker c.format_field-chosen.result c.map_err-2.ensures.cases (λ x q. q) (λ e q. err_weaker c.map_err-2.result q
          (λ f l.
          let place : f.place ≡ format.at = omega (arith, place_of) in
          rw (← place) (search rules))))
          c.in_err-format.was,
    )
