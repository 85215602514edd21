-- `keyfields::read_keys` meets its contract.
use Rattle.std.proofs.Common.{◌≡◌, rules, arith}
use Rattle.std.proofs.lemmas.Result.{err_from_is_err_and, MatchResult-weaker}
use Rattle.fields.proofs.Laws.{err_weaker, field_of, field_refused}
use Rattle.keys.specs.Keys.{key_type}
use Rattle.keyfields.specs.KeyFields.{keys}
use Rattle.keyfields.proofs.read_keys.Goals as goal

-- written out: field_counted_from_0 falls by it
pub returns-in_err-letters : goal.returns-in_err-letters
unfolding keys
returns-in_err-letters c =
    let a = c.args in
    let p = err_from_is_err_and c.from_residual.result c.from_residual.ensures.1 in
    rw (
      p.1,
      p.2,
      field_refused a.field a.start.at _ key_type a.command.now _ c.map_err.result _ c.key_type-typed.ensures
          (MatchResult-weaker c.key_type-typed.result c.map_err.ensures.cases (λ x q. q) (λ e q. err_weaker c.map_err.result q
          (λ f l.
          let field : f.field ≡ a.field = omega (arith, field_of) in
          rw (← field) (search rules))))
          c.in_err-letters.was,
    )
