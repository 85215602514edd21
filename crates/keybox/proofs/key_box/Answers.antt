-- `keybox::key_box` meets its contract.
use native.Mathlib.Omega.{arith}
use mathlib.Core.Path.{◌≡◌, sym, ◌∙◌}
use Rattle.std.proofs.Common.{Ok, rules}
use Rattle.std.proofs.lemmas.Result.{err_from_is_err_and, MatchResult-weaker}
use Rattle.fields.proofs.Laws.{err_weaker, place_of}
use Rattle.keybox.proofs.Laws.{pointed_ok, box_refused, box_held}
use Rattle.keybox.proofs.key_box.Goals as goal

-- written out: slices_point_at_0 falls by it
pub returns-in_err-rows-clause-answered : goal.returns-in_err-rows-clause-answered
returns-in_err-rows-clause-answered c =
    let a = c.args in
    let b = a.answers in
    let p = err_from_is_err_and c.from_residual.result c.from_residual.ensures.1 in
    rw (
      p.1,
      p.2,
      box_refused a.end b.pinparity b.pvkparity b.block.now b.enciphered.now c.slices-sliced.result c.map_err.result _ c.slices-sliced.ensures.answered
          (MatchResult-weaker c.slices-sliced.result c.map_err.ensures.cases (λ x q. q) (λ e q. err_weaker c.map_err.result q
          (λ f l.
          let place : f.place ≡ a.end = omega (arith, place_of) in
          rw (← place) (search rules))))
          c.in_err-rows.was,
    )

pub returns-clause-held : goal.returns-clause-held
returns-clause-held c =
    let a = c.args in
    let b = a.answers in
    let rows : c.slices-sliced.result ≡ Ok c.in_ok-rows.rows = grind (arith, pointed_ok) in
    box_held a.end b.pinparity b.pvkparity b.block.now b.enciphered.now c.slices-sliced.result _ _ rows c.slices-sliced.ensures.held (sym c.in_ok-parities.was ∙ c.parities.ensures)
