-- `uses::Use::permits` meets its contract.
use Rattle.std.proofs.Common.{◌≡◌, ◌+◌, ◌∙◌, ◌&&◌, sym, drop, get_or, eqb, arith}
use Rattle.std.proofs.lemmas.Bool.Decides.{nat_tests}
use Rattle.uses.specs.Uses.{usages_in, begins_one, algorithm_t, modes_in, is_one}
use Rattle.uses.proofs.Laws.{permits_at, and_on, and_third}
use Rattle.uses.proofs.Use.permits.Goals as goal
use Rattle.uses.proofs.Use.permits.Goals.{then-stand_at, else-stand_at}

-- written out: key_of_algorithm_A_permitted falls by it
pub returns-then-command-at-eq84 : goal.returns-then-command-at-eq84
returns-then-command-at-eq84 c =
    let a = c.args in
    let s = a.command.now in
    let usage = begins_one (usages_in a.self.usages) (drop (a.at + 5) s) in
    let triple = eqb (get_or s (a.at + 7) 0) algorithm_t in
    let mode = is_one (modes_in a.self.modes) (get_or s (a.at + 8) 0) in
    let early : c.if-stand_at.value ≡ (usage && triple) =
    elim c.if-stand_at.branch [
      | then-stand_at w ↦ w.value-is ∙ and_on usage triple (sym c.stand_at.ensures ∙ w.if-stand_at.true)
      | else-stand_at w ↦ w.value-is ∙ rw (← c.stand_at.ensures, w.if-stand_at.false)
    ] in
    c.has.ensures ∙ and_third c.if-stand_at.value usage triple mode early c.if-command-at-eq84.true ∙ permits_at a.self s a.at

pub returns-else-command-at-eq84 : goal.returns-else-command-at-eq84
returns-else-command-at-eq84 c = rw (← permits_at c.args.self c.args.command.now c.args.at) (grind (arith, nat_tests))
