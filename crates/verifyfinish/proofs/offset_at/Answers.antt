-- `verifyfinish::offset_at` meets its contract.
use mathlib.Core.Path.{refl}
use Rattle.pairing.proofs.Laws.{cut}
use Rattle.verifyfinish.proofs.Laws.{offset_digits, offset_held}
use Rattle.verifyfinish.proofs.offset_at.Goals as goal

pub digits-requires : goal.digits-requires
digits-requires c =
    let v = c.args.verification in
    offset_digits c.args.command.now v c.requires _ (cut v.offset v.digits v.digits refl)

pub returns : goal.returns
returns c =
    let v = c.args.verification in
    offset_held c.args.command.now v c.requires _ _ (cut v.offset v.digits v.digits refl) c.digits.ensures
