-- `keys::key_field` meets its contract.
use native.Mathlib.Omega.{arith}
use Rattle.keys.proofs.Laws.{double_there}
use Rattle.keys.proofs.key_field.Goals as goal

-- written out: double_key_of_48 falls by it
pub returns-in-85 : goal.returns-in-85
returns-in-85 c =
    let a = c.args in
    double_there a.command.now a.cursor.at a.letters a.permitted (omega arith) _ c.in-85.is c.hex_key.ensures
