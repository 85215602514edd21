-- What the code's answer tells of the stage, and what the stage that was read says of its places.
-- Assumes nothing.
use Prim.Native.Nat.{ℕ, ◌≤◌}
use native.Mathlib.Omega.{arith}
use mathlib.Core.Path.{◌≡◌, subst}
use mathlib.Core.List.{List}
use lib.ListN.{length, drop}
use Rattle.fields.specs.Fields.{Stage, read, faulty}
use Rattle.fields.specs.declared.Cursor.{Cursor}
use Rattle.fields.specs.declared.Fault.{Fault}
use Rattle.fields.proofs.Reading.{field_read, read_once, inside_from}
use Rattle.weakfield.specs.WeakField.{weak_field}
use Rattle.weak.specs.Answers.{Lies}
use Rattle.weak.specs.declared.Weak.{Weak}
use Rattle.weakfield.proofs.Laws.{weak_lies, weak_onward}
use Rattle.weaklist.specs.WeakList.{weak}

-- the list lies in the command
pub weak_held : (first mark : ℕ) (s : List ℕ) (at : ℕ) (w : Weak) (next : ℕ) → weak first mark s at ≡ read w next → at ≤ length s → Lies w s × (next ≤ length s)
unfolding weak
weak_held first mark s at w next e h =
    let f = field_read first (weak_field mark at) s at _ w next e in
    let r = read_once f.3 in
    let lies = weak_lies mark at s f.0 f.1 f.2 h in
    let onward = inside_from s at f.1 h (weak_onward mark at (drop at s) f.0 f.1 f.2) in
    (subst (λ (v : Weak). Lies v s) r.0 lies, subst (λ (k : ℕ). k ≤ length s) r.1 onward)
