-- A stage of commands: the weak list. It is told its field's number, `which`.
use Rattle.std.specs.Prelude.{ℕ, List}
use Rattle.fields.specs.Fields.{Stage, read, field}
use Rattle.weakfield.specs.WeakField.{weak_field}
use Rattle.weak.specs.declared.Weak.{Weak}

-- "10. Optional ;, weak count, …": the mark is the command's
unfoldable pub weak : ℕ → ℕ → List ℕ → ℕ → Stage Weak
weak which mark s at = field which (weak_field mark at) s at (λ w next. read w next)
