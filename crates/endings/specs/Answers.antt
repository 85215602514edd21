-- The end's answer as a value of the code.
use Rattle.std.specs.Prelude.{ℕ, Result, Ok, Err}
use Rattle.fields.specs.Fields.{Stage, read, faulty}
use Rattle.fields.specs.declared.Fault.{Fault}

-- the place of the trailer's mark, or the fault
abbrev pub end_of : Stage ℕ → Result ℕ Fault
end_of (read mark at) = Ok mark
end_of (faulty f) = Err f
