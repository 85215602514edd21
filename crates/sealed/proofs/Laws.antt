-- What the stage that was read says of its places.
-- Assumes nothing.
use Prim.Native.Nat.{ℕ, ◌+◌, ◌≤◌}
use native.Mathlib.Omega.{arith}
use mathlib.Core.Path.{◌≡◌, ap, subst}
use mathlib.Core.List.{List}
use mathlib.Core.Bool.{Bool}
use lib.ListN.{length, drop}
use Rattle.alphabet.specs.declared.Class.TheVariants.{CapitalHex}
use Rattle.numbers.specs.declared.Refusal.TheVariants.{Field15}
use Rattle.fields.specs.Fields.{read, run}
use Rattle.fields.proofs.Laws.{run_found}
use Rattle.fields.proofs.Reading.{field_read, read_once, inside}
use Rattle.formatfield.specs.FormatField.{format_field}
use Rattle.sealed.specs.Sealed.{sealed}
use Rattle.sealed.specs.declared.Sealed.{Sealed}

-- the PIN block's sixteen characters lie in the command
pub sealed_held : (first : ℕ) (restricted : Bool) (s : List ℕ) (at : ℕ) (b : Sealed) (next : ℕ) → sealed first restricted s at ≡ read b next → b.block + 16 ≤ length s
unfolding sealed
sealed_held first restricted s at b next e =
    let f₁ = field_read first (run CapitalHex Field15 Field15 16) s at _ b next e in
    let f₂ = field_read (first + 1) (format_field restricted) s (at + f₁.1) _ b next f₁.3 in
    let found = run_found CapitalHex Field15 Field15 16 (drop at s) f₁.0 f₁.1 f₁.2 in
    subst (λ (k : ℕ). k + 16 ≤ length s) (ap (λ (x : Sealed). x.block) (read_once f₂.3).0) (inside s at 16 (omega arith) found.2)
