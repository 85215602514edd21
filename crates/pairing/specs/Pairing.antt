-- PIN and natural PIN of a command: what it asks the key box for, and what it makes of the key box's answers, at its fields' places.
use Rattle.std.specs.Prelude.{List, ℕ}
use Rattle.nibbles.specs.Nibbles.{packs}
use Rattle.numbers.specs.Numbers.{Outcome, done, and_then}
use Rattle.validation.specs.Validation.{validation_row}
use Rattle.offsets.specs.Offsets.{pin_with_natural}
use Rattle.offsetting.specs.Offsetting.{account_in, table_in, validation_in}
use Rattle.sealed.specs.declared.Sealed.{Sealed}
use Rattle.offsetting.specs.declared.Offsetting.{Offsetting}

-- "the 8-byte block that the key box must encipher under the PVK"
abbrev pub asked_at : List ℕ → Offsetting → Outcome (List ℕ)
asked_at s o = and_then (validation_row (account_in s o) (validation_in s o)) (λ ns. done (packs ns))

-- "the block (20 or 24)": the PIN in the deciphered PIN block, and its natural PIN from the enciphered validation block; the rows are
-- those two
abbrev pub pair_at : List ℕ → Sealed → Offsetting → List ℕ × List ℕ → Outcome (List ℕ × List ℕ)
pair_at s b o rows = pin_with_natural b.format (table_in s o) (rows.0, account_in s o, rows.1)
