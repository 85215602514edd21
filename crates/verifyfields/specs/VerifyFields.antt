-- The fields of DA and EA, which verify a PIN that is enciphered under a terminal's or a zone's key. What the two differ in is the use of
-- that key, `pin_key`. The fields are numbered from 1 as they stand; 4 to 9, 11 and 12 have BK's numbers.
use Rattle.std.specs.Prelude.{ℕ, List, map, Bool, false}
use Rattle.alphabet.specs.Alphabet.{value_of}
use Rattle.numbers.specs.declared.Refusal.TheVariants.{Field15}
use Rattle.fields.specs.Fields.{Stage, read, field, onward, number}
use Rattle.uses.specs.Uses.{verifying_pvk}
use Rattle.uses.specs.declared.Use.{Use}
use Rattle.keys.specs.Keys.{any_letter}
use Rattle.keyfields.specs.KeyFields.{key_pair}
use Rattle.keyfields.specs.declared.Keys.{Keys}
use Rattle.sealed.specs.Sealed.{sealed}
use Rattle.offsetting.specs.Offsetting.{offsetting, part}
use Rattle.offsetfield.specs.OffsetField.{offset_field}
use Rattle.endings.specs.Endings.{end}
use Rattle.verifyfields.specs.declared.Verification.{Verification}

-- the maximum PIN length: the two characters `12`, anything else is 15
abbrev pub maximum : ℕ
maximum = 12

-- what stands before the PIN block: 1. PIN key, 2. PVK, each by its own letter; 3. maximum PIN length
unfoldable pub front : Use → List ℕ → ℕ → Stage Keys
front pin_key s at₁ =
    onward (key_pair 1 any_letter pin_key any_letter verifying_pvk s at₁)
    (λ ks at₃. field 3 (number maximum maximum Field15) s at₃
    (λ _ next. read ks next))

-- whether the setting of restricted formats touches DA and EA: it does not, so that all six formats are allowed
abbrev pub restricted : Bool
restricted = false

-- the fields behind the command code, from the left: those, 4 to 9 as BK has them, 10. offset, 11 and 12 as BK has them
unfoldable pub verify_fields : Use → List ℕ → ℕ → Stage Verification
verify_fields pin_key s at₁ =
    onward (front pin_key s at₁)
    (λ ks at₄. onward (sealed 4 restricted s at₄)
    (λ block at₆. onward (offsetting 6 s at₆)
    (λ inputs at₁₀. field 10 offset_field s at₁₀
    (λ digits at₁₁. onward (end 11 ks s at₁₁)
    (λ mark past. read (record { sealed = block; offsetting = inputs; offset = at₁₀; digits = digits; trailer = mark }) past)))))

-- the digits of the offset that is presented, at its place
abbrev pub offset_in : List ℕ → Verification → List ℕ
offset_in s v = map value_of (part s v.offset v.digits)
