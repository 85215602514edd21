-- A stage of commands: check length, account, decimalisation table, validation data. It is told its first field's number, `which`.
use Rattle.std.specs.Prelude.{ℕ, ◌+◌, List, map, take, drop}
use Rattle.alphabet.specs.Alphabet.{value_of}
use Rattle.alphabet.specs.declared.Class.TheVariants.{Digit}
use Rattle.numbers.specs.declared.Refusal.TheVariants.{Field15, Table25}
use Rattle.validation.specs.Validation.{shape_width}
use Rattle.fields.specs.Fields.{Stage, read, field, run, number}
use Rattle.validationfield.specs.ValidationField.{validation_field}
use Rattle.offsetting.specs.declared.Offsetting.{Offsetting}

-- "6. Check length, 04 to 12"; "7. Account, 12 digits"; "8. Decimalisation table, 16 digits. Characters missing at the end of the
-- command give 15", a non-digit 25; "9. Validation data"
unfoldable pub offsetting : ℕ → List ℕ → ℕ → Stage Offsetting
offsetting which s at =
    field which (number 4 12 Field15) s at
    (λ check accountAt. field (which + 1) (run Digit Field15 Field15 12) s accountAt
    (λ _ table_at. field (which + 2) (run Digit Field15 Table25 16) s table_at
    (λ _ dataAt. field (which + 3) validation_field s dataAt
    (λ shape next. read (record { check = check; account = accountAt; table = table_at; validation = dataAt; shape = shape }) next))))

-- n characters from a place
abbrev pub part : List ℕ → ℕ → ℕ → List ℕ
part s at n = take n (drop at s)

-- what stands at its places
abbrev pub account_in : List ℕ → Offsetting → List ℕ
account_in s o = map value_of (part s o.account 12)

abbrev pub table_in : List ℕ → Offsetting → List ℕ
table_in s o = map value_of (part s o.table 16)

abbrev pub validation_in : List ℕ → Offsetting → List ℕ
validation_in s o = part s o.validation (shape_width o.shape)
