-- A stage of commands: PIN block and format. It is told its first field's number, `which`.
use Rattle.std.specs.Prelude.{ℕ, ◌+◌, List, map, Bool, take, drop}
use Rattle.nibbles.specs.Nibbles.{packs}
use Rattle.alphabet.specs.Alphabet.{value_of}
use Rattle.alphabet.specs.declared.Class.TheVariants.{CapitalHex}
use Rattle.numbers.specs.declared.Refusal.TheVariants.{Field15}
use Rattle.fields.specs.Fields.{Stage, read, field, run}
use Rattle.formatfield.specs.FormatField.{format_field}
use Rattle.sealed.specs.declared.Sealed.{Sealed}

-- "4. PIN block, 16 hex"; "5. Format"
unfoldable pub sealed : ℕ → Bool → List ℕ → ℕ → Stage Sealed
sealed which restricted s block =
    field which (run CapitalHex Field15 Field15 16) s block
    (λ _ formatAt. field (which + 1) (format_field restricted) s formatAt
    (λ f next. read (record { block = block; format = f }) next))

-- the PIN block of a command is the bytes of its PIN block field: two characters to a byte, the left one's value the higher
abbrev pub block_in : List ℕ → Sealed → List ℕ
block_in s b = packs (map value_of (take 16 (drop b.block s)))
