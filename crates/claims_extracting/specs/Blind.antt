-- The PIN block's call does not look into the block.
use Rattle.std.specs.Prelude.{ℕ, ◌+◌, ◌≡◌, ◌⊎◌, List, map}
use Rattle.nibbles.specs.Nibbles.{packs}
use Rattle.alphabet.specs.Alphabet.{value_of}
use Rattle.alphabet.specs.declared.Class.TheVariants.{CapitalHex}
use Rattle.numbers.specs.Numbers.{done, refused}
use Rattle.settings.specs.declared.Settings.{Settings}
use Rattle.frame.specs.declared.Code.{Code}
use Rattle.frame.specs.declared.Code.TheVariants.{Bk, Da, Ea, Other}
use Rattle.fields.specs.Fields.{read}
use Rattle.fields.specs.declared.Fault.{Fault}
use Rattle.uses.specs.Uses.{pin_key, pvk, terminal_key, zone_key}
use Rattle.keyfields.specs.KeyFields.{keys}
use Rattle.keyfields.specs.declared.Keys.{Keys}
use Rattle.offsetting.specs.Offsetting.{part}
use Rattle.verifyfields.specs.VerifyFields.{front}
use Rattle.commands.specs.Commands.{extracting}
use Rattle.texts.specs.Texts.{Run}
use Rattle.claims_commands.specs.Runs.{code_in, AlikeBut}

-- the fields before the PIN block are read, and it begins at a place
abbrev pub BlockBegins : Code → List ℕ → ℕ → ℕ → Type 0
BlockBegins Bk s at place = (ks : Keys) × (keys 1 pin_key pvk s at ≡ read ks place)
BlockBegins Da s at place = (ks : Keys) × (front terminal_key s at ≡ read ks place)
BlockBegins Ea s at place = (ks : Keys) × (front zone_key s at ≡ read ks place)
BlockBegins Other s at place = ⊥

-- two commands have "16 hex" there, and are alike outside these
pub record AnotherBlock (place : ℕ) (s t : List ℕ) : Type 0 where
  pub here : Run CapitalHex 16 (part s place 16)
  pub there : Run CapitalHex 16 (part t place 16)
  pub alike : AlikeBut place s t

-- what stands there, two characters to a byte
abbrev pub bytes_at : List ℕ → ℕ → List ℕ
bytes_at s place = packs (map value_of (part s place 16))

-- whatever is wrong elsewhere, and whatever the room, both are refused with the same number, place and field, or the bytes of each are
-- written as they stand
abbrev pub BlindToTheBlock : Type 0
BlindToTheBlock = (settings : Settings) (s t : List ℕ) (room place : ℕ) → BlockBegins (code_in settings s) s (settings.header + 2) place → AnotherBlock place s t
    → ((f : Fault) × (extracting settings s room ≡ refused f) × (extracting settings t room ≡ refused f))
    ⊎ ((extracting settings s room ≡ done (bytes_at s place)) × (extracting settings t room ≡ done (bytes_at t place)))
