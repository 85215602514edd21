-- The PIN block's call: what it refuses, and what it writes of a command of the paper's. Rooms are literals, so that a room that is
-- changed in definition and code together is met here.
use Rattle.std.specs.Prelude.{ℕ, ◌≤◌, ◌<◌, ◌≡◌, ◌↔◌, List, map, length, get_or}
use Rattle.std.proofs.Common.{inl, inr}
use Rattle.nibbles.specs.Nibbles.{nibs}
use Rattle.numbers.specs.Numbers.{done, refused}
use Rattle.numbers.specs.declared.Refusal.TheVariants.{Room901}
use Rattle.settings.specs.declared.Settings.{Settings}
use Rattle.fields.specs.Fields.{unpointed, shown}
use Rattle.fields.specs.declared.Fault.{Fault}
use Rattle.commands.specs.Commands.{asking, extracting, extracted}
use Rattle.texts.specs.Characters.{printed}
use Rattle.claims_blocks.specs.Claims.{IsBytes}
use Rattle.claims_exactly.specs.Responses.{OneOfThePapers}

-- ---- what it refuses

-- it judges as the asking call does up to the end of the fields: where there is room for both it is refused exactly where that is, with
-- the same number, place and field
abbrev pub RefusesAsAsking : Type 0
RefusesAsAsking = (settings : Settings) (s : List ℕ) (room room' : ℕ) (f : Fault) → 16 ≤ room → 8 ≤ room'
    → (extracting settings s room ≡ refused f) ↔ (asking settings s room' ≡ refused f)

-- less room is 901
abbrev pub RoomOf16 : Type 0
RoomOf16 = (settings : Settings) (s : List ℕ) (room : ℕ) → room < 16 → extracting settings s room ≡ unpointed (refused Room901)

-- the place that is shown lies in the command or at its end
abbrev pub PlaceInside : Type 0
PlaceInside = (settings : Settings) (s : List ℕ) (room : ℕ) → (shown (extracting settings s room)).place ≤ length s

-- ---- what it writes

-- the characters of the PIN block field
abbrev pub block_field : (settings : Settings) (s : List ℕ) → OneOfThePapers settings s → List ℕ
block_field settings s (inl c) = c.parts.sealed.block
block_field settings s (inr (w, c)) = c.parts.sealed.block

-- bytes in hex: two capitals or digits to a byte, the higher nibble first
abbrev pub hex_text : List ℕ → List ℕ
hex_text bytes = map (λ n. get_or (printed "0123456789ABCDEF") n 0) (nibs bytes)

-- of a command of the paper's, a BK under settings that allow its format, a DA or an EA, it writes some bytes exactly where the PIN
-- block field has these in hex
abbrev pub WritesTheField : Type 0
WritesTheField = (settings : Settings) (s : List ℕ) (room : ℕ) (command : OneOfThePapers settings s) (bytes : List ℕ) → 16 ≤ room → IsBytes bytes
    → (extracted settings s room ≡ done bytes) ↔ (block_field settings s command ≡ hex_text bytes)
