-- The PIN blocks of commands that are printed: literal bytes.
use Rattle.std.specs.Prelude.{ℕ, ◌≤◌, ◌≡◌, [], ◌∷◌, ◌++◌, Bool}
use Rattle.numbers.specs.Numbers.{done}
use Rattle.settings.specs.Settings.{usually, restricted_to}
use Rattle.commands.specs.Commands.{extracted}
use Rattle.texts.specs.Characters.{printed}
use Rattle.claims_blocks.specs.Figures.{usual_account}
use Rattle.claims_commands.specs.Cores.{command_of}
use Rattle.claims_exactly.specs.Typed.{full_text}
use Rattle.claims_exactly.specs.VerifyTyped.{ea_text, narrowly}

-- that of the command of "Run, not proved", restricted or not: sixteen zeros
abbrev pub PapersBlock : Type 0
PapersBlock = (restricted : Bool) (room : ℕ) → 16 ≤ room
    → extracted (restricted_to usually restricted) (command_of usual_account) room ≡ done (0x00 ∷ 0x00 ∷ 0x00 ∷ 0x00 ∷ 0x00 ∷ 0x00 ∷ 0x00 ∷ 0x00 ∷ [])

-- that of the BK with every optional part, `0123456789ABCDEF`
abbrev pub FullBlock : Type 0
FullBlock = (restricted : Bool) (room : ℕ) → 16 ≤ room
    → extracted (restricted_to usually restricted) (printed "HDR1BK" ++ full_text) room ≡ done (0x01 ∷ 0x23 ∷ 0x45 ∷ 0x67 ∷ 0x89 ∷ 0xAB ∷ 0xCD ∷ 0xEF ∷ [])

-- that of the EA, `FEDCBA9876543210`
abbrev pub EaBlock : Type 0
EaBlock = (room : ℕ) → 16 ≤ room → extracted narrowly (printed "HDR1EA" ++ ea_text) room ≡ done (0xFE ∷ 0xDC ∷ 0xBA ∷ 0x98 ∷ 0x76 ∷ 0x54 ∷ 0x32 ∷ 0x10 ∷ [])
