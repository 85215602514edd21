-- 901 first, of the calls that are not block calls: "8 for a block, 4 for a PVV, 12 for digits, differences or an offset".
use Rattle.std.specs.Prelude.{ℕ, List, Bool}
use Rattle.numbers.specs.Promise.{quietly}
use Rattle.validation.specs.Validation.{validation_block}
use Rattle.naturals.specs.Naturals.{natural_pin}
use Rattle.offsets.specs.Offsets.{offset_made, offset_of_digits, differences_of}
use Rattle.pvv.specs.Pvv.{pvv_input, pvv_made}
use Rattle.claims_blocks.specs.Rooms.{NeedsRoom}

-- the seven that are lent output; the two verdicts are lent none
abbrev pub OffsetRoomFirst : Type 0
OffsetRoomFirst = ((validation account : List ℕ) → NeedsRoom 8 (λ room. quietly (validation_block validation account room)))
    × ((n : ℕ) (table enciphered : List ℕ) → NeedsRoom 12 (λ room. quietly (natural_pin n table enciphered room)))
    × ((variable : Bool) (code check : ℕ) (block account table enciphered : List ℕ)
    → NeedsRoom 12 (λ room. quietly (offset_made variable code check block account table enciphered room)))
    × ((variable : Bool) (check : ℕ) (pin natural : List ℕ) → NeedsRoom 12 (λ room. quietly (offset_of_digits variable check pin natural room)))
    × ((variable : Bool) (check : ℕ) (pin natural : List ℕ) → NeedsRoom 12 (λ room. quietly (differences_of variable check pin natural room)))
    × ((code index : ℕ) (block account : List ℕ) → NeedsRoom 8 (λ room. quietly (pvv_input code index block account room)))
    × ((enciphered : List ℕ) → NeedsRoom 4 (λ room. quietly (pvv_made enciphered room)))
