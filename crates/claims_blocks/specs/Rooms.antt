-- "lent output too short": 901, judged first. The paper's sentence on rooms: "a lower call that is lent output needs 8 for a block, 4 for a
-- PVV, 12 for digits, differences or an offset".
use Rattle.std.specs.Prelude.{ℕ, ◌<◌, ◌≡◌, List, [], Bool}
use Rattle.numbers.specs.Promise.{Said, quietly}
use Rattle.blockcalls.specs.BlockCalls.{read_block, write_block}
use Rattle.translation.specs.Translation.{translate_block}

-- a call that needs so much room: with less it says 901 and writes nothing, whatever else is wrong
abbrev pub NeedsRoom : {A : Type 0} → ℕ → (ℕ → Said A) → Type 0
NeedsRoom least call = (room : ℕ) → room < least → ((call room).number ≡ 901) × ((call room).written ≡ [])

-- the three block calls: 12 for digits, 8 for a block
abbrev pub RoomFirst : Type 0
RoomFirst = ((code : ℕ) (block account : List ℕ) → NeedsRoom 12 (λ room. quietly (read_block code block account room)))
    × ((code : ℕ) (pin account fill : List ℕ) → NeedsRoom 8 (λ room. quietly (write_block code pin account fill room)))
    × ((restricted : Bool) (from to : ℕ) (block account fill : List ℕ) → NeedsRoom 8 (λ room. quietly (translate_block restricted from to block account fill room)))
