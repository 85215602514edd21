-- Demand 1, of the calls below the command level: every number that a call answers is one of the table's, and the count agrees with it.
use Rattle.std.specs.Prelude.{ℕ, ◌≤◌, ◌≡◌, List, [], ◌∷◌, Bool, true, length}
use Rattle.numbers.specs.Promise.{Said, quietly}
use Rattle.validation.specs.Validation.{validation_block}
use Rattle.naturals.specs.Naturals.{natural_pin}
use Rattle.offsets.specs.Offsets.{offset_made, offset_of_digits, differences_of}
use Rattle.verdicts.specs.Verdicts.{offset_verdict}
use Rattle.pvv.specs.Pvv.{pvv_input, pvv_made, pvv_verdict}
use Rattle.claims_blocks.specs.Claims.{IsBytes}
use Rattle.claims_blocks.specs.Promises.{listed, reads, writes, translates}

-- one of these numbers; with 00 a count that is right, and with any other number nothing
abbrev pub Numbered : {A : Type 0} → List ℕ → (ℕ → Type 0) → Said A → Type 0
Numbered numbers counts said =
    (listed said.number numbers ≡ true) × (said.number ≡ 0 → counts (length said.written)) × ((said.number ≡ 0 → ⊥) → said.written ≡ [])

-- so many: eight bytes of block, twelve characters of offset, four of PVV, nothing for a verdict
abbrev pub SoMany : ℕ → ℕ → Type 0
SoMany n count = count ≡ n

-- as many as a PIN has digits
abbrev pub FourToTwelve : ℕ → Type 0
FourToTwelve count = (4 ≤ count) × (count ≤ 12)

-- as many as the PIN length that is handed in
abbrev pub PinLength : ℕ → ℕ → Type 0
PinLength n count = (count ≡ n) × FourToTwelve count

-- a field, or the room: of a validation block, and of a PVV
abbrev pub field_numbers : List ℕ
field_numbers = 0 ∷ 15 ∷ 901 ∷ []

-- a natural PIN: its length and its table too
abbrev pub natural_numbers : List ℕ
natural_numbers = 0 ∷ 15 ∷ 24 ∷ 25 ∷ 901 ∷ []

-- an offset from a block
abbrev pub offset_numbers : List ℕ
offset_numbers = 0 ∷ 15 ∷ 20 ∷ 23 ∷ 24 ∷ 25 ∷ 69 ∷ 81 ∷ 901 ∷ []

-- an offset from digits, and the differences
abbrev pub digits_numbers : List ℕ
digits_numbers = 0 ∷ 15 ∷ 20 ∷ 24 ∷ 81 ∷ 901 ∷ []

-- the verdict on an offset, which is lent no buffer
abbrev pub verdict_numbers : List ℕ
verdict_numbers = 0 ∷ 1 ∷ 15 ∷ 20 ∷ 23 ∷ 24 ∷ 25 ∷ 69 ∷ 81 ∷ []

-- the PVV's input, and each of the three block calls
abbrev pub block_numbers : List ℕ
block_numbers = 0 ∷ 15 ∷ 20 ∷ 23 ∷ 24 ∷ 69 ∷ 901 ∷ []

-- the verdict on a PVV, which is lent no buffer
abbrev pub pvv_verdict_numbers : List ℕ
pvv_verdict_numbers = 0 ∷ 1 ∷ 15 ∷ 20 ∷ 23 ∷ 24 ∷ 69 ∷ []

-- what the nine calls that are not block calls can answer, and how many elements
abbrev pub NumbersOfOffsetCalls : Type 0
NumbersOfOffsetCalls =
    ((validation account : List ℕ) (room : ℕ) → Numbered field_numbers (SoMany 8) (quietly (validation_block validation account room)))
    × ((n : ℕ) (table enciphered : List ℕ) (room : ℕ) → Numbered natural_numbers (PinLength n) (quietly (natural_pin n table enciphered room)))
    × ((variable : Bool) (code check : ℕ) (block account table enciphered : List ℕ) (room : ℕ)
    → Numbered offset_numbers (SoMany 12) (quietly (offset_made variable code check block account table enciphered room)))
    × ((variable : Bool) (check : ℕ) (pin natural : List ℕ) (room : ℕ)
    → Numbered digits_numbers (SoMany 12) (quietly (offset_of_digits variable check pin natural room)))
    × ((variable : Bool) (check : ℕ) (pin natural : List ℕ) (room : ℕ)
    → Numbered digits_numbers FourToTwelve (quietly (differences_of variable check pin natural room)))
    × ((variable : Bool) (code check : ℕ) (block account table enciphered offset : List ℕ)
    → Numbered verdict_numbers (SoMany 0) (quietly (offset_verdict variable code check block account table enciphered offset)))
    × ((code index : ℕ) (block account : List ℕ) (room : ℕ)
    → Numbered block_numbers (SoMany 8) (quietly (pvv_input code index block account room)))
    × ((enciphered : List ℕ) (room : ℕ) → IsBytes enciphered → Numbered field_numbers (SoMany 4) (quietly (pvv_made enciphered room)))
    × ((code index : ℕ) (block account enciphered pvv : List ℕ)
    → Numbered pvv_verdict_numbers (SoMany 0) (quietly (pvv_verdict code index block account enciphered pvv)))

-- the counts of the three block calls: a PIN that was read, a block that was written, a block that was translated
abbrev pub CountsOfCalls : Type 0
CountsOfCalls = ((code : ℕ) (block account before : List ℕ) → Numbered block_numbers FourToTwelve (reads code block account before))
    × ((code : ℕ) (pin account fill before : List ℕ) → IsBytes fill → Numbered block_numbers (SoMany 8) (writes code pin account fill before))
    × ((restricted : Bool) (from to : ℕ) (block account fill before : List ℕ) → IsBytes block → IsBytes fill
    → Numbered block_numbers (SoMany 8) (translates restricted from to block account fill before))

-- "for an offset to be made 81 never arises" where the offset has variable length
abbrev pub MadeNever81 : Type 0
MadeNever81 = ((code check : ℕ) (block account table enciphered : List ℕ) (room : ℕ) → (quietly (offset_made true code check block account table enciphered room)).number ≡ 81 → ⊥)
    × ((check : ℕ) (pin natural : List ℕ) (room : ℕ) → (quietly (offset_of_digits true check pin natural room)).number ≡ 81 → ⊥)
