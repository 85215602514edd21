-- The numbers that the three calls answer, and which cores their promises reject.
use Rattle.std.specs.Prelude.{ℕ, ◌≤◌, ◌≡◌, List, [], ◌∷◌, Bool, true, false, ◌||◌, length, replicate, eqb}
use Rattle.numbers.specs.Promise.{Said, Does, quietly}
use Rattle.numbers.specs.declared.Reply.{Reply}
use Rattle.blockcalls.specs.BlockCalls.{read_block, write_block}
use Rattle.translation.specs.Translation.{translate_block}
use Rattle.claims_blocks.specs.Claims.{IsBytes}
use Rattle.claims_blocks.specs.Figures.{usual_account, usual_pin, long_pin, block_p1, block_p6}

-- what the call that reads a block says, over the buffer that it is lent
abbrev pub reads : ℕ → List ℕ → List ℕ → List ℕ → Said ℕ
reads code block account before = quietly (read_block code block account (length before))

-- what the call that writes a block says
abbrev pub writes : ℕ → List ℕ → List ℕ → List ℕ → List ℕ → Said ℕ
writes code pin account fill before = quietly (write_block code pin account fill (length before))

-- what the call that translates says
abbrev pub translates : Bool → ℕ → ℕ → List ℕ → List ℕ → List ℕ → List ℕ → Said ℕ
translates restricted from to block account fill before = quietly (translate_block restricted from to block account fill (length before))

-- a number that stands in a list
abbrev pub listed : ℕ → List ℕ → Bool
listed n [] = false
listed n (m ∷ ms) = eqb n m || listed n ms

-- a number that a call of the three can answer
abbrev pub OfCalls : Said ℕ → Type 0
OfCalls said = listed said.number (0 ∷ 15 ∷ 20 ∷ 23 ∷ 24 ∷ 69 ∷ 901 ∷ []) ≡ true

-- whatever is handed in, each call answers one of them
abbrev pub NumbersOfCalls : Type 0
NumbersOfCalls = ((code : ℕ) (block account before : List ℕ) → OfCalls (reads code block account before))
    × ((code : ℕ) (pin account fill before : List ℕ) → OfCalls (writes code pin account fill before))
    × ((restricted : Bool) (from to : ℕ) (block account fill before : List ℕ) → OfCalls (translates restricted from to block account fill before))

-- no answer but 00 fits
abbrev pub Only00 : Said ℕ → List ℕ → Type 0
Only00 said before = (r : Reply) (after : List ℕ) → Does said before r after → r.number ≡ 0

-- no answer fits both
abbrev pub Apart : Said ℕ → Said ℕ → List ℕ → Type 0
Apart said said' before = (r : Reply) (after : List ℕ) → Does said before r after → Does said' before r after → ⊥

-- fill bytes 00
abbrev pub zeros : List ℕ
zeros = replicate 8 0

-- a core that refuses everything is rejected, at each of the three calls
abbrev pub NotRefusing : Type 0
NotRefusing = (before : List ℕ) → 12 ≤ length before
    → Only00 (reads 35 block_p1 usual_account before) before
    × Only00 (writes 35 usual_pin usual_account zeros before) before
    × Only00 (translates false 35 1 block_p1 usual_account zeros before) before

-- a core with one fixed answer is rejected, at each of the three calls
abbrev pub NotFixed : Type 0
NotFixed = (before : List ℕ) → 12 ≤ length before
    → Apart (reads 35 block_p1 usual_account before) (reads 34 block_p6 usual_account before) before
    × Apart (writes 35 usual_pin usual_account zeros before) (writes 35 long_pin usual_account zeros before) before
    × Apart (translates false 35 1 block_p1 usual_account zeros before) (translates false 34 1 block_p6 usual_account zeros before) before

-- a core that writes nothing is rejected, wherever a call says something to write: some buffer of each room must not stay as it was
abbrev pub NotSilent : Type 0
NotSilent = (said : Said ℕ) (room : ℕ) → 1 ≤ length said.written
    → (before : List ℕ) × (length before ≡ room) × IsBytes before × ((r : Reply) → Does said before r before → ⊥)
