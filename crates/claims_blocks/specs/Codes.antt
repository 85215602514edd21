-- Which format codes, and which pairs of them, the block calls take: the paper's lists, as it prints them.
use Rattle.std.specs.Prelude.{ℕ, ◌≤◌, ◌≡◌, ◌↔◌, List, [], ◌∷◌, Bool, true, false, ◌&&◌, ◌||◌, not, cond, length, eqb}
use Rattle.numbers.specs.Numbers.{done}
use Rattle.numbers.specs.Promise.{Said}
use Rattle.pins.specs.Pins.{account_of}
use Rattle.blockcalls.specs.BlockCalls.{read_block}
use Rattle.claims_blocks.specs.Claims.{IsBytes}
use Rattle.claims_blocks.specs.Promises.{listed, reads, writes, translates}

-- "format code not among 01 03 05 34 35 41 42 47 48"
abbrev pub known_codes : List ℕ
known_codes = 1 ∷ 3 ∷ 5 ∷ 34 ∷ 35 ∷ 41 ∷ 42 ∷ 47 ∷ 48 ∷ []

-- "Formats 41, 42 and 48 are known but not built"
abbrev pub unbuilt_codes : List ℕ
unbuilt_codes = 41 ∷ 42 ∷ 48 ∷ []

-- "Restricted: 05 to 01, 47, 05; 01 and 47 to 01, 47"
abbrev pub restricted_pairs : List (ℕ × ℕ)
restricted_pairs = (5, 1) ∷ (5, 47) ∷ (5, 5) ∷ (1, 1) ∷ (1, 47) ∷ (47, 1) ∷ (47, 47) ∷ []

-- a pair that stands in a list
abbrev pub listed_pair : ℕ → ℕ → List (ℕ × ℕ) → Bool
listed_pair from to [] = false
listed_pair from to (pair ∷ pairs) = (eqb from pair.0 && eqb to pair.1) || listed_pair from to pairs

-- what is left where the format is taken: 00, or 20 or 24 for what the block holds or the PIN that is handed in
abbrev pub of_contents : List ℕ
of_contents = 0 ∷ 20 ∷ 24 ∷ []

-- the numbers that a code leaves: 23 outside the nine, 69 for the three, and for every other only those that are judged behind it
abbrev pub left_to : List ℕ → ℕ → List ℕ
left_to behind code = cond (listed code known_codes) (cond (listed code unbuilt_codes) (69 ∷ []) behind) (23 ∷ [])

-- behind it only the contents
abbrev pub left_by : ℕ → List ℕ
left_by code = left_to of_contents code

-- a pair of codes that is not taken: one of the three is in it or, restricted, it is none of the seven
abbrev pub not_taken : Bool → ℕ → ℕ → Bool
not_taken restricted from to = listed from unbuilt_codes || (listed to unbuilt_codes || (restricted && not (listed_pair from to restricted_pairs)))

-- the numbers that a pair of codes leaves a translation
abbrev pub left_by_pair : Bool → ℕ → ℕ → List ℕ
left_by_pair restricted from to =
    cond (listed from known_codes && listed to known_codes) (cond (not_taken restricted from to) (69 ∷ []) of_contents) (23 ∷ [])

-- the number is one of these
abbrev pub OneOfThem : Said ℕ → List ℕ → Type 0
OneOfThem said numbers = listed said.number numbers ≡ true

-- where all else is in its form, each call answers what its codes leave. No number is left by two of the three kinds of codes, so 23 is
-- answered exactly outside the nine, 69 exactly for the codes and pairs that are not taken
abbrev pub CodesExactly : Type 0
CodesExactly = ((code : ℕ) (block account digits before : List ℕ) → length block ≡ 8 → account_of account ≡ done digits → 12 ≤ length before
    → OneOfThem (reads code block account before) (left_by code))
    × ((code : ℕ) (pin account digits fill before : List ℕ) → account_of account ≡ done digits → length fill ≡ 8 → 8 ≤ length before
    → OneOfThem (writes code pin account fill before) (left_by code))
    × ((restricted : Bool) (from to : ℕ) (block account digits fill before : List ℕ) → length block ≡ 8 → account_of account ≡ done digits → length fill ≡ 8 → 8 ≤ length before
    → OneOfThem (translates restricted from to block account fill before) (left_by_pair restricted from to))

-- restricted, the translation of a block that holds a PIN is done exactly for the seven pairs
abbrev pub RestrictedExactly : Type 0
RestrictedExactly = (from to : ℕ) (block account fill pin before : List ℕ) (room : ℕ)
    → read_block from block account room ≡ done pin → length fill ≡ 8 → IsBytes fill → 8 ≤ length before
    → ((translates true from to block account fill before).number ≡ 0) ↔ (listed_pair from to restricted_pairs ≡ true)
