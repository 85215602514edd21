-- What is claimed of PIN blocks, each once over the format.
use Rattle.std.specs.Prelude.{ℕ, ◌≤◌, ◌≡◌, ◌↔◌, ◌⊎◌, List, [], ◌∷◌, ◌++◌, Bool, true, false, length, take}
use Rattle.nibbles.specs.Nibbles.{nibs, within, every}
use Rattle.numbers.specs.Numbers.{Outcome, done, refused}
use Rattle.numbers.specs.declared.Refusal.TheVariants.{Block20, Length24}
use Rattle.formats.specs.Formats.{lead_of, veiled}
use Rattle.codes.specs.Codes.{code_of}
use Rattle.pins.specs.Pins.{account_of, account_field}
use Rattle.blocks.specs.Blocks.{veil, read_row, write_row}
use Rattle.blockcalls.specs.BlockCalls.{read_block, write_block}
use Rattle.formats.specs.declared.Format.{Format}
use Rattle.formats.specs.declared.Lead.{Lead}
use Rattle.formats.specs.declared.Lead.TheVariants.{Bare, Control}
use Rattle.codes.specs.declared.Code.TheVariants.{Built}
use Rattle.pairs.specs.Pairs.{pair_of}
use Rattle.translation.specs.Translation.{translate_block}

-- a PIN: 4 to 12 digits
abbrev pub IsPin : List ℕ → Type 0
IsPin ds = (4 ≤ length ds) × (length ds ≤ 12) × (every (within 0 9) ds ≡ true)

-- a row of sixteen nibbles
abbrev pub IsRow : List ℕ → Type 0
IsRow ns = (length ns ≡ 16) × (every (within 0 15) ns ≡ true)

-- a run of bytes
abbrev pub IsBytes : List ℕ → Type 0
IsBytes bs = every (within 0 255) bs ≡ true

-- refused for its contents: 20 for control, digit or fill, 24 for a length outside 4 to 12
abbrev pub ForContents : Outcome (List ℕ) → Type 0
ForContents o = (o ≡ refused Block20) ⊎ (o ≡ refused Length24)

-- what is written reads back, whatever the format, the veil, the PIN and the fill
abbrev pub RoundTrip : Type 0
RoundTrip = (f : Format) (with ds fill : List ℕ) → IsRow with → IsPin ds → IsRow fill → read_row f with (write_row f with ds fill) ≡ done ds

-- a block is refused for its contents exactly where no PIN, under any fill, writes it
abbrev pub RefusedExactly : Type 0
RefusedExactly = (f : Format) (with ns : List ℕ) → IsRow with → IsRow ns
    → ForContents (read_row f with ns) ↔ ((ds fill : List ℕ) → IsPin ds → IsRow fill → write_row f with ds fill ≡ ns → ⊥)

-- these nibbles are the whole block, or stand before an F of it
abbrev pub UpToF : List ℕ → List ℕ → Type 0
UpToF ns ds = (ns ≡ ds) ⊎ ((rest : List ℕ) × (ns ≡ ds ++ (15 ∷ rest)))

-- the length that a clear block says its PIN has: N, behind the format's C; or, where nothing leads, how many digits there are up to the
-- first F or the end. It says none where C is another, or where nothing leads and a letter stands before the first F
abbrev pub SaysLength : Lead → List ℕ → ℕ → Type 0
SaysLength (Control c) ns n = take 2 ns ≡ c ∷ n ∷ []
SaysLength Bare ns n = (digits : List ℕ) × (every (within 0 9) digits ≡ true) × (length digits ≡ n) × UpToF ns digits

-- it says one outside 4 to 12
abbrev pub SaysWrongLength : Lead → List ℕ → Type 0
SaysWrongLength lead ns = (n : ℕ) × SaysLength lead ns n × (within 4 12 n ≡ false)

-- a block is refused with 24 exactly where it says such a length, whatever is wrong behind that; so every other that is refused is 20, where
-- it says no length, or where it says one of 4 to 12 and a digit or the fill is wrong
abbrev pub LengthExactly : Type 0
LengthExactly = (f : Format) (with ns : List ℕ) → IsRow with → IsRow ns
    → (read_row f with ns ≡ refused Length24) ↔ SaysWrongLength (lead_of f) (veil (veiled f) with ns)

-- the calls: every PIN is written, in every built format, for every account, under every fill, as eight bytes that are read as it
abbrev pub Written : Type 0
Written = (code : ℕ) (f : Format) → code_of code ≡ Built f
    → (pin account digits fill : List ℕ) (room room' : ℕ) → account_of account ≡ done digits → IsPin pin → length fill ≡ 8 → IsBytes fill → 8 ≤ room → 12 ≤ room'
    → (block : List ℕ) × (write_block code pin account fill room ≡ done block) × (length block ≡ 8) × IsBytes block × (read_block code block account room' ≡ done pin)

-- the calls: whatever was handed in, a block that was written is read as its PIN
abbrev pub WrittenReads : Type 0
WrittenReads = (code : ℕ) (pin account fill block : List ℕ) (room room' : ℕ) → IsBytes fill → 12 ≤ room'
    → write_block code pin account fill room ≡ done block → read_block code block account room' ≡ done pin

-- the calls: in every built format, a block of eight bytes is read as a PIN or refused for its contents
abbrev pub ReadOrRefused : Type 0
ReadOrRefused = (code : ℕ) (f : Format) → code_of code ≡ Built f
    → (block account digits : List ℕ) (room : ℕ) → length block ≡ 8 → account_of account ≡ done digits → 12 ≤ room
    → ((pin : List ℕ) × IsPin pin × (read_block code block account room ≡ done pin)) ⊎ ForContents (read_block code block account room)

-- the calls: a block is refused for its contents exactly where no PIN, under any fill, writes it
abbrev pub BlockRefusedExactly : Type 0
BlockRefusedExactly = (code : ℕ) (f : Format) → code_of code ≡ Built f
    → (block account digits : List ℕ) (room : ℕ) → length block ≡ 8 → IsBytes block → account_of account ≡ done digits → 12 ≤ room
    → ForContents (read_block code block account room)
    ↔ ((pin fill : List ℕ) → IsPin pin → length fill ≡ 8 → IsBytes fill → (room' : ℕ) → 8 ≤ room' → write_block code pin account fill room' ≡ done block → ⊥)

-- the calls: it is refused with 24 exactly where it says a length outside 4 to 12
abbrev pub BlockLengthExactly : Type 0
BlockLengthExactly = (code : ℕ) (f : Format) → code_of code ≡ Built f
    → (block account digits : List ℕ) (room : ℕ) → length block ≡ 8 → IsBytes block → account_of account ≡ done digits → 12 ≤ room
    → (read_block code block account room ≡ refused Length24) ↔ SaysWrongLength (lead_of f) (veil (veiled f) (account_field digits) (nibs block))

-- the calls: a translation that is permitted gives the very block that writing the PIN gives, and so keeps the PIN
abbrev pub TranslationKeeps : Type 0
TranslationKeeps = (restricted : Bool) (from to : ℕ) (pair : Format × Format) (block account fill ds : List ℕ) (room room' : ℕ)
    → read_block from block account room' ≡ done ds → pair_of restricted from to ≡ done pair → length fill ≡ 8 → IsBytes fill → 8 ≤ room
    → (out : List ℕ) × (translate_block restricted from to block account fill room ≡ done out) × (write_block to ds account fill room ≡ done out)
    × (read_block to out account room' ≡ done ds)
