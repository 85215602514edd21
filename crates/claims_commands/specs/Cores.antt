-- The cores that the promises of the asking and the answering call reject, at the exchange that the paper prints and beside it.
use Rattle.std.specs.Prelude.{ℕ, ◌≤◌, ◌≡◌, List, [], ◌∷◌, ◌++◌, Bool, true, length, replicate}
use Rattle.numbers.specs.Numbers.{refused, number_of}
use Rattle.numbers.specs.declared.Refusal.{Refusal}
use Rattle.numbers.specs.Promise.{Said, Does, quietly}
use Rattle.numbers.specs.declared.Reply.{Reply}
use Rattle.settings.specs.Settings.{usually, restricted_to}
use Rattle.settings.specs.declared.Settings.{Settings}
use Rattle.responses.specs.Responses.{room_to_answer}
use Rattle.commands.specs.Commands.{room_to_ask, asked, answered}
use Rattle.claims_blocks.specs.Figures.{usual_account}
use Rattle.claims_blocks.specs.Promises.{Only00, Apart}
use Rattle.claims_offsets.specs.Figures.{block_p2, table_p9, enciphered_p9, validation_p12}
use Rattle.claims_commands.specs.Witnesses.{front, zero_key, format01, check04}

-- the command of "Run, not proved", with an account
abbrev pub command_of : List ℕ → List ℕ
command_of account = front ++ (zero_key ++ (zero_key ++ (replicate 16 0x30 ++ (format01 ++ (check04 ++ (account ++ (table_p9 ++ validation_p12)))))))

-- account 400000123457
abbrev pub other_account : List ℕ
other_account = 0x34 ∷ 0x30 ∷ 0x30 ∷ 0x30 ∷ 0x30 ∷ 0x30 ∷ 0x31 ∷ 0x32 ∷ 0x33 ∷ 0x34 ∷ 0x35 ∷ 0x37 ∷ []

-- an enciphered block of which the natural PIN is zeros
abbrev pub enciphered_zeros : List ℕ
enciphered_zeros = replicate 8 0

-- what the asking call says to that command with an account, restricted or not, over the buffer that it is lent
abbrev pub asks : Bool → List ℕ → List ℕ → Said ℕ
asks restricted account before = quietly (asked (restricted_to usually restricted) (command_of account) (length before))

-- what the answering call says to it, "with P2" and an enciphered block "and good parity"
abbrev pub answers : Bool → List ℕ → List ℕ → Said ℕ
answers restricted enciphered before = answered (restricted_to usually restricted) true true (command_of usual_account) block_p2 enciphered (length before)

-- a core that refuses everything is rejected, at each of the two calls: no answer but 00 fits
abbrev pub CommandsNotRefusing : Type 0
CommandsNotRefusing = (restricted : Bool)
    → ((before : List ℕ) → room_to_ask ≤ length before → Only00 (asks restricted usual_account before) before)
    × ((before : List ℕ) → room_to_answer ≤ length before → Only00 (answers restricted enciphered_p9 before) before)

-- a core with one fixed block, or one fixed offset, is rejected: another account needs another block, another enciphered block another
-- offset
abbrev pub CommandsNotFixed : Type 0
CommandsNotFixed = (restricted : Bool)
    → ((before : List ℕ) → room_to_ask ≤ length before → Apart (asks restricted usual_account before) (asks restricted other_account before) before)
    × ((before : List ℕ) → room_to_answer ≤ length before → Apart (answers restricted enciphered_p9 before) (answers restricted enciphered_zeros before) before)

-- a core that writes nothing is rejected, at each of the two calls: a buffer of zeros must not stay as it was
abbrev pub CommandsNotSilent : Type 0
CommandsNotSilent = (restricted : Bool)
    → ((room : ℕ) (r : Reply) → room_to_ask ≤ room → Does (asks restricted usual_account (replicate room 0)) (replicate room 0) r (replicate room 0) → ⊥)
    × ((room : ℕ) (r : Reply) → room_to_answer ≤ room → Does (answers restricted enciphered_p9 (replicate room 0)) (replicate room 0) r (replicate room 0) → ⊥)

-- ---- the exchange that the paper runs

-- P12's block
abbrev pub block_p12 : List ℕ
block_p12 = 0x01 ∷ 0x23 ∷ 0x45 ∷ 0x67 ∷ 0x89 ∷ 0xA2 ∷ 0x34 ∷ 0x56 ∷ []

-- "`HDR1BL009247FFFFFFFF`: header, response code, 00, offset"
abbrev pub paper_response : List ℕ
paper_response =
    0x48 ∷ 0x44 ∷ 0x52 ∷ 0x31 ∷ 0x42 ∷ 0x4C ∷ 0x30 ∷ 0x30 ∷ 0x39 ∷ 0x32 ∷ 0x34 ∷ 0x37 ∷ 0x46 ∷ 0x46 ∷ 0x46 ∷ 0x46 ∷ 0x46 ∷ 0x46 ∷ 0x46 ∷ 0x46 ∷ []

-- the exchange that the paper runs, proved: restricted or not, over every buffer that is long enough, the asking call says 00 and P12's
-- block, and the answering call 00 and the twenty bytes of the response
abbrev pub PapersExchange : Type 0
PapersExchange = (restricted : Bool)
    → ((before : List ℕ) → room_to_ask ≤ length before → asks restricted usual_account before ≡ record { number = 0; written = block_p12 })
    × ((before : List ℕ) → room_to_answer ≤ length before → answers restricted enciphered_p9 before ≡ record { number = 0; written = paper_response })

-- ---- the reading of the fields

-- "They also reject an asking call that does the field reading while the answering call skips it": what the asking call refuses, the
-- answering call refuses with the same number, whatever the key box answered
abbrev pub AnswerReadsTheFields : Type 0
AnswerReadsTheFields =
    (settings : Settings) (pin_key_good pvk_good : Bool) (s block enciphered : List ℕ) (room room' : ℕ) (q : Refusal) → room_to_ask ≤ room → room_to_answer ≤ room'
    → asked settings s room ≡ refused q → (answered settings pin_key_good pvk_good s block enciphered room').number ≡ number_of q
