-- Refused commands, as one table: what the asking and the answering call say to the paper's exchange, or a longer command, with one
-- fault, and which of two faults decides. Numbers, bytes and rooms are literals, so that a number, a room or an order that is changed in definition and code
-- together is met here.
use Rattle.std.specs.Prelude.{ℕ, ◌≡◌, List, [], ◌∷◌, ◌++◌, Bool, true, false, take}
use Rattle.numbers.specs.Promise.{Said, quietly}
use Rattle.settings.specs.Settings.{usually, headed, restricted_to}
use Rattle.settings.specs.declared.Settings.{Settings}
use Rattle.commands.specs.Commands.{asked, answered}
use Rattle.texts.specs.Texts.{together}
use Rattle.claims_blocks.specs.Figures.{block_p1}
use Rattle.claims_offsets.specs.Figures.{block_p2, enciphered_p9}
use Rattle.claims_figures.specs.Figures.{says}
use Rattle.claims_commands.specs.Witnesses.{one_listed}
use Rattle.claims_commands.specs.Cores.{block_p12, paper_response}
use Rattle.claims_refusals.specs.Parts.{but, exchange, longer, format05, pvk_block, trailer_end, header_7f, header_1f, hdr1b, hdr1nc, type003, key_x, pin_key_block_2, pin_key_block_e, pvk_block_b, pvk_block_v, pin_key_block_v1, small_hex, format_0a, format99, format41, check13, check06, account_a, table_a, short_table_a, validation_nn, count_a, three_listed, short_list, id10, id01, trailer33, left_x}

-- ---- what the key box answered

-- P4's block: the PIN of P2 in format 05
abbrev pub block_p4 : List ℕ
block_p4 = 0x15 ∷ 0x34 ∷ 0x56 ∷ 0x70 ∷ 0x00 ∷ 0x00 ∷ 0x00 ∷ 0x00 ∷ []

-- "PIN length outside 4 to 12": 345 in format 01
abbrev pub three_digits : List ℕ
three_digits = 0x03 ∷ 0x34 ∷ 0x1F ∷ 0xFF ∷ 0xFF ∷ 0xED ∷ 0xCB ∷ 0xA9 ∷ []

-- a slice that is not 8 bytes long
abbrev pub seven_bytes : List ℕ
seven_bytes = 0x05 ∷ 0x34 ∷ 0x16 ∷ 0x7F ∷ 0xFF ∷ 0xED ∷ 0xCB ∷ []

-- whether the parities of PIN key and PVK are good, the deciphered PIN block, the enciphered validation block
pub record KeyBox : Type 0 where
  pub pin_key_good : Bool
  pub pvk_good : Bool
  pub block : List ℕ
  pub enciphered : List ℕ

abbrev pub key_box : Bool → Bool → List ℕ → List ℕ → KeyBox
key_box pin_key_good pvk_good block enciphered = record { pin_key_good = pin_key_good; pvk_good = pvk_good; block = block; enciphered = enciphered }

-- "with P2 and P9's blocks and good parity"; with P4's
abbrev pub good : KeyBox
good = key_box true true block_p2 enciphered_p9

abbrev pub good_p4 : KeyBox
good_p4 = key_box true true block_p4 enciphered_p9

-- ---- rows

-- "header, response code and two-digit number": `HDR1BL` and the digits
abbrev pub hdr1bl : ℕ → ℕ → List ℕ
hdr1bl tens ones = 0x48 ∷ 0x44 ∷ 0x52 ∷ 0x31 ∷ 0x42 ∷ 0x4C ∷ tens ∷ ones ∷ []

-- a row: under settings, with a room for each call and the key box's answers, what the asking call says to a command and what the
-- answering call says
abbrev pub Calls : Settings → ℕ → ℕ → KeyBox → List (List ℕ) → Said ℕ → Said ℕ → Type 0
Calls settings askRoom answerRoom keys parts asks answers =
    (quietly (asked settings (together parts) askRoom)
    ∷ answered settings keys.pin_key_good keys.pvk_good (together parts) keys.block keys.enciphered answerRoom
    ∷ [])
    ≡ (asks ∷ answers ∷ [])

-- "901 and 902 write nothing"
abbrev pub Silent : Settings → ℕ → ℕ → List (List ℕ) → ℕ → Type 0
Silent settings askRoom answerRoom parts number = Calls settings askRoom answerRoom good parts (says number []) (says number [])

-- a fault that both calls meet: the asking call writes nothing, the answering call a response
abbrev pub BothRefuse : List (List ℕ) → ℕ → List ℕ → Type 0
BothRefuse parts number response = Calls usually 8 65 good parts (says number []) (says number response)

-- "An asking call stops here": a fault behind the fields, which the answering call meets alone. The asking call says 00 and P12's block
abbrev pub AnswerRefuses : KeyBox → List (List ℕ) → ℕ → List ℕ → Type 0
AnswerRefuses keys parts number response = Calls usually 8 65 keys parts (says 0 block_p12) (says number response)

-- ---- the table

-- `but 5 format99 exchange` is the exchange with 99 in its field 5
abbrev pub RefusedCommands : Type 0
RefusedCommands =
    -- without a fault, beside the exchange itself (`PapersExchange`): the longer command, and format 05 where it is allowed
    Calls usually 8 65 good longer (says 0 block_p12) (says 0 (paper_response ++ trailer_end))
    × Calls (restricted_to usually false) 8 65 good_p4 (but 5 format05 exchange) (says 0 block_p12) (says 0 paper_response)
    -- 901: "at least 65 bytes for the answering call, 8 for the asking call"
    × Silent usually 7 64 exchange 901
    -- 902: a header setting of 17, a header byte 7F, a command of five bytes
    × Silent (headed usually 17) 8 65 exchange 902
    × Silent usually 8 65 (but 0 header_7f exchange) 902
    × Silent usually 8 65 (hdr1b ∷ []) 902
    -- 68, with a response code of its own: `HDR1ND68`
    × BothRefuse (but 0 hdr1nc exchange) 68 (0x48 ∷ 0x44 ∷ 0x52 ∷ 0x31 ∷ 0x4E ∷ 0x44 ∷ 0x36 ∷ 0x38 ∷ [])
    -- the fields, one after the other
    × BothRefuse (but 1 type003 exchange) 15 (hdr1bl 0x31 0x35)
    × BothRefuse (but 2 key_x exchange) 26 (hdr1bl 0x32 0x36)
    × BothRefuse (but 3 pvk_block exchange) 26 (hdr1bl 0x32 0x36)
    × BothRefuse (but 2 pin_key_block_2 longer) 26 (hdr1bl 0x32 0x36)
    × BothRefuse (but 2 pin_key_block_e longer) 29 (hdr1bl 0x32 0x39)
    × BothRefuse (but 3 pvk_block_b longer) 29 (hdr1bl 0x32 0x39)
    × BothRefuse (but 3 pvk_block_v longer) 29 (hdr1bl 0x32 0x39)
    × BothRefuse (but 4 small_hex exchange) 15 (hdr1bl 0x31 0x35)
    × BothRefuse (but 5 format_0a exchange) 15 (hdr1bl 0x31 0x35)
    × BothRefuse (but 5 format99 exchange) 23 (hdr1bl 0x32 0x33)
    × Calls (restricted_to usually false) 8 65 good (but 5 format41 exchange) (says 69 []) (says 69 (hdr1bl 0x36 0x39))
    × BothRefuse (but 6 check13 exchange) 15 (hdr1bl 0x31 0x35)
    × BothRefuse (but 7 account_a exchange) 15 (hdr1bl 0x31 0x35)
    × BothRefuse (but 8 table_a exchange) 25 (hdr1bl 0x32 0x35)
    × BothRefuse (take 9 (but 8 short_table_a exchange)) 15 (hdr1bl 0x31 0x35)
    × BothRefuse (but 9 validation_nn exchange) 15 (hdr1bl 0x31 0x35)
    × BothRefuse (but 10 count_a exchange) 3 (hdr1bl 0x30 0x33)
    × BothRefuse (but 10 three_listed exchange) 15 (hdr1bl 0x31 0x35)
    × BothRefuse (but 10 short_list exchange) 3 (hdr1bl 0x30 0x33)
    × BothRefuse (but 11 id10 exchange) 15 (hdr1bl 0x31 0x35)
    × BothRefuse (but 11 id01 longer) 15 (hdr1bl 0x31 0x35)
    × BothRefuse (but 12 trailer33 exchange) 15 (hdr1bl 0x31 0x35)
    × BothRefuse (but 12 left_x exchange) 15 (hdr1bl 0x31 0x35)
    -- "restricted only 01 and 47": both calls refuse format 05
    × Calls (restricted_to usually true) 8 65 good_p4 (but 5 format05 exchange) (says 69 []) (says 69 (hdr1bl 0x36 0x39))
    -- the key box: a slice of seven bytes, the parities
    × AnswerRefuses (key_box true true seven_bytes enciphered_p9) exchange 15 (hdr1bl 0x31 0x35)
    × AnswerRefuses (key_box true true block_p2 seven_bytes) exchange 15 (hdr1bl 0x31 0x35)
    × AnswerRefuses (key_box false true block_p2 enciphered_p9) exchange 10 (hdr1bl 0x31 0x30)
    × AnswerRefuses (key_box true false block_p2 enciphered_p9) exchange 11 (hdr1bl 0x31 0x31)
    -- the block: control 2, and a PIN of three digits
    × AnswerRefuses (key_box true true block_p1 enciphered_p9) exchange 20 (hdr1bl 0x32 0x30)
    × AnswerRefuses (key_box true true three_digits enciphered_p9) exchange 24 (hdr1bl 0x32 0x34)
    -- the check length, the weak list
    × AnswerRefuses good (but 6 check06 exchange) 81 (hdr1bl 0x38 0x31)
    × AnswerRefuses good (but 10 one_listed exchange) 86 (hdr1bl 0x38 0x36)
    -- "A trailer, with its 19 mark, comes back with 00 only"
    × AnswerRefuses good (but 10 one_listed longer) 86 (hdr1bl 0x38 0x36)
    -- "The order is 901, 902, 68, then the fields from the left, the first fault deciding"
    × Silent usually 7 64 (but 0 header_7f exchange) 901
    × Silent usually 8 65 (but 0 header_1f exchange) 902
    × BothRefuse (but 0 hdr1nc (but 1 type003 exchange)) 68 (0x48 ∷ 0x44 ∷ 0x52 ∷ 0x31 ∷ 0x4E ∷ 0x44 ∷ 0x36 ∷ 0x38 ∷ [])
    × BothRefuse (but 1 type003 (but 2 key_x exchange)) 15 (hdr1bl 0x31 0x35)
    × BothRefuse (but 2 pin_key_block_e (but 3 key_x longer)) 29 (hdr1bl 0x32 0x39)
    × BothRefuse (but 2 pin_key_block_v1 longer) 29 (hdr1bl 0x32 0x39)
    × BothRefuse (but 3 key_x (but 4 small_hex exchange)) 26 (hdr1bl 0x32 0x36)
    × BothRefuse (but 4 small_hex (but 5 format41 exchange)) 15 (hdr1bl 0x31 0x35)
    × BothRefuse (but 5 format99 (but 8 table_a exchange)) 23 (hdr1bl 0x32 0x33)
    × BothRefuse (but 5 format41 (but 6 check13 exchange)) 69 (hdr1bl 0x36 0x39)
    × BothRefuse (but 6 check13 (but 8 table_a exchange)) 15 (hdr1bl 0x31 0x35)
    × BothRefuse (but 7 account_a (but 8 table_a exchange)) 15 (hdr1bl 0x31 0x35)
    × BothRefuse (but 8 table_a (but 9 validation_nn exchange)) 25 (hdr1bl 0x32 0x35)
    × BothRefuse (but 9 validation_nn (but 10 count_a exchange)) 15 (hdr1bl 0x31 0x35)
    × BothRefuse (but 10 count_a (but 11 id10 exchange)) 3 (hdr1bl 0x30 0x33)
    -- "The answering call then judges two slices that are not 8 bytes long (15), 10, 11, the block (20 or 24), 81, 86"
    × Calls usually 8 65 (key_box false false seven_bytes seven_bytes) (but 8 table_a exchange) (says 25 []) (says 25 (hdr1bl 0x32 0x35))
    × AnswerRefuses (key_box false true seven_bytes enciphered_p9) exchange 15 (hdr1bl 0x31 0x35)
    × AnswerRefuses (key_box true false block_p2 seven_bytes) exchange 15 (hdr1bl 0x31 0x35)
    × AnswerRefuses (key_box false false block_p2 enciphered_p9) exchange 10 (hdr1bl 0x31 0x30)
    × AnswerRefuses (key_box false true block_p1 enciphered_p9) exchange 10 (hdr1bl 0x31 0x30)
    × AnswerRefuses (key_box true false three_digits enciphered_p9) exchange 11 (hdr1bl 0x31 0x31)
    × AnswerRefuses (key_box true true block_p1 enciphered_p9) (but 6 check06 exchange) 20 (hdr1bl 0x32 0x30)
    × AnswerRefuses (key_box true true three_digits enciphered_p9) (but 6 check06 exchange) 24 (hdr1bl 0x32 0x34)
    × AnswerRefuses good (but 6 check06 (but 10 one_listed exchange)) 81 (hdr1bl 0x38 0x31)
