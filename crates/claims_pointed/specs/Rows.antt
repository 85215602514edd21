-- What the server is shown of commands, as tables: the number, the place and the field of what the asking and the answering call meet.
-- Numbers, places and fields are literals, counted along the commands' characters by hand, so that a place or a field that is changed
-- in definition and code together is met here. The commands are those of claims_refusals, with a part changed, or two.
use Rattle.std.specs.Prelude.{ℕ, ◌≡◌, List, [], ◌∷◌, ◌++◌, true, false, replicate}
use Rattle.numbers.specs.Promise.{Said, quietly}
use Rattle.settings.specs.Settings.{usually, headed, restricted_to}
use Rattle.settings.specs.declared.Settings.{Settings}
use Rattle.fields.specs.Fields.{shown}
use Rattle.fields.specs.declared.Pointer.{Pointer}
use Rattle.commands.specs.Commands.{asking, asked, answered, replying}
use Rattle.texts.specs.Texts.{together}
use Rattle.texts.specs.Characters.{printed}
use Rattle.claims_blocks.specs.Figures.{block_p1}
use Rattle.claims_offsets.specs.Figures.{block_p2, enciphered_p9}
use Rattle.claims_commands.specs.Witnesses.{one_listed}
use Rattle.claims_refusals.specs.Parts.{but, exchange, longer, format05, other_listed, id00, header_7f, hdr1nc, type003, key_x, pin_key_block_2, pin_key_block_e, pin_key_block_v1, pvk_block_b, small_hex, format_0a, format99, format41, check13, check06, account_a, table_a, short_table_a, validation_nn, count_a, three_listed, short_list, id10, id01, trailer33, left_x}
use Rattle.claims_refusals.specs.Refusals.{KeyBox, key_box, good, good_p4, three_digits, seven_bytes}
use Rattle.claims_refusals.specs.Verifying.{hdr1da, hdr1ea, terminal_block, zone_block, with_blocks}
use Rattle.claims_pointed.specs.RowParts.{ending, long_header, triple_key, long_block, pin_key_01, pvk01, verifying01, validation_p, trailer_7f, long_trailer_7f, trailer_then_7f}

-- ---- rows

-- what the server is shown by a call: the number, the place and the field
pub record Pointed : Type 0 where
  pub number : ℕ
  pub place : ℕ
  pub field : ℕ

abbrev pub points : ℕ → ℕ → ℕ → Pointed
points number place field = record { number = number; place = place; field = field }

-- the number that a call says, and where it points
abbrev pub pointed : Said ℕ → Pointer → Pointed
pointed said pointer = points said.number pointer.place pointer.field

-- a row: under settings, with a room for each call and the key box's answers, what the server is shown of a command by the asking call
-- and by the answering call
abbrev pub CallsPoint : Settings → ℕ → ℕ → KeyBox → List (List ℕ) → Pointed → Pointed → Type 0
CallsPoint settings askRoom answerRoom keys parts asks answers =
    (pointed (quietly (asked settings (together parts) askRoom)) (shown (asking settings (together parts) askRoom))
    ∷ pointed (answered settings keys.pin_key_good keys.pvk_good (together parts) keys.block keys.enciphered answerRoom)
    (shown (replying settings keys.pin_key_good keys.pvk_good (together parts) keys.block keys.enciphered answerRoom))
    ∷ [])
    ≡ (asks ∷ answers ∷ [])

-- a fault that both calls meet, under a header length
abbrev pub BothPointUnder : ℕ → List (List ℕ) → ℕ → ℕ → ℕ → Type 0
BothPointUnder header parts number place field = CallsPoint (headed usually header) 8 65 good parts (points number place field) (points number place field)

-- and under the usual one
abbrev pub BothPoint : List (List ℕ) → ℕ → ℕ → ℕ → Type 0
BothPoint parts number place field = BothPointUnder 4 parts number place field

-- "An asking call stops here": it says 00 and points at nothing, and the answering call comes to something behind the fields, or to 00
abbrev pub OnlyAnswerPoints : KeyBox → List (List ℕ) → ℕ → ℕ → ℕ → Type 0
OnlyAnswerPoints keys parts number place field = CallsPoint usually 8 65 keys parts (points 0 0 0) (points number place field)

-- ---- BK

-- In the exchange the fields 1 to 9 begin at 6, 9, 42, 75, 91, 93, 95, 107 and 123, and it has 135 bytes. In the longer command the
-- fields 1 to 12 begin at 6, 9, 26, 43, 59, 61, 63, 75, 91, 103, 113 and 116, and it has 120
abbrev pub PointedBk : Type 0
PointedBk =
    -- 00 points at nothing: place 0 and field 0. An LMK id that stands alone agrees
    OnlyAnswerPoints good longer 0 0 0
    × OnlyAnswerPoints good (but 11 id01 exchange) 0 0 0
    -- so do 901, 902 and 68, whatever comes behind them
    × CallsPoint usually 7 64 good (but 1 type003 exchange) (points 901 0 0) (points 901 0 0)
    × BothPoint (but 0 header_7f exchange) 902 0 0
    × BothPoint (but 0 hdr1nc (but 1 type003 exchange)) 68 0 0
    -- and what is judged behind the fields: 10, 11, 20, 24, 81, 86
    × OnlyAnswerPoints (key_box false true block_p2 enciphered_p9) exchange 10 0 0
    × OnlyAnswerPoints (key_box true false block_p2 enciphered_p9) longer 11 0 0
    × OnlyAnswerPoints (key_box true true block_p1 enciphered_p9) exchange 20 0 0
    × OnlyAnswerPoints (key_box true true three_digits enciphered_p9) longer 24 0 0
    × OnlyAnswerPoints good (but 6 check06 exchange) 81 0 0
    × OnlyAnswerPoints good (but 10 one_listed longer) 86 0 0
    -- "the byte position in the command where the field that failed begins, and which field number". 1: another type, none
    × BothPoint (but 1 type003 exchange) 15 6 1
    × BothPoint (ending 1 [] exchange) 15 6 1
    -- 2, at its letter: none, another letter, version and length short, the mode, the LMK id
    × BothPoint (ending 2 [] exchange) 15 9 2
    × BothPoint (but 2 key_x exchange) 26 9 2
    × BothPoint (ending 2 (printed "S001") longer) 15 9 2
    × BothPoint (but 2 pin_key_block_e longer) 29 9 2
    -- its hex, its version, its usage
    × BothPoint (but 2 (0x55 ∷ replicate 31 0x30 ++ printed "a") exchange) 15 9 2
    × BothPoint (but 2 pin_key_block_2 longer) 26 9 2
    × BothPoint (but 2 pin_key_block_v1 longer) 29 9 2
    × BothPoint (but 2 (printed "S00016P0TB00E0010") longer) 15 9 2
    -- 3, at its letter: behind `U` and 32 hex, `T` and 48, a key block of 16 bytes, one of 32
    × BothPoint (ending 3 [] exchange) 15 42 3
    × BothPoint (but 2 triple_key (but 3 key_x exchange)) 26 58 3
    × BothPoint (but 3 pvk_block_b longer) 29 26 3
    -- its length, and the rest to that length
    × BothPoint (but 3 (printed "S00015V1TC00E0000") longer) 26 26 3
    × BothPoint (ending 3 (printed "S00032V1TC00E0000") longer) 15 26 3
    × BothPoint (but 2 long_block (but 3 (printed "S00016V1TC00E0010") longer)) 15 42 3
    -- 4: a small letter, fifteen characters
    × BothPoint (but 4 small_hex exchange) 15 75 4
    × BothPoint (ending 4 (replicate 15 0x30) longer) 15 43 4
    -- 5: a letter, 23, 69 where every built format is allowed, and 69 by the setting
    × BothPoint (but 5 format_0a exchange) 15 91 5
    × BothPoint (but 5 format99 longer) 23 59 5
    × CallsPoint (restricted_to usually false) 8 65 good (but 5 format41 exchange) (points 69 91 5) (points 69 91 5)
    × CallsPoint (restricted_to usually true) 8 65 good_p4 (but 5 format05 longer) (points 69 59 5) (points 69 59 5)
    -- 6: outside its range, none
    × BothPoint (but 6 check13 exchange) 15 93 6
    × BothPoint (ending 6 [] longer) 15 61 6
    -- 7: a letter, eleven characters
    × BothPoint (but 7 account_a longer) 15 63 7
    × BothPoint (ending 7 (printed "40000012345") exchange) 15 95 7
    -- 8: a letter, fifteen characters
    × BothPoint (but 8 table_a longer) 25 75 8
    × BothPoint (ending 8 short_table_a exchange) 15 107 8
    -- 9: two `N`, `P` and 15 hex, `P` and a small letter
    × BothPoint (but 9 validation_nn exchange) 15 123 9
    × BothPoint (ending 9 (printed "P0123456789A2345") longer) 15 91 9
    × BothPoint (but 9 (printed "P0123456789A2345a") longer) 15 91 9
    -- 10, at its mark: the mark alone, the length, the list, and the count behind `P` and 16 hex
    × BothPoint (ending 10 (printed ";") exchange) 3 135 10
    × BothPoint (but 10 three_listed longer) 15 103 10
    × BothPoint (ending 10 short_list longer) 3 103 10
    × BothPoint (but 9 validation_p (but 10 count_a exchange)) 3 140 10
    -- 11, at its mark: behind no weak list, behind one
    × BothPoint (but 11 id10 exchange) 15 135 11
    × BothPoint (ending 11 (printed "%0") longer) 15 113 11
    -- 12, at its mark: a wrong character among its first 32, where a thirty-third stands behind them too
    × BothPoint (but 12 trailer_7f exchange) 15 135 12
    × BothPoint (but 12 trailer_7f longer) 15 116 12
    × BothPoint (but 12 long_trailer_7f longer) 15 116 12
    -- "Leftovers (bytes past a full trailer too) point at the first one", field 0: with no trailer, a weak list behind the LMK id, behind 32
    -- characters, whatever they are
    × BothPoint (but 12 left_x exchange) 15 135 0
    × BothPoint (but 11 id00 (but 12 other_listed exchange)) 15 138 0
    × BothPoint (but 12 trailer33 exchange) 15 168 0
    × BothPoint (but 12 trailer_then_7f longer) 15 149 0
    -- leftovers come before ids that disagree
    × BothPoint (but 11 id01 (but 12 trailer33 longer)) 15 149 0
    × BothPoint (but 3 pvk01 (but 11 [] (but 12 left_x longer))) 15 113 0
    -- "For disagreeing LMK ids, point at the last id that is present": the PVK's, where field 11 is not there
    × BothPoint (but 3 pvk01 (but 11 [] longer)) 15 26 3
    -- field 11's, where neither key agrees with it, where the PIN key does, where the PVK does, and where all three differ
    × BothPoint (but 11 id01 longer) 15 113 11
    × BothPoint (but 3 pvk01 longer) 15 113 11
    × BothPoint (but 2 pin_key_01 longer) 15 113 11
    × BothPoint (but 3 pvk01 (but 11 (printed "%02") longer)) 15 113 11
    -- header lengths 0 and 16: four places less, and twelve more
    × BothPointUnder 0 (but 0 (printed "BK") (ending 1 [] exchange)) 15 2 1
    × BothPointUnder 0 (but 0 (printed "BK") (but 12 trailer33 longer)) 15 145 0
    × BothPointUnder 16 (but 0 (long_header (printed "BK")) (but 1 type003 exchange)) 15 18 1
    × BothPointUnder 16 (but 0 (long_header (printed "BK")) (but 3 pvk01 (but 11 [] longer))) 15 38 3
    -- "For slices that are not 8 bytes, the position is the command's length", field 0: behind the fields, before 10
    × OnlyAnswerPoints (key_box true true seven_bytes enciphered_p9) exchange 15 135 0
    × OnlyAnswerPoints (key_box false false block_p2 seven_bytes) longer 15 120 0
    × CallsPoint usually 8 65 (key_box true true [] []) (but 8 table_a exchange) (points 25 107 8) (points 25 107 8)

-- ---- DA and EA

-- With `U` keys the fields 1 to 10 begin at 6, 39, 72, 74, 90, 92, 94, 106, 122 and 134, and the command has 146 bytes. With key blocks,
-- LMK id and trailer the fields 1 to 12 begin at 6, 23, 40, 42, 58, 60, 62, 74, 90, 102, 114 and 117, and it has 121
abbrev pub PointedVerifications : Type 0
PointedVerifications =
    -- 00, 01 and 81 point at nothing
    OnlyAnswerPoints good hdr1da 0 0 0
    × OnlyAnswerPoints good (with_blocks zone_block hdr1ea) 0 0 0
    × OnlyAnswerPoints good (but 10 (printed "9248FFFFFFFF") hdr1da) 1 0 0
    × OnlyAnswerPoints good (but 6 check06 hdr1ea) 81 0 0
    -- 1. PIN key, at its letter: a zone's in DA, none in EA
    × BothPoint (but 1 zone_block hdr1da) 29 6 1
    × BothPoint (ending 1 [] hdr1ea) 15 6 1
    -- 2. PVK, at its letter: behind a key block, behind `U` and 32 hex, `T` and 48
    × BothPoint (but 2 (printed "S00016V1TG00E0000") (with_blocks terminal_block hdr1da)) 29 23 2
    × BothPoint (but 2 key_x hdr1ea) 26 39 2
    × BothPoint (but 1 triple_key (ending 2 (printed "U0") hdr1da)) 15 55 2
    -- 3. maximum PIN length: another, none
    × BothPoint (but 3 (printed "11") hdr1da) 15 72 3
    × BothPoint (ending 3 [] (with_blocks zone_block hdr1ea)) 15 40 3
    -- 4 to 9 have BK's numbers
    × BothPoint (but 4 small_hex hdr1da) 15 74 4
    × BothPoint (but 5 format99 hdr1da) 23 90 5
    × BothPoint (but 5 format41 (with_blocks zone_block hdr1ea)) 69 58 5
    × BothPoint (but 6 check13 hdr1da) 15 92 6
    × BothPoint (but 7 account_a hdr1ea) 15 94 7
    × BothPoint (but 8 table_a hdr1ea) 25 106 8
    × BothPoint (but 9 validation_nn hdr1da) 15 122 9
    -- 10. offset: three digits, eleven characters
    × BothPoint (but 10 (printed "924FFFFFFFFF") hdr1da) 15 134 10
    × BothPoint (ending 10 (printed "9247FFFFFFF") (with_blocks zone_block hdr1ea)) 15 102 10
    -- 11 and 12, at their marks
    × BothPoint (but 11 id10 hdr1ea) 15 146 11
    × BothPoint (but 12 long_trailer_7f hdr1da) 15 146 12
    × BothPoint (but 12 trailer_7f (with_blocks zone_block hdr1ea)) 15 117 12
    -- leftovers, field 0: a weak list, which these do not have, a thirty-third character, and where ids disagree
    × BothPoint (but 11 other_listed hdr1da) 15 146 0
    × BothPoint (but 12 trailer33 (with_blocks zone_block hdr1ea)) 15 150 0
    × BothPoint (but 11 id01 (but 12 left_x (with_blocks terminal_block hdr1da))) 15 117 0
    -- ids that disagree: the PVK's; field 11's, with key blocks in both keys, in the PVK alone, in the PIN key alone
    × BothPoint (but 2 verifying01 (but 11 [] (with_blocks terminal_block hdr1da))) 15 23 2
    × BothPoint (but 2 verifying01 (with_blocks terminal_block hdr1da)) 15 114 11
    × BothPoint (but 2 verifying01 (but 11 id00 hdr1ea)) 15 130 11
    × BothPoint (but 1 pin_key_01 (but 11 id00 hdr1ea)) 15 130 11
    -- header lengths 0 and 16
    × BothPointUnder 0 (but 0 (printed "EA") (but 10 (printed "92A7FFFFFFFF") hdr1ea)) 15 130 10
    × BothPointUnder 16 (but 0 (long_header (printed "DA")) (but 3 (printed "13") hdr1da)) 15 84 3
    -- slices: the command's length, field 0
    × OnlyAnswerPoints (key_box true true seven_bytes enciphered_p9) hdr1da 15 146 0
    × OnlyAnswerPoints (key_box true true block_p2 seven_bytes) (with_blocks zone_block hdr1ea) 15 121 0

-- ---- both tables

abbrev pub PointedCommands : Type 0
PointedCommands = PointedBk × PointedVerifications
