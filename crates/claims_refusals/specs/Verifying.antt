-- DA and EA, as one table: what the two calls say to the paper's exchange as a verification, and to it with a part changed, or two.
-- Numbers, bytes and rooms are literals. At place 0 stand header and code, at places 1 to 12 the fields 1 to 12.
use Rattle.std.specs.Prelude.{ℕ, List, [], ◌∷◌, ◌++◌, true, false, take, replicate}
use Rattle.settings.specs.Settings.{usually, restricted_to, variably}
use Rattle.settings.specs.declared.Settings.{Settings}
use Rattle.texts.specs.Characters.{printed}
use Rattle.claims_blocks.specs.Figures.{usual_account, block_p1}
use Rattle.claims_offsets.specs.Figures.{block_p2, table_p9, enciphered_p9, validation_p12}
use Rattle.claims_figures.specs.Figures.{says}
use Rattle.claims_commands.specs.Witnesses.{zero_key, format01, check04}
use Rattle.claims_commands.specs.Cores.{block_p12}
use Rattle.claims_refusals.specs.Parts.{but, format05, id00, trailer_end, key_x, small_hex, format99, format41, check13, check06, account_a, table_a, validation_nn, other_listed, id10, id01, trailer33, left_x}
use Rattle.claims_refusals.specs.Refusals.{KeyBox, key_box, good, good_p4, three_digits, seven_bytes, Calls, Silent, BothRefuse}

-- ---- commands without a fault

-- the paper's exchange as a verification: a code, `U` and 32 zeros twice, `12`, 16 zeros, `01`, `04`, account, table and validation data
-- as they are, and the offset that BK answers
abbrev pub presents : List ℕ → List (List ℕ)
presents code =
    code ∷ zero_key ∷ zero_key ∷ printed "12" ∷ replicate 16 0x30 ∷ format01 ∷ check04 ∷ usual_account ∷ table_p9 ∷ validation_p12
    ∷ printed "9247FFFFFFFF" ∷ [] ∷ [] ∷ []

abbrev pub hdr1da : List (List ℕ)
hdr1da = presents (printed "HDR1DA")

abbrev pub hdr1ea : List (List ℕ)
hdr1ea = presents (printed "HDR1EA")

-- key blocks of 16 bytes: a terminal's PIN key, a zone's
abbrev pub terminal_block : List ℕ
terminal_block = printed "S0001671TB00E0000"

abbrev pub zone_block : List ℕ
zone_block = printed "S0001672TD00E0000"

-- a PVK's, of mode V
abbrev pub verifying_block : List ℕ
verifying_block = printed "S00016V1TV00E0000"

-- a verification with key blocks, LMK id and trailer
abbrev pub with_blocks : List ℕ → List (List ℕ) → List (List ℕ)
with_blocks pin_key parts = but 1 pin_key (but 2 verifying_block (but 11 id00 (but 12 trailer_end parts)))

-- ---- rows

-- nothing is refused before the key box is asked: the asking call says 00 and P12's block, and the answering call what it comes to
abbrev pub Comes : Settings → KeyBox → List (List ℕ) → ℕ → List ℕ → Type 0
Comes settings keys parts number response = Calls settings 8 65 keys parts (says 0 block_p12) (says number response)

-- ---- the table

abbrev pub VerifyCommands : Type 0
VerifyCommands =
    -- 00: "header, response code, 00", and a trailer where there is one. DA is answered DB, EA is answered EB
    Comes usually good hdr1da 0 (printed "HDR1DB00")
    × Comes usually good hdr1ea 0 (printed "HDR1EB00")
    × Comes usually good (with_blocks terminal_block hdr1da) 0 (printed "HDR1DB00" ++ trailer_end)
    × Comes usually good (with_blocks zone_block hdr1ea) 0 (printed "HDR1EB00" ++ trailer_end)
    -- the other usage and modes: P0, N with C, B with N
    × Comes usually good (but 1 (printed "S00016P0TN00E0000") (but 2 (printed "S00016V1TC00E0000") hdr1da)) 0 (printed "HDR1DB00")
    × Comes usually good (but 1 (printed "S00016P0TB00E0000") (but 2 (printed "S00016V1TN00E0000") hdr1ea)) 0 (printed "HDR1EB00")
    -- each key field goes by its own letter: `S` and `U`, `U` and `S`, `T` and `U`, `U` and `T`
    × Comes usually good (but 1 terminal_block hdr1da) 0 (printed "HDR1DB00")
    × Comes usually good (but 2 verifying_block hdr1da) 0 (printed "HDR1DB00")
    × Comes usually good (but 1 (0x54 ∷ replicate 48 0x41) hdr1ea) 0 (printed "HDR1EB00")
    × Comes usually good (but 2 (0x54 ∷ replicate 48 0x41) hdr1da) 0 (printed "HDR1DB00")
    -- 9. `P` and 16 hex, here of P12's block
    × Comes usually good (but 9 (printed "P0123456789A23456") hdr1da) 0 (printed "HDR1DB00")
    -- 01, and no trailer comes back beside it
    × Comes usually good (but 10 (printed "9248FFFFFFFF") hdr1da) 1 (printed "HDR1DB01")
    × Comes usually good (but 10 (printed "0247FFFFFFFF") hdr1ea) 1 (printed "HDR1EB01")
    × Comes usually good (with_blocks terminal_block (but 10 (printed "9248FFFFFFFF") hdr1da)) 1 (printed "HDR1DB01")
    -- the setting of restricted formats does not touch them: format 05 under Yes
    × Comes (restricted_to usually true) good_p4 (but 5 format05 hdr1da) 0 (printed "HDR1DB00")
    × Comes (restricted_to usually true) good_p4 (but 5 format05 hdr1ea) 0 (printed "HDR1EB00")
    -- that of variable length does: all five digits are presented, whatever the check length
    × Comes (variably usually true) good (but 10 (printed "49247FFFFFFF") hdr1da) 0 (printed "HDR1DB00")
    × Comes (variably usually true) good (but 6 check06 (but 10 (printed "49247FFFFFFF") hdr1ea)) 0 (printed "HDR1EB00")
    × Comes (variably usually true) good hdr1da 81 (printed "HDR1DB81")
    -- 901, 902
    × Silent usually 7 64 hdr1da 901
    × Silent usually 8 65 (but 0 (0x1F ∷ printed "DR1EA") hdr1ea) 902
    -- 1. another letter 26; usage P0 or 71 in DA, P0 or 72 in EA, algorithm T, mode B, D or N, else 29
    × BothRefuse (but 1 key_x hdr1da) 26 (printed "HDR1DB26")
    × BothRefuse (but 1 zone_block hdr1da) 29 (printed "HDR1DB29")
    × BothRefuse (but 1 terminal_block hdr1ea) 29 (printed "HDR1EB29")
    × BothRefuse (but 1 (printed "S00016P0TC00E0000") hdr1da) 29 (printed "HDR1DB29")
    × BothRefuse (but 1 (printed "S00016P0AB00E0000") hdr1da) 29 (printed "HDR1DB29")
    -- 2. V1, mode C, V or N: BK's G is 29 here
    × BothRefuse (but 2 key_x hdr1ea) 26 (printed "HDR1EB26")
    × BothRefuse (but 2 (printed "S00016V1TG00E0000") hdr1da) 29 (printed "HDR1DB29")
    × BothRefuse (but 2 (printed "S00016V2TV00E0000") hdr1da) 29 (printed "HDR1DB29")
    -- 3. `12`, anything else 15
    × BothRefuse (but 3 (printed "11") hdr1da) 15 (printed "HDR1DB15")
    × BothRefuse (but 3 (printed "13") hdr1ea) 15 (printed "HDR1EB15")
    × BothRefuse (take 3 hdr1da) 15 (printed "HDR1DB15")
    -- 4 to 9, as BK has them
    × BothRefuse (but 4 small_hex hdr1da) 15 (printed "HDR1DB15")
    × BothRefuse (but 5 format99 hdr1da) 23 (printed "HDR1DB23")
    × BothRefuse (but 5 format41 hdr1ea) 69 (printed "HDR1EB69")
    × BothRefuse (but 6 check13 hdr1da) 15 (printed "HDR1DB15")
    × BothRefuse (but 7 account_a hdr1da) 15 (printed "HDR1DB15")
    × BothRefuse (but 8 table_a hdr1ea) 25 (printed "HDR1EB25")
    × BothRefuse (but 9 validation_nn hdr1da) 15 (printed "HDR1DB15")
    -- 10. "4 to 12 digits, then only F, else 15": three digits, a letter among them, an E or a digit in the fill, eleven characters
    × BothRefuse (but 10 (printed "924FFFFFFFFF") hdr1da) 15 (printed "HDR1DB15")
    × BothRefuse (but 10 (printed "92A7FFFFFFFF") hdr1da) 15 (printed "HDR1DB15")
    × BothRefuse (but 10 (printed "9247EFFFFFFF") hdr1da) 15 (printed "HDR1DB15")
    × BothRefuse (but 10 (printed "9247FFFFFFF0") hdr1ea) 15 (printed "HDR1EB15")
    × BothRefuse (but 10 (printed "9247FFFFFFF") hdr1da) 15 (printed "HDR1DB15")
    -- 11, 12, leftovers, a weak list among them, and ids that disagree
    × BothRefuse (but 11 id10 hdr1da) 15 (printed "HDR1DB15")
    × BothRefuse (but 12 trailer33 hdr1da) 15 (printed "HDR1DB15")
    × BothRefuse (but 12 left_x hdr1ea) 15 (printed "HDR1EB15")
    × BothRefuse (but 11 other_listed hdr1da) 15 (printed "HDR1DB15")
    × BothRefuse (but 11 id01 (with_blocks terminal_block hdr1da)) 15 (printed "HDR1DB15")
    × BothRefuse (but 2 (printed "S00016V1TV00E0001") (with_blocks terminal_block hdr1da)) 15 (printed "HDR1DB15")
    -- the answering call alone: slices, 10, 11, the block
    × Comes usually (key_box true true seven_bytes enciphered_p9) hdr1da 15 (printed "HDR1DB15")
    × Comes usually (key_box false true block_p2 enciphered_p9) hdr1da 10 (printed "HDR1DB10")
    × Comes usually (key_box true false block_p2 enciphered_p9) hdr1ea 11 (printed "HDR1EB11")
    × Comes usually (key_box true true block_p1 enciphered_p9) hdr1da 20 (printed "HDR1DB20")
    × Comes usually (key_box true true three_digits enciphered_p9) hdr1da 24 (printed "HDR1DB24")
    -- 81: "m over n or an offset without exactly m digits"; of a longer offset no digits are cut away
    × Comes usually good (but 6 check06 (but 10 (printed "149247FFFFFF") hdr1da)) 81 (printed "HDR1DB81")
    × Comes usually good (but 10 (printed "49247FFFFFFF") hdr1da) 81 (printed "HDR1DB81")
    × Comes usually good (but 10 (printed "92470FFFFFFF") hdr1ea) 81 (printed "HDR1EB81")
    × Comes usually good (but 6 (printed "05") hdr1da) 81 (printed "HDR1DB81")
    -- the first fault decides
    × BothRefuse (but 1 zone_block (but 2 key_x hdr1da)) 29 (printed "HDR1DB29")
    × BothRefuse (but 2 key_x (but 3 (printed "11") hdr1da)) 26 (printed "HDR1DB26")
    × BothRefuse (but 3 (printed "11") (but 5 format99 hdr1da)) 15 (printed "HDR1DB15")
    × BothRefuse (but 8 table_a (but 10 (printed "924FFFFFFFFF") hdr1da)) 25 (printed "HDR1DB25")
    × Calls usually 8 65 (key_box false true block_p2 enciphered_p9) (but 10 (printed "924FFFFFFFFF") hdr1da) (says 15 []) (says 15 (printed "HDR1DB15"))
    × Comes usually (key_box false true seven_bytes enciphered_p9) hdr1da 15 (printed "HDR1DB15")
    × Comes usually (key_box true true block_p1 enciphered_p9) (but 6 check06 hdr1da) 20 (printed "HDR1DB20")
    × Comes usually (key_box false false block_p1 enciphered_p9) hdr1da 10 (printed "HDR1DB10")
    × Comes usually (key_box true false block_p1 enciphered_p9) hdr1da 11 (printed "HDR1DB11")
    × Comes usually (key_box true true block_p1 enciphered_p9) (but 10 (printed "49247FFFFFFF") hdr1da) 20 (printed "HDR1DB20")
    × Comes usually good (but 10 (printed "49248FFFFFFF") hdr1da) 81 (printed "HDR1DB81")
