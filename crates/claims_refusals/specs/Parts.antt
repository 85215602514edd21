-- The parts of a command, good and at fault. A command is its parts one behind the other: at place 0 header and code, at places 1 to
-- 12 the paper's fields 1 to 12. The texts are literals: they borrow nothing from the readers' definitions.
use Rattle.std.specs.Prelude.{ℕ, List, [], ◌∷◌, set, replicate}
use Rattle.claims_blocks.specs.Figures.{usual_account}
use Rattle.claims_offsets.specs.Figures.{table_p9, validation_p12}
use Rattle.claims_commands.specs.Witnesses.{zero_key, format01, check04}

-- a command with another part at a place
abbrev pub but : ℕ → List ℕ → List (List ℕ) → List (List ℕ)
but place part parts = set parts place part

-- ---- two commands without a fault

-- `HDR1BK`
abbrev pub hdr1bk : List ℕ
hdr1bk = 0x48 ∷ 0x44 ∷ 0x52 ∷ 0x31 ∷ 0x42 ∷ 0x4B ∷ []

-- `001`, `FFF`
abbrev pub type001 : List ℕ
type001 = 0x30 ∷ 0x30 ∷ 0x31 ∷ []

abbrev pub type_fff : List ℕ
type_fff = 0x46 ∷ 0x46 ∷ 0x46 ∷ []

-- `05`
abbrev pub format05 : List ℕ
format05 = 0x30 ∷ 0x35 ∷ []

-- "Run, not proved": `HDR1BK001`, `U` and 32 zeros twice, 16 zeros, `01`, `04`, account, table and validation data
abbrev pub exchange : List (List ℕ)
exchange =
    hdr1bk ∷ type001 ∷ zero_key ∷ zero_key ∷ replicate 16 0x30 ∷ format01 ∷ check04 ∷ usual_account ∷ table_p9 ∷ validation_p12
    ∷ [] ∷ [] ∷ [] ∷ []

-- `S00016P0TB00E0000`, `S00016V1TC00E0000`: key blocks of 16 bytes
abbrev pub pin_key_block : List ℕ
pin_key_block = 0x53 ∷ 0x30 ∷ 0x30 ∷ 0x30 ∷ 0x31 ∷ 0x36 ∷ 0x50 ∷ 0x30 ∷ 0x54 ∷ 0x42 ∷ 0x30 ∷ 0x30 ∷ 0x45 ∷ 0x30 ∷ 0x30 ∷ 0x30 ∷ 0x30 ∷ []

abbrev pub pvk_block : List ℕ
pvk_block = 0x53 ∷ 0x30 ∷ 0x30 ∷ 0x30 ∷ 0x31 ∷ 0x36 ∷ 0x56 ∷ 0x31 ∷ 0x54 ∷ 0x43 ∷ 0x30 ∷ 0x30 ∷ 0x45 ∷ 0x30 ∷ 0x30 ∷ 0x30 ∷ 0x30 ∷ []

-- `;010534568`, a PIN that is not the exchange's
abbrev pub other_listed : List ℕ
other_listed = 0x3B ∷ 0x30 ∷ 0x31 ∷ 0x30 ∷ 0x35 ∷ 0x33 ∷ 0x34 ∷ 0x35 ∷ 0x36 ∷ 0x38 ∷ []

-- `%00`
abbrev pub id00 : List ℕ
id00 = 0x25 ∷ 0x30 ∷ 0x30 ∷ []

-- byte 19 hex and `END`
abbrev pub trailer_end : List ℕ
trailer_end = 0x19 ∷ 0x45 ∷ 0x4E ∷ 0x44 ∷ []

-- the same with key blocks and every optional part
abbrev pub longer : List (List ℕ)
longer =
    hdr1bk ∷ type_fff ∷ pin_key_block ∷ pvk_block ∷ replicate 16 0x30 ∷ format01 ∷ check04 ∷ usual_account ∷ table_p9 ∷ validation_p12
    ∷ other_listed ∷ id00 ∷ trailer_end ∷ []

-- ---- parts at fault, by their places

-- 0. "a header byte outside 20 to 7E hex": `HDR` and 7F
abbrev pub header_7f : List ℕ
header_7f = 0x48 ∷ 0x44 ∷ 0x52 ∷ 0x7F ∷ 0x42 ∷ 0x4B ∷ []

-- 1F, and a code that is no command's here
abbrev pub header_1f : List ℕ
header_1f = 0x1F ∷ 0x44 ∷ 0x52 ∷ 0x31 ∷ 0x4E ∷ 0x43 ∷ []

-- "under header + 2": `HDR1B`
abbrev pub hdr1b : List ℕ
hdr1b = 0x48 ∷ 0x44 ∷ 0x52 ∷ 0x31 ∷ 0x42 ∷ []

-- "command code other than BK", and than DA and EA: `HDR1NC`
abbrev pub hdr1nc : List ℕ
hdr1nc = 0x48 ∷ 0x44 ∷ 0x52 ∷ 0x31 ∷ 0x4E ∷ 0x43 ∷ []

-- 1. "001, 002 or FFF": `003`
abbrev pub type003 : List ℕ
type003 = 0x30 ∷ 0x30 ∷ 0x33 ∷ []

-- 2, 3. "another letter is 26": `X` and 32 zeros
abbrev pub key_x : List ℕ
key_x = 0x58 ∷ replicate 32 0x30

-- "version 0 or 1": `S20016P0TB00E0000`
abbrev pub pin_key_block_2 : List ℕ
pin_key_block_2 = 0x53 ∷ 0x32 ∷ 0x30 ∷ 0x30 ∷ 0x31 ∷ 0x36 ∷ 0x50 ∷ 0x30 ∷ 0x54 ∷ 0x42 ∷ 0x30 ∷ 0x30 ∷ 0x45 ∷ 0x30 ∷ 0x30 ∷ 0x30 ∷ 0x30 ∷ []

-- "B, D or N", "C, G or N": `S00016P0TE00E0000`, `S00016V1TB00E0000`
abbrev pub pin_key_block_e : List ℕ
pin_key_block_e = 0x53 ∷ 0x30 ∷ 0x30 ∷ 0x30 ∷ 0x31 ∷ 0x36 ∷ 0x50 ∷ 0x30 ∷ 0x54 ∷ 0x45 ∷ 0x30 ∷ 0x30 ∷ 0x45 ∷ 0x30 ∷ 0x30 ∷ 0x30 ∷ 0x30 ∷ []

abbrev pub pvk_block_b : List ℕ
pvk_block_b = 0x53 ∷ 0x30 ∷ 0x30 ∷ 0x30 ∷ 0x31 ∷ 0x36 ∷ 0x56 ∷ 0x31 ∷ 0x54 ∷ 0x42 ∷ 0x30 ∷ 0x30 ∷ 0x45 ∷ 0x30 ∷ 0x30 ∷ 0x30 ∷ 0x30 ∷ []

-- mode V, which verifies in DA and EA: `S00016V1TV00E0000`
abbrev pub pvk_block_v : List ℕ
pvk_block_v = 0x53 ∷ 0x30 ∷ 0x30 ∷ 0x30 ∷ 0x31 ∷ 0x36 ∷ 0x56 ∷ 0x31 ∷ 0x54 ∷ 0x56 ∷ 0x30 ∷ 0x30 ∷ 0x45 ∷ 0x30 ∷ 0x30 ∷ 0x30 ∷ 0x30 ∷ []

-- "judged before the LMK id": usage `V1` and id `10`, `S00016V1TB00E0010`
abbrev pub pin_key_block_v1 : List ℕ
pin_key_block_v1 = 0x53 ∷ 0x30 ∷ 0x30 ∷ 0x30 ∷ 0x31 ∷ 0x36 ∷ 0x56 ∷ 0x31 ∷ 0x54 ∷ 0x42 ∷ 0x30 ∷ 0x30 ∷ 0x45 ∷ 0x30 ∷ 0x30 ∷ 0x31 ∷ 0x30 ∷ []

-- 4. "Hex letters are capitals only": `a` and 15 zeros
abbrev pub small_hex : List ℕ
small_hex = 0x61 ∷ replicate 15 0x30

-- 5. "two digits": `0A`
abbrev pub format_0a : List ℕ
format_0a = 0x30 ∷ 0x41 ∷ []

-- "not among 01 03 05 34 35 41 42 47 48": `99`
abbrev pub format99 : List ℕ
format99 = 0x39 ∷ 0x39 ∷ []

-- "known but not built": `41`
abbrev pub format41 : List ℕ
format41 = 0x34 ∷ 0x31 ∷ []

-- 6. "04 to 12": `13`
abbrev pub check13 : List ℕ
check13 = 0x31 ∷ 0x33 ∷ []

-- "check length longer than the PIN", which is 34567: `06`
abbrev pub check06 : List ℕ
check06 = 0x30 ∷ 0x36 ∷ []

-- 7. "12 digits": `40000012345A`
abbrev pub account_a : List ℕ
account_a = 0x34 ∷ 0x30 ∷ 0x30 ∷ 0x30 ∷ 0x30 ∷ 0x30 ∷ 0x31 ∷ 0x32 ∷ 0x33 ∷ 0x34 ∷ 0x35 ∷ 0x41 ∷ []

-- 8. "16 digits": `012345678901234A`; `01234567890123A`, which is short too
abbrev pub table_a : List ℕ
table_a = 0x30 ∷ 0x31 ∷ 0x32 ∷ 0x33 ∷ 0x34 ∷ 0x35 ∷ 0x36 ∷ 0x37 ∷ 0x38 ∷ 0x39 ∷ 0x30 ∷ 0x31 ∷ 0x32 ∷ 0x33 ∷ 0x34 ∷ 0x41 ∷ []

abbrev pub short_table_a : List ℕ
short_table_a = 0x30 ∷ 0x31 ∷ 0x32 ∷ 0x33 ∷ 0x34 ∷ 0x35 ∷ 0x36 ∷ 0x37 ∷ 0x38 ∷ 0x39 ∷ 0x30 ∷ 0x31 ∷ 0x32 ∷ 0x33 ∷ 0x41 ∷ []

-- 9. "exactly one N": `0123456789NN`
abbrev pub validation_nn : List ℕ
validation_nn = 0x30 ∷ 0x31 ∷ 0x32 ∷ 0x33 ∷ 0x34 ∷ 0x35 ∷ 0x36 ∷ 0x37 ∷ 0x38 ∷ 0x39 ∷ 0x4E ∷ 0x4E ∷ []

-- 10. "weak PIN count not two digits": `;0A`
abbrev pub count_a : List ℕ
count_a = 0x3B ∷ 0x30 ∷ 0x41 ∷ []

-- "their length 04 to 12": `;0103345`
abbrev pub three_listed : List ℕ
three_listed = 0x3B ∷ 0x30 ∷ 0x31 ∷ 0x30 ∷ 0x33 ∷ 0x33 ∷ 0x34 ∷ 0x35 ∷ []

-- "fewer digits than count times length": `;01053456`
abbrev pub short_list : List ℕ
short_list = 0x3B ∷ 0x30 ∷ 0x31 ∷ 0x30 ∷ 0x35 ∷ 0x33 ∷ 0x34 ∷ 0x35 ∷ 0x36 ∷ []

-- 11. "LMK id 00 to 09": `%10`
abbrev pub id10 : List ℕ
id10 = 0x25 ∷ 0x31 ∷ 0x30 ∷ []

-- "must all agree": `%01` beside keys with 00
abbrev pub id01 : List ℕ
id01 = 0x25 ∷ 0x30 ∷ 0x31 ∷ []

-- 12. "0 to 32 printable characters": 33
abbrev pub trailer33 : List ℕ
trailer33 = 0x19 ∷ replicate 33 0x20

-- "anything left over": `X`
abbrev pub left_x : List ℕ
left_x = 0x58 ∷ []
