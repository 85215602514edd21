-- Parts of commands, beside those of claims_refusals: headers of other lengths, parts that are cut short, LMK ids, trailers. The texts
-- are literals, in the order of the fields.
use Rattle.std.specs.Prelude.{ℕ, ◌+◌, List, [], ◌∷◌, ◌++◌, take, replicate}
use Rattle.texts.specs.Characters.{printed}
use Rattle.claims_refusals.specs.Parts.{but}

-- a command that ends behind a field, with another part there, or with nothing
abbrev pub ending : ℕ → List ℕ → List (List ℕ) → List (List ℕ)
ending which part parts = take (which + 1) (but which part parts)

-- 0. a header of 16 characters, and a code
abbrev pub long_header : List ℕ → List ℕ
long_header code = printed "HDR1HDR1HDR1HDR1" ++ code

-- 2, 3. `T` and 48 hex characters
abbrev pub triple_key : List ℕ
triple_key = 0x54 ∷ replicate 48 0x41

-- a key block of 32 bytes: 33 characters with its letter
abbrev pub long_block : List ℕ
long_block = printed "S00032P0TB00E0000" ++ replicate 16 0x41

-- key blocks of 16 bytes with LMK id 01, of a PIN key, of BK's PVK and of a PVK that verifies
abbrev pub pin_key_01 : List ℕ
pin_key_01 = printed "S00016P0TB00E0001"

abbrev pub pvk01 : List ℕ
pvk01 = printed "S00016V1TC00E0001"

abbrev pub verifying01 : List ℕ
verifying01 = printed "S00016V1TV00E0001"

-- 9. `P` and 16 hex: 17 characters
abbrev pub validation_p : List ℕ
validation_p = printed "P0123456789A23456"

-- 12. a trailer whose second character is 7F
abbrev pub trailer_7f : List ℕ
trailer_7f = 0x19 ∷ 0x45 ∷ 0x7F ∷ []

-- a trailer whose thirty-second character is 7F, and a thirty-third behind it
abbrev pub long_trailer_7f : List ℕ
long_trailer_7f = 0x19 ∷ (replicate 31 0x20 ++ (0x7F ∷ 0x20 ∷ []))

-- a trailer of 32 characters, and 7F behind it
abbrev pub trailer_then_7f : List ℕ
trailer_then_7f = 0x19 ∷ (replicate 32 0x20 ++ (0x7F ∷ []))
