-- What the figures from the bench are given, from P9 on. The figures are claims_figures'.
use Rattle.std.specs.Prelude.{ℕ, List, [], ◌∷◌, ◌++◌}

-- the block of P2: PIN 34567 in format 01
abbrev pub block_p2 : List ℕ
block_p2 = 0x05 ∷ 0x34 ∷ 0x16 ∷ 0x7F ∷ 0xFF ∷ 0xED ∷ 0xCB ∷ 0xA9 ∷ []

-- the table of P9, as characters
abbrev pub table_p9 : List ℕ
table_p9 = 0x30 ∷ 0x31 ∷ 0x32 ∷ 0x33 ∷ 0x34 ∷ 0x35 ∷ 0x36 ∷ 0x37 ∷ 0x38 ∷ 0x39 ∷ 0x30 ∷ 0x31 ∷ 0x32 ∷ 0x33 ∷ 0x34 ∷ 0x35 ∷ []

-- the beginning of P9's enciphered block, which is all of it that the bench gives
abbrev pub beginning_p9 : List ℕ
beginning_p9 = 0x9F ∷ 0x3C ∷ 0x0A ∷ 0x71 ∷ []

-- such a block, with 00 behind it
abbrev pub enciphered_p9 : List ℕ
enciphered_p9 = beginning_p9 ++ (0x00 ∷ 0x00 ∷ 0x00 ∷ 0x00 ∷ [])

-- the validation data of P12, as characters
abbrev pub validation_p12 : List ℕ
validation_p12 = 0x30 ∷ 0x31 ∷ 0x32 ∷ 0x33 ∷ 0x34 ∷ 0x35 ∷ 0x36 ∷ 0x37 ∷ 0x38 ∷ 0x39 ∷ 0x41 ∷ 0x4E ∷ []
