-- Known answers: keys, blocks and check values as literal bytes.
use Rattle.std.specs.Prelude.{ℕ, ◌≡◌, List, [], ◌∷◌, ◌++◌, replicate}
use Rattle.numbers.specs.Numbers.{Outcome, done}
use Rattle.ciphers.specs.declared.Way.{Way}
use Rattle.ciphers.specs.declared.Way.TheVariants.{Encipher, Decipher}
use Rattle.ciphercalls.specs.CipherCalls.{des_call, triple_call, key_check}

-- under a key a block becomes another, and that becomes the block again
abbrev pub Becomes : (Way → List ℕ → List ℕ → ℕ → Outcome (List ℕ)) → List ℕ → List ℕ → List ℕ → Type 0
Becomes call key block written = (call Encipher key block 8 ≡ done written) × (call Decipher key written 8 ≡ done block)

-- the textbooks' example of DES
abbrev pub DesFigure : Type 0
DesFigure =
    Becomes des_call
    (0x13 ∷ 0x34 ∷ 0x57 ∷ 0x79 ∷ 0x9B ∷ 0xBC ∷ 0xDF ∷ 0xF1 ∷ [])
    (0x01 ∷ 0x23 ∷ 0x45 ∷ 0x67 ∷ 0x89 ∷ 0xAB ∷ 0xCD ∷ 0xEF ∷ [])
    (0x85 ∷ 0xE8 ∷ 0x13 ∷ 0x54 ∷ 0x0F ∷ 0x0A ∷ 0xB4 ∷ 0x05 ∷ [])

-- two rows of NIST's substitution table test. With the other figures they leave at most one place of each row of a box unread, so that no
-- two numbers of a row can have changed places
abbrev pub RowsFigure : Type 0
RowsFigure =
    Becomes des_call
    (0x1F ∷ 0x08 ∷ 0x26 ∷ 0x0D ∷ 0x1A ∷ 0xC2 ∷ 0x46 ∷ 0x5E ∷ [])
    (0x6B ∷ 0x05 ∷ 0x6E ∷ 0x18 ∷ 0x75 ∷ 0x9F ∷ 0x5C ∷ 0xCA ∷ [])
    (0xEF ∷ 0x1B ∷ 0xF0 ∷ 0x3E ∷ 0x5D ∷ 0xFA ∷ 0x57 ∷ 0x5A ∷ [])
    × Becomes des_call
    (0x49 ∷ 0xE9 ∷ 0x5D ∷ 0x6D ∷ 0x4C ∷ 0xA2 ∷ 0x29 ∷ 0xBF ∷ [])
    (0x02 ∷ 0xFE ∷ 0x55 ∷ 0x77 ∷ 0x81 ∷ 0x17 ∷ 0xF1 ∷ 0x2A ∷ [])
    (0x5A ∷ 0x6B ∷ 0x61 ∷ 0x2C ∷ 0xC2 ∷ 0x6C ∷ 0xCE ∷ 0x4A ∷ [])

-- two keys: source 000, 6.3.3, the key MK-SMI, its halves F1 to F1 and C1 to C1, each under variant 2 of the test LMK's pair 28-29. Of
-- that the left part is 1A to 1A with 5A added to its first byte, and the right part 1C to 1C with A6 for the one half, 5A for the other
abbrev pub left_of_variant : List ℕ
left_of_variant = 0x40 ∷ replicate 7 0x1A

abbrev pub TwoKeysFigure : Type 0
TwoKeysFigure =
    Becomes triple_call
    (left_of_variant ++ (0xBA ∷ replicate 7 0x1C))
    (replicate 8 0xF1)
    (0x51 ∷ 0x78 ∷ 0xC9 ∷ 0xD3 ∷ 0xD1 ∷ 0x05 ∷ 0x2B ∷ 0x15 ∷ [])
    × Becomes triple_call
    (left_of_variant ++ (0x46 ∷ replicate 7 0x1C))
    (replicate 8 0xC1)
    (0xBF ∷ 0x6A ∷ 0xEC ∷ 0x45 ∷ 0x8B ∷ 0x4A ∷ 0x45 ∷ 0x64 ∷ [])

-- 01 to EF, and FE to 10: both are of odd parity
abbrev pub upward : List ℕ
upward = 0x01 ∷ 0x23 ∷ 0x45 ∷ 0x67 ∷ 0x89 ∷ 0xAB ∷ 0xCD ∷ 0xEF ∷ []

abbrev pub downward : List ℕ
downward = 0xFE ∷ 0xDC ∷ 0xBA ∷ 0x98 ∷ 0x76 ∷ 0x54 ∷ 0x32 ∷ 0x10 ∷ []

-- three keys: source 000, 6.4.1.1, the test key block LMK and its check value
abbrev pub ThreeKeysFigure : Type 0
ThreeKeysFigure = key_check (upward ++ (replicate 8 0x80 ++ downward)) 3 ≡ done (0x8E ∷ 0x0E ∷ 0xC0 ∷ [])

-- a check value of two keys, which OpenSSL gives
abbrev pub CheckFigure : Type 0
CheckFigure = key_check (upward ++ downward) 3 ≡ done (0x08 ∷ 0xD7 ∷ 0xB4 ∷ [])
