-- Bytes as text: "Hex letters are capitals only."
use Rattle.std.specs.Prelude.{ℕ, ◌+◌, List, map, cond, ltb}
use Rattle.nibbles.specs.Nibbles.{nibs}

-- the character that stands for a nibble: digits from 30 hex on, capital letters from 41 hex on
unfoldable pub character_of : ℕ → ℕ
character_of n = cond (ltb n 10) (0x30 + n) (0x37 + n)

-- two characters for a byte, the high nibble's first
abbrev pub spelled : List ℕ → List ℕ
spelled bytes = map character_of (nibs bytes)
