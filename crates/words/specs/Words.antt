-- Bytes and the number that they spell, the first byte highest: so FIPS 46-3 counts the bits of a block.
use Rattle.std.specs.Prelude.{ℕ, zero, suc, ◌+◌, ◌*◌, ◌/◌, ◌%◌, ◌^◌, List, [], ◌∷◌, length}

-- the number of a run of bytes
unfoldable pub spelled : List ℕ → ℕ
spelled [] = 0
spelled (b ∷ bs) = b * 2 ^ (8 * length bs) + spelled bs

-- the n last bytes of a number
unfoldable pub in_bytes : ℕ → ℕ → List ℕ
in_bytes zero w = []
in_bytes (suc n) w = w / 2 ^ (8 * n) % 256 ∷ in_bytes n w
