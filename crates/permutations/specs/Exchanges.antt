-- The exchanges of bits by which the code makes the permutations.
use Rattle.std.specs.Prelude.{ℕ, ◌*◌, ◌/◌, ◌%◌, ◌^◌}
use Rattle.std.specs.Int.Bits.{bit_xor}
use Rattle.bits.specs.Exchange.{exchanged}

-- IP, and its inverse
unfoldable pub onward : ℕ → ℕ
onward w =
    exchanged 36 0x0F0F0F0F (exchanged 3 0x1111111111111111 (exchanged 15 0x0000AAAA0000AAAA (exchanged 6 0x00CC00CC00CC00CC (exchanged 3 0x0A0A0A0A0A0A0A0A w))))

unfoldable pub back : ℕ → ℕ
back w =
    exchanged 3 0x0A0A0A0A0A0A0A0A (exchanged 6 0x00CC00CC00CC00CC (exchanged 15 0x0000AAAA0000AAAA (exchanged 3 0x1111111111111111 (exchanged 36 0x0F0F0F0F w))))

-- a square of eight bytes over its diagonal
unfoldable pub flip : ℕ → ℕ
flip w = exchanged 36 0x0F0F0F0F (exchanged 18 0x0000333300003333 (exchanged 9 0x0055005500550055 w))

-- permuted choice 1 of a key that was flipped: C has its rows from the last up and the first half of the fourth from there, D those from
-- the second on and the other half
unfoldable pub arranged : ℕ → ℕ
arranged x =
    bit_xor (bit_xor (bit_xor (bit_xor (bit_xor (x % 2 ^ 8 * 2 ^ 48)
    (x / 2 ^ 8 % 2 ^ 8 * 2 ^ 40)) (x / 2 ^ 16 % 2 ^ 8 * 2 ^ 32)) (x / 2 ^ 28 % 2 ^ 4 * 2 ^ 28)) (x / 2 ^ 32 % 2 ^ 24 * 2 ^ 4)) (x / 2 ^ 24 % 2 ^ 4)
