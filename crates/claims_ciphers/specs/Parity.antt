-- That every byte of a key has an odd number of ones, said a second time.
use Rattle.std.specs.Prelude.{ℕ, ◌^◌, ◌<◌, ◌≡◌, ◌↔◌, ◌≢◌, true, false, List, ◌++◌, length, get_or, set, replicate}
use Rattle.std.specs.Int.Bits.{bit_xor}
use Rattle.parity.specs.Parity.{is_odd, odd_parity}
use Rattle.claims_ciphers.specs.Figures.{upward, downward}

-- of a byte and the one whose last bit is changed, exactly one is odd
abbrev pub LastBitDecides : Type 0
LastBitDecides = (b : ℕ) → is_odd b ≢ is_odd (bit_xor b 1)

-- so with each of its eight bits
abbrev pub EachBitDecides : Type 0
EachBitDecides = (b i : ℕ) → b < 256 → i < 8 → is_odd b ≢ is_odd (bit_xor b (2 ^ i))

-- a key, of any length, is good exactly where each of its bytes is odd
abbrev pub GoodExactly : Type 0
GoodExactly = (key : List ℕ) → (odd_parity key ≡ true) ↔ ((i : ℕ) → i < length key → is_odd (get_or key i 0) ≡ true)

-- one 1 is odd; none, and two, are not; and source 000's test key block LMK is good
abbrev pub ParityFigures : Type 0
ParityFigures = (is_odd 0x01 ≡ true) × (is_odd 0x00 ≡ false) × (is_odd 0x03 ≡ false) × (odd_parity (upward ++ (replicate 8 0x80 ++ downward)) ≡ true)

-- a key of bytes 01 is good, and bad once any one byte loses its one
abbrev pub EachByteCounts : Type 0
EachByteCounts = (n : ℕ) → (odd_parity (replicate n 0x01) ≡ true) × ((i : ℕ) → i < n → odd_parity (set (replicate n 0x01) i 0x00) ≡ false)
