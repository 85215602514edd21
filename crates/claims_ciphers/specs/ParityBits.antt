-- Parity bits do not enter the cipher: they are the last bit of each byte of a key.
use Rattle.std.specs.Prelude.{ℕ, ◌/◌, ◌≡◌, true, List, map, length}
use Rattle.ciphers.specs.Ciphers.{des_block, triple_block, is_lab_key}
use Rattle.ciphers.specs.declared.Way.{Way}
use Rattle.ciphercalls.specs.CipherCalls.{des_call, triple_call, check_value, key_check}
use Rattle.claims_blocks.specs.Claims.{IsBytes}

-- two keys that are the same but for parity bits: of each byte the first seven bits agree
abbrev pub SameButParity : List ℕ → List ℕ → Type 0
SameButParity key key' = IsBytes key × IsBytes key' × (map (λ b. b / 2) key ≡ map (λ b. b / 2) key')

-- under both DES makes the same of a block, either way
abbrev pub DesBlind : Type 0
DesBlind = (way : Way) (key key' block : List ℕ) → length key ≡ 8 → SameButParity key key' → des_block way key block ≡ des_block way key' block

-- so does triple DES under lab keys, and their check values are the same
abbrev pub TripleBlind : Type 0
TripleBlind = (way : Way) (key key' block : List ℕ) → is_lab_key key ≡ true → SameButParity key key'
    → (triple_block way key block ≡ triple_block way key' block) × (check_value key ≡ check_value key')

-- and under keys of any length each call comes to the same, refusals included
abbrev pub CallsBlind : Type 0
CallsBlind = (way : Way) (key key' block : List ℕ) (room : ℕ) → SameButParity key key'
    → (des_call way key block room ≡ des_call way key' block room)
    × (triple_call way key block room ≡ triple_call way key' block room)
    × (key_check key room ≡ key_check key' room)
