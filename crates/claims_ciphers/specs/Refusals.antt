-- 901, then 15: what the calls of the ciphers refuse. Lengths and rooms are literals, so that one that is changed in definition and
-- code together is met here.
use Rattle.std.specs.Prelude.{ℕ, ◌≤◌, ◌<◌, ◌≡◌, ◌↔◌, ◌⊎◌, ◌≢◌, List, ◌++◌, length, replicate}
use Rattle.numbers.specs.Numbers.{done, refused}
use Rattle.numbers.specs.declared.Refusal.{Refusal}
use Rattle.numbers.specs.declared.Refusal.TheVariants.{Field15, Room901}
use Rattle.ciphers.specs.declared.Way.{Way}
use Rattle.ciphers.specs.declared.Way.TheVariants.{Encipher}
use Rattle.ciphercalls.specs.CipherCalls.{des_call, triple_call, key_check}

-- less room than for a block, or for a check value, is 901, whatever else is wrong
abbrev pub RoomFirst : Type 0
RoomFirst = (way : Way) (key block : List ℕ) (room : ℕ)
    → (room < 8 → (des_call way key block room ≡ refused Room901) × (triple_call way key block room ≡ refused Room901))
    × (room < 3 → key_check key room ≡ refused Room901)

-- a key of neither 16 nor 24 bytes
abbrev pub NoLabKey : List ℕ → Type 0
NoLabKey key = (length key ≢ 16) × (length key ≢ 24)

-- with room DES is refused exactly where the key or the block has not 8 bytes, and with 15
abbrev pub DesRefused : Type 0
DesRefused = (way : Way) (key block : List ℕ) (room : ℕ) (q : Refusal) → 8 ≤ room
    → (des_call way key block room ≡ refused q) ↔ ((q ≡ Field15) × ((length key ≢ 8) ⊎ (length block ≢ 8)))

-- triple DES exactly where the key has neither 16 nor 24 bytes or the block not 8, and with 15
abbrev pub TripleRefused : Type 0
TripleRefused = (way : Way) (key block : List ℕ) (room : ℕ) (q : Refusal) → 8 ≤ room
    → (triple_call way key block room ≡ refused q) ↔ ((q ≡ Field15) × (NoLabKey key ⊎ (length block ≢ 8)))

-- a check value exactly where the key has neither 16 nor 24 bytes, and with 15
abbrev pub CheckRefused : Type 0
CheckRefused = (key : List ℕ) (room : ℕ) (q : Refusal) → 3 ≤ room → (key_check key room ≡ refused q) ↔ ((q ≡ Field15) × NoLabKey key)

-- what is not refused writes eight bytes, and of a check value three
abbrev pub CountsOfCiphers : Type 0
CountsOfCiphers = (way : Way) (key block written : List ℕ) (room : ℕ)
    → (des_call way key block room ≡ done written → length written ≡ 8)
    × (triple_call way key block room ≡ done written → length written ≡ 8)
    × (key_check key room ≡ done written → length written ≡ 3)

-- the first 3 bytes of a block of zeros enciphered: of what triple DES writes of eight zeros under the key
abbrev pub CheckIsTheFirst : Type 0
CheckIsTheFirst = (key first rest : List ℕ) (room room' : ℕ) → length first ≡ 3 → 3 ≤ room
    → triple_call Encipher key (replicate 8 0) room' ≡ done (first ++ rest) → key_check key room ≡ done first
