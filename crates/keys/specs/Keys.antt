-- Fields 1 to 3, key type, PIN key and PVK. Readers, over the characters ahead.
use Rattle.std.specs.Prelude.{ℕ, List, [], ◌∷◌, Bool, true, false, ◌&&◌, cond, length, get_or, drop, leb, Option, None}
use Rattle.alphabet.specs.Alphabet.{admits, begins}
use Rattle.alphabet.specs.declared.Class.TheVariants.{CapitalHex}
use Rattle.numbers.specs.Numbers.{done, refused, and_then}
use Rattle.numbers.specs.declared.Refusal.TheVariants.{Field15, Key26}
use Rattle.fields.specs.Fields.{Found, run, marked, behind}
use Rattle.uses.specs.declared.Use.{Use}
use Rattle.keyblocks.specs.KeyBlocks.{key_block}
use Rattle.keys.specs.declared.Letters.{Letters}

-- ---- 1. Key type

-- `001`, `002`, `FFF`
abbrev pub type001 : List ℕ
type001 = 0x30 ∷ 0x30 ∷ 0x31 ∷ []

abbrev pub type002 : List ℕ
type002 = 0x30 ∷ 0x30 ∷ 0x32 ∷ []

abbrev pub type_fff : List ℕ
type_fff = 0x46 ∷ 0x46 ∷ 0x46 ∷ []

-- "Types 001 and 002 want U + 32 or T + 48 hex characters in both; FFF wants S in both"
abbrev pub only_u_or_t : Letters
only_u_or_t = record { bare = false; double = true; triple = true; block = false }

abbrev pub only_s : Letters
only_s = record { bare = false; double = false; triple = false; block = true }

-- where no key type stands before the keys, as in DA and EA: each field goes by its own letter
abbrev pub any_letter : Letters
any_letter = record { bare = false; double = true; triple = true; block = true }

-- "Key type, 3 characters: 001, 002 or FFF, else 15"; of a type the letters are read that it wants
unfoldable pub key_type : List ℕ → Found Letters
key_type cs =
    cond (begins type001 cs) (done (only_u_or_t, 3))
    (cond (begins type002 cs) (done (only_u_or_t, 3))
    (cond (begins type_fff cs) (done (only_s, 3)) (refused Field15)))

-- ---- 2. PIN key, then 3. PVK

-- the hex characters of a key
unfoldable pub hex_key : ℕ → List ℕ → Found (Option ℕ)
hex_key n cs = and_then (run CapitalHex Field15 Field15 n cs) (λ r. done (None, r.1))

-- `U`, `T`, `S`
abbrev pub letter_u : ℕ
letter_u = 0x55

abbrev pub letter_t : ℕ
letter_t = 0x54

abbrev pub letter_s : ℕ
letter_s = 0x53

-- a key, where the field admits its letter: "another letter is 26"
abbrev pub admitted : Bool → Found (Option ℕ) → Found (Option ℕ)
admitted allowed found = cond allowed found (refused Key26)

-- "U + 32 or T + 48 hex characters", S and a key block; or a bare key, 32 hex characters without a letter, which the paper does not have
-- and no key type admits
unfoldable pub lettered : Letters → Use → List ℕ → Found (Option ℕ)
lettered letters for cs =
    cond (marked letter_u cs) (behind 1 (admitted letters.double (hex_key 32 (drop 1 cs))))
    (cond (marked letter_t cs) (behind 1 (admitted letters.triple (hex_key 48 (drop 1 cs))))
    (cond (marked letter_s cs) (behind 1 (admitted letters.block (key_block for (drop 1 cs))))
    (admitted (letters.bare && admits CapitalHex (get_or cs 0 0)) (hex_key 32 cs))))

-- "A key field is judged letter first"; a missing letter is a missing character
unfoldable pub key : Letters → Use → List ℕ → Found (Option ℕ)
key letters for cs = cond (leb 1 (length cs)) (lettered letters for cs) (refused Field15)
