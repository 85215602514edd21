-- The calls of the ciphers, "encipher and decipher one block, key check value": 901, then 15.
use Rattle.std.specs.Prelude.{ℕ, List, [], ◌∷◌, Bool, leb, eqb, length, take}
use Rattle.numbers.specs.Numbers.{Outcome, done, and_then, unless}
use Rattle.numbers.specs.declared.Refusal.TheVariants.{Field15, Room901}
use Rattle.words.specs.Words.{in_bytes}
use Rattle.ciphers.specs.Ciphers.{des_block, triple_block, is_lab_key}
use Rattle.ciphers.specs.declared.Way.{Way}
use Rattle.ciphers.specs.declared.Way.TheVariants.{Encipher}

-- room and key of a call: 901, then 15 for a key that is none
abbrev pub keyed : ℕ → (List ℕ → Bool) → List ℕ → ℕ → Outcome (List ℕ)
keyed least is_key key room = and_then (unless Room901 (leb least room) room) (λ _. unless Field15 (is_key key) key)

-- so of a cipher, which takes a block too: 15 for one that is not eight bytes
abbrev pub ciphered : (List ℕ → Bool) → (List ℕ → List ℕ → List ℕ) → List ℕ → List ℕ → ℕ → Outcome (List ℕ)
ciphered is_key cipher key block room =
    and_then (keyed 8 is_key key room)
    (λ k. and_then (unless Field15 (eqb (length block) 8) block)
    (λ b. done (cipher k b)))

-- DES: a key of eight bytes
unfoldable pub des_call : Way → List ℕ → List ℕ → ℕ → Outcome (List ℕ)
des_call way = ciphered (λ key. eqb (length key) 8) (des_block way)

-- triple DES: a lab key
unfoldable pub triple_call : Way → List ℕ → List ℕ → ℕ → Outcome (List ℕ)
triple_call way = ciphered is_lab_key (triple_block way)

-- the key check value: the first 3 bytes of a block of zeros enciphered
abbrev pub zeros : List ℕ
zeros = 0 ∷ 0 ∷ 0 ∷ 0 ∷ 0 ∷ 0 ∷ 0 ∷ 0 ∷ []

abbrev pub check_value : List ℕ → List ℕ
check_value key = take 3 (triple_block Encipher key zeros)

-- of a lab key, with room for it
unfoldable pub key_check : List ℕ → ℕ → Outcome (List ℕ)
key_check key room = and_then (keyed 3 is_lab_key key room) (λ k. done (check_value k))

-- ---- as the code makes them: the first n bytes of a word, where the key and the block are fit for it

abbrev pub first_bytes : ℕ → Bool → ℕ → ℕ → Outcome (List ℕ)
first_bytes n fit w room = and_then (unless Room901 (leb n room) room) (λ _. unless Field15 fit (take n (in_bytes 8 w)))
