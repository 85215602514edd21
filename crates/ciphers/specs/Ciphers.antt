-- DES and triple DES of a block of eight bytes, under keys of bytes, either way.
use Rattle.std.specs.Prelude.{ℕ, List, reverse, Bool, ◌||◌, cond, eqb, ltb, length, take, drop}
use Rattle.words.specs.Words.{spelled, in_bytes}
use Rattle.fips46.specs.Fips46.{encipher, decipher, triple_encipher, triple_decipher, computed}
use Rattle.ciphers.specs.declared.Way.{Way}
use Rattle.ciphers.specs.declared.Way.TheVariants.{Encipher, Decipher}

-- ---- DES, under a key of eight bytes

abbrev pub des_word : Way → List ℕ → List ℕ → ℕ
des_word Encipher key block = encipher (spelled key) (spelled block)
des_word Decipher key block = decipher (spelled key) (spelled block)

abbrev pub des_block : Way → List ℕ → List ℕ → List ℕ
des_block way key block = in_bytes 8 (des_word way key block)

-- ---- triple DES, under a lab key

-- a lab key has 16 or 24 bytes: "two-key and three-key triple DES"
abbrev pub is_lab_key : List ℕ → Bool
is_lab_key key = eqb (length key) 16 || eqb (length key) 24

-- the key of the eight bytes from a place on
abbrev pub key_at : List ℕ → ℕ → ℕ
key_at key at = spelled (take 8 (drop at key))

-- where the third key stands: 24 bytes are K1, K2 and K3, and 16 are K1 and K2, with K1 again for K3
abbrev pub third_at : List ℕ → ℕ
third_at key = cond (ltb (length key) 24) 0 16

abbrev pub triple_word : Way → List ℕ → List ℕ → ℕ
triple_word Encipher key block = triple_encipher (key_at key 0) (key_at key 8) (key_at key (third_at key)) (spelled block)
triple_word Decipher key block = triple_decipher (key_at key 0) (key_at key 8) (key_at key (third_at key)) (spelled block)

abbrev pub triple_block : Way → List ℕ → List ℕ → List ℕ
triple_block way key block = in_bytes 8 (triple_word way key block)

-- ---- as the code makes them, by the subkeys of one key or of three

abbrev pub computed_once : Way → List ℕ → ℕ → ℕ
computed_once Encipher ks w = computed ks w
computed_once Decipher ks w = computed (reverse ks) w

abbrev pub computed_thrice : Way → List ℕ → List ℕ → List ℕ → ℕ → ℕ
computed_thrice Encipher k1 k2 k3 w = computed k3 (computed (reverse k2) (computed k1 w))
computed_thrice Decipher k1 k2 k3 w = computed (reverse k1) (computed k2 (computed (reverse k3) w))
