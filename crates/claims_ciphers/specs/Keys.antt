-- "two-key and three-key triple DES", E(K1) D(K2) E(K3), where two keys are K1 K2 K1: by what DES makes under each key.
use Rattle.std.specs.Prelude.{ℕ, ◌≡◌, List, ◌++◌, length, take}
use Rattle.ciphers.specs.Ciphers.{des_block, triple_block}
use Rattle.ciphers.specs.declared.Way.{Way}
use Rattle.ciphers.specs.declared.Way.TheVariants.{Encipher, Decipher}
use Rattle.claims_ciphers.specs.Undone.{IsBlock}

-- three keys of eight bytes, one behind the other
abbrev pub three : List ℕ → List ℕ → List ℕ → List ℕ
three k1 k2 k3 = k1 ++ (k2 ++ k3)

-- enciphers under the first, deciphers under the second, enciphers under the third; and deciphers from the third to the first
abbrev pub OneAfterTheOther : Type 0
OneAfterTheOther = (k1 k2 k3 block : List ℕ) → length k1 ≡ 8 → length k2 ≡ 8 → length k3 ≡ 8
    → (triple_block Encipher (three k1 k2 k3) block ≡ des_block Encipher k3 (des_block Decipher k2 (des_block Encipher k1 block)))
    × (triple_block Decipher (three k1 k2 k3) block ≡ des_block Decipher k1 (des_block Encipher k2 (des_block Decipher k3 block)))

-- a key of 16 bytes ciphers as the key of 24 that has its first eight again behind it
abbrev pub FirstAgain : Type 0
FirstAgain = (way : Way) (key block : List ℕ) → length key ≡ 16 → triple_block way key block ≡ triple_block way (key ++ take 8 key) block

-- where the second of three keys is the first or the third, the two undo each other and the one that is left ciphers as in DES
abbrev pub TwoAlike : Type 0
TwoAlike = (way : Way) (k1 k2 block : List ℕ) → length k1 ≡ 8 → length k2 ≡ 8 → IsBlock block
    → (triple_block way (three k1 k1 k2) block ≡ des_block way k2 block) × (triple_block way (three k1 k2 k2) block ≡ des_block way k1 block)

-- so a key of 24 bytes or of 16 whose parts are one key ciphers as DES under it
abbrev pub OneKey : Type 0
OneKey = (way : Way) (key block : List ℕ) → length key ≡ 8 → IsBlock block
    → (triple_block way (three key key key) block ≡ des_block way key block) × (triple_block way (key ++ key) block ≡ des_block way key block)
