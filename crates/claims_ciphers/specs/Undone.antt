-- Each way of a cipher undoes the other, whatever the key, of good parity or bad.
use Rattle.std.specs.Prelude.{ℕ, ◌≤◌, ◌≡◌, List, length}
use Rattle.numbers.specs.Numbers.{Outcome, done}
use Rattle.ciphers.specs.Ciphers.{des_block, triple_block}
use Rattle.ciphers.specs.declared.Way.{Way}
use Rattle.ciphers.specs.declared.Way.TheVariants.{Encipher, Decipher}
use Rattle.ciphercalls.specs.CipherCalls.{des_call, triple_call}
use Rattle.claims_blocks.specs.Claims.{IsBytes}

-- the other way
abbrev pub other : Way → Way
other Encipher = Decipher
other Decipher = Encipher

-- a block: eight bytes
abbrev pub IsBlock : List ℕ → Type 0
IsBlock block = (length block ≡ 8) × IsBytes block

-- what DES makes of a block one way, it makes the block of the other way, under the same key
abbrev pub DesUndone : Type 0
DesUndone = (way : Way) (key block : List ℕ) → IsBlock block → des_block (other way) key (des_block way key block) ≡ block

-- so does triple DES, with two keys and with three
abbrev pub TripleUndone : Type 0
TripleUndone = (way : Way) (key block : List ℕ) → IsBlock block → triple_block (other way) key (triple_block way key block) ≡ block

-- of a call: where it writes some bytes, the call the other way is not refused and writes the block
abbrev pub CallUndone : (Way → List ℕ → List ℕ → ℕ → Outcome (List ℕ)) → Type 0
CallUndone call = (way : Way) (key block written : List ℕ) (room room' : ℕ) → IsBytes block → 8 ≤ room'
    → call way key block room ≡ done written → call (other way) key written room' ≡ done block

abbrev pub CallsUndone : Type 0
CallsUndone = CallUndone des_call × CallUndone triple_call
