-- The weak PINs of a command, and which PINs are on their list.
use Rattle.std.specs.Prelude.{ℕ, zero, suc, List, [], ◌∷◌, map, Bool, false, ◌||◌, take, drop}
use Rattle.nibbles.specs.Nibbles.{same}
use Rattle.alphabet.specs.Alphabet.{value_of}
use Rattle.weak.specs.declared.Weak.{Weak}

-- the digits of the weak PINs, one after the other
unfoldable pub entries : ℕ → ℕ → List ℕ → List (List ℕ)
entries zero n cs = []
entries (suc k) n cs = map value_of (take n cs) ∷ entries k n (drop n cs)

-- a PIN is on the list where it is one of them. "A weak PIN of another length than the PIN never matches"
unfoldable pub is_on : List ℕ → List (List ℕ) → Bool
is_on pin [] = false
is_on pin (entry ∷ rest) = same pin entry || is_on pin rest

-- the weak PINs of a command
abbrev pub weak_pins : Weak → List ℕ → List (List ℕ)
weak_pins w s = entries w.count w.length (drop w.list s)
