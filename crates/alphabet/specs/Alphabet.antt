-- Which characters a class admits, and a character's value.
use Rattle.std.specs.Prelude.{ℕ, ◌+◌, ◌-◌, ◌%◌, List, [], ◌∷◌, map, Bool, true, false, ◌&&◌, ◌||◌, cond, leb, eqb}
use Rattle.alphabet.specs.declared.Class.{Class}
use Rattle.alphabet.specs.declared.Class.TheVariants.{Digit, CapitalHex, Printable}

-- from one character to another
abbrev pub between : ℕ → ℕ → ℕ → Bool
between low high c = leb low c && leb c high

-- digits are 30 to 39 hex; hex letters are capitals only, 41 to 46 hex; printable characters are 20 to 7E hex
abbrev pub admits : Class → ℕ → Bool
admits Digit c = between 0x30 0x39 c
admits CapitalHex c = between 0x30 0x39 c || between 0x41 0x46 c
admits Printable c = between 0x20 0x7E c

-- every character is of the class
unfoldable pub all_of : Class → List ℕ → Bool
all_of k [] = true
all_of k (c ∷ cs) = admits k c && all_of k cs

-- the characters begin with a fixed text
unfoldable pub begins : List ℕ → List ℕ → Bool
begins [] cs = true
begins (t ∷ ts) [] = false
begins (t ∷ ts) (c ∷ cs) = eqb t c && begins ts cs

-- what a digit or a capital hex letter stands for; asked only of those, and a nibble whatever is asked
unfoldable pub value_of : ℕ → ℕ
value_of c = (cond (leb 0x41 c) (c - 0x37) (c - 0x30)) % 16

-- digits as characters
abbrev pub characters : List ℕ → List ℕ
characters ds = map (λ d. 0x30 + d) ds
