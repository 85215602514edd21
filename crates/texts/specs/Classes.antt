-- Which characters the classes admit, printed.
use Rattle.std.specs.Prelude.{ℕ, ◌≡◌, ◌↔◌, List, [], ◌∷◌, true}
use Rattle.alphabet.specs.Alphabet.{all_of}
use Rattle.alphabet.specs.declared.Class.{Class}
use Rattle.alphabet.specs.declared.Class.TheVariants.{Digit, CapitalHex, Printable}
use Rattle.texts.specs.Characters.{printed, OneOf}

-- each character of a text is one of some
abbrev pub MadeOf : List ℕ → List ℕ → Type 0
MadeOf chars [] = Unit {0}
MadeOf chars (c ∷ cs) = OneOf c chars × MadeOf chars cs

-- the texts of a class are those made of these characters
abbrev pub Admits : Class → List ℕ → Type 0
Admits class chars = (cs : List ℕ) → (all_of class cs ≡ true) ↔ MadeOf chars cs

-- digits; "hex letters are capitals only"; "printable characters (20 to 7E)", which are these 95
abbrev pub ClassesPrinted : Type 0
ClassesPrinted = Admits Digit (printed "0123456789")
    × Admits CapitalHex (printed "0123456789ABCDEF")
    × Admits Printable (printed " !\"#$%&'()*+,-./0123456789:;<=>?@ABCDEFGHIJKLMNOPQRSTUVWXYZ[\\]^_`abcdefghijklmnopqrstuvwxyz{|}~")
