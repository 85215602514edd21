-- Validation data, and the block that the key box enciphers to make a natural PIN.
use Rattle.std.specs.Prelude.{ℕ, suc, List, ◌++◌, map, Bool, true, false, ◌&&◌, cond, length, get_or, take, drop, leb, eqb}
use Rattle.nibbles.specs.Nibbles.{packs, leading}
use Rattle.alphabet.specs.Alphabet.{admits, all_of, value_of}
use Rattle.alphabet.specs.declared.Class.TheVariants.{CapitalHex}
use Rattle.numbers.specs.Numbers.{Outcome, done, refused, and_then, unless}
use Rattle.numbers.specs.declared.Refusal.TheVariants.{Field15, Room901}
use Rattle.pins.specs.Pins.{last_of, account_of}
use Rattle.validation.specs.declared.Shape.{Shape}
use Rattle.validation.specs.declared.Shape.TheVariants.{Template, Whole, Neither}

-- `P`, and `N`
abbrev pub letter_p : ℕ
letter_p = 0x50

abbrev pub letter_n : ℕ
letter_n = 0x4E

-- how many characters each kind has
abbrev pub template_width : ℕ
template_width = 12

abbrev pub whole_width : ℕ
whole_width = 17

-- where the hex characters at the beginning end
abbrev pub hex_end : List ℕ → ℕ
hex_end cs = length (leading (admits CapitalHex) cs)

-- "12 characters, eleven hex and exactly one N": hex characters, an N, and hex characters again
abbrev pub is_template : List ℕ → Bool
is_template cs = eqb (length cs) template_width && (eqb (get_or cs (hex_end cs) 0) letter_n && all_of CapitalHex (drop (suc (hex_end cs)) cs))

-- "or P + 16 hex"
abbrev pub is_whole : List ℕ → Bool
is_whole cs = eqb (length cs) whole_width && all_of CapitalHex (drop 1 cs)

-- which of the two they are is told by their first character, since P is neither hex nor N: what it is for a P, and for another
abbrev pub by_p : {A : Type 0} → List ℕ → A → A → A
by_p cs whole template = cond (eqb (get_or cs 0 0) letter_p) whole template

-- how many characters they have that begin so
abbrev pub width_of : List ℕ → ℕ
width_of cs = by_p cs whole_width template_width

-- what they are: twelve characters with the place of their N, P and sixteen, or neither
unfoldable pub shape_of : List ℕ → Shape
shape_of cs = by_p cs (cond (is_whole cs) Whole Neither) (cond (is_template cs) (Template (hex_end cs)) Neither)

-- how many characters each has
abbrev pub shape_width : Shape → ℕ
shape_width (Template at) = template_width
shape_width Whole = whole_width
shape_width Neither = 0

-- "validation data malformed": what is neither
abbrev pub formed : Shape → Bool
formed (Template at) = true
formed Whole = true
formed Neither = false

abbrev pub is_validation : List ℕ → Bool
is_validation cs = formed (shape_of cs)

-- "N is replaced by the last five account digits"
abbrev pub replaced : List ℕ → ℕ → List ℕ → List ℕ
replaced account at cs = map value_of (take at cs) ++ last_of 5 account ++ map value_of (drop (suc at) cs)

-- the sixteen nibbles that each stands for, or 15
abbrev pub shaped : List ℕ → List ℕ → Shape → Outcome (List ℕ)
shaped account cs (Template at) = done (replaced account at cs)
shaped account cs Whole = done (map value_of (drop 1 cs))
shaped account cs Neither = refused Field15

unfoldable pub validation_row : List ℕ → List ℕ → Outcome (List ℕ)
validation_row account cs = shaped account cs (shape_of cs)

-- the call that makes the validation block: 901, 15 for account and validation data
unfoldable pub validation_block : List ℕ → List ℕ → ℕ → Outcome (List ℕ)
validation_block validation account room =
    and_then (unless Room901 (leb 8 room) room)
    (λ _. and_then (account_of account)
    (λ digits. and_then (validation_row digits validation)
    (λ ns. done (packs ns))))
