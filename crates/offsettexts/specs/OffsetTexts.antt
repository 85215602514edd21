-- "Offset, verdict and PVV": an offset as characters, as it is written and as it is presented.
use Rattle.std.specs.Prelude.{ℕ, ◌-◌, List, ◌++◌, map, ◌&&◌, length, take, drop, replicate, leb, eqb}
use Rattle.nibbles.specs.Nibbles.{within, every, leading}
use Rattle.alphabet.specs.Alphabet.{admits, value_of, characters}
use Rattle.alphabet.specs.declared.Class.TheVariants.{Digit}
use Rattle.numbers.specs.Numbers.{Outcome, unless}
use Rattle.numbers.specs.declared.Refusal.TheVariants.{Field15}

-- "BK writes it left in 12 characters, filled with F"
abbrev pub offset_text : List ℕ → List ℕ
offset_text ds = characters ds ++ replicate (12 - length ds) 0x46

-- where its digits end
abbrev pub digit_end : List ℕ → ℕ
digit_end cs = length (leading (admits Digit) cs)

-- "the 12-character offset: 4 to 12 digits, then only F, else 15"
abbrev pub offset_presented : List ℕ → Outcome (List ℕ)
offset_presented cs =
    unless Field15 (eqb (length cs) 12 && (leb 4 (digit_end cs) && every (within 0x46 0x46) (drop (digit_end cs) cs)))
    (map value_of (take (digit_end cs) cs))
