-- "Offset, verdict and PVV": the covered digits, the differences and the offset, as IBM 3624 has them.
use Rattle.std.specs.Prelude.{ℕ, ◌-◌, ◌%◌, List, [], ◌∷◌, map, Bool, cond, ℤ, pos, negsuc, ◌-ℤ◌, leb}
use Rattle.nibbles.specs.Nibbles.{within}
use Rattle.numbers.specs.Numbers.{Outcome, done, unless}
use Rattle.numbers.specs.declared.Refusal.TheVariants.{Field15, Check81}
use Rattle.pins.specs.Pins.{last_of}

-- ---- the digits that an offset covers

-- "check length outside 4 to 12" is 15
abbrev pub check_length : ℕ → Outcome ℕ
check_length check = unless Field15 (within 4 12 check) check

-- "Let m be the check length, or n where the offset has variable length"; "check length longer than the PIN" is 81
abbrev pub covers : Bool → ℕ → ℕ → Outcome ℕ
covers variable check n = cond variable (done n) (unless Check81 (leb check n) check)

-- ---- differences and offset

-- "PIN digit less natural digit", "unreduced, from -9 to 9"
abbrev pub difference : ℕ → ℕ → ℤ
difference pin natural = pos pin -ℤ pos natural

-- digit by digit
unfoldable pub differences : List ℕ → List ℕ → List ℤ
differences [] qs = []
differences (p ∷ ps) [] = []
differences (p ∷ ps) (q ∷ qs) = difference p q ∷ differences ps qs

-- "modulo ten": of a number below zero too, the one of 0 to 9 that differs from it by tens
abbrev pub modulo_ten : ℤ → ℕ
modulo_ten (pos n) = n % 10
modulo_ten (negsuc n) = 9 - n % 10

-- "The offset covers the last m digits": the differences over them
abbrev pub covered : ℕ → List ℕ → List ℕ → List ℤ
covered m pin natural = differences (last_of m pin) (last_of m natural)

-- the offset: those differences modulo ten
abbrev pub offset_of : ℕ → List ℕ → List ℕ → List ℕ
offset_of m pin natural = map modulo_ten (covered m pin natural)
