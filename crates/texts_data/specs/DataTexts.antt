-- Fields 5, 9 and 10: the format, the validation data and the weak PINs; and DA's and EA's 3 and 10: the maximum PIN length, the offset.
use Prim.Native.Char.{code}
use Rattle.std.specs.Prelude.{ℕ, ◌-◌, Bool, true, false, List, [], ◌∷◌, ◌++◌, map, ◌≡◌, length, replicate}
use Rattle.alphabet.specs.Alphabet.{all_of, value_of}
use Rattle.alphabet.specs.declared.Class.TheVariants.{Digit, CapitalHex}
use Rattle.formats.specs.declared.Format.{Format}
use Rattle.formats.specs.declared.Format.TheVariants.{F01, F03, F05, F34, F35, F47}
use Rattle.pins.specs.Pins.{last_of}
use Rattle.texts.specs.Characters.{printed, OneOf}
use Rattle.texts.specs.Texts.{Run, Within, as_two_digits, together, Optional, absent, present}

-- field 5: "Format, two digits"; "Built: PIN blocks of formats 01, 03, 05, 34, 35 and 47"
abbrev pub format_text : Format → List ℕ
format_text F01 = printed "01"
format_text F03 = printed "03"
format_text F05 = printed "05"
format_text F34 = printed "34"
format_text F35 = printed "35"
format_text F47 = printed "47"

-- "BK allows all six, or restricted only 01 and 47"
abbrev pub Allows : Bool → Format → Type 0
Allows false f = Unit {0}
Allows true f = OneOf f (F01 ∷ F47 ∷ [])

-- field 9: the hex before and behind the `N`, or the hex behind the `P`
pub data Validation : Type 0 where
  with_n : List ℕ → List ℕ → Validation
  with_p : List ℕ → Validation

-- field 9's characters
abbrev pub validation_text : Validation → List ℕ
validation_text (with_n before behind) = before ++ (printed "N" ++ behind)
validation_text (with_p cs) = printed "P" ++ cs

-- "12 characters, eleven hex and exactly one `N`; or `P` + 16 hex"
abbrev pub IsValidation : Validation → Type 0
IsValidation (with_n before behind) = Run CapitalHex 11 (before ++ behind)
IsValidation (with_p cs) = Run CapitalHex 16 cs

-- the nibbles that they stand for: "`N` is replaced by the last five account digits"
abbrev pub validation_nibbles : List ℕ → Validation → List ℕ
validation_nibbles account (with_n before behind) = map value_of before ++ (last_of 5 account ++ map value_of behind)
validation_nibbles account (with_p cs) = map value_of cs

-- field 10 behind its mark: the count 00, or the length of the weak PINs and the PINs
pub data WeakList : Type 0 where
  no_pins : WeakList
  pins : ℕ → List (List ℕ) → WeakList

-- "weak count, and when that is not 00 their length […] and the list": one entry after the other
abbrev pub weak_text : WeakList → List ℕ
weak_text no_pins = printed "00"
weak_text (pins size es) = as_two_digits (length es) ++ (as_two_digits size ++ together es)

-- each entry has that length and is of digits: "count times length" digits in all
abbrev pub AreEntries : ℕ → List (List ℕ) → Type 0
AreEntries size [] = Unit {0}
AreEntries size (e ∷ es) = Run Digit size e × AreEntries size es

-- the count in "two digits" and "not 00", "their length 04 to 12", the entries
abbrev pub IsWeakList : WeakList → Type 0
IsWeakList no_pins = Unit {0}
IsWeakList (pins size es) = Within 1 99 (length es) × Within 4 12 size × AreEntries size es

-- field 10: "ours is the semicolon"
abbrev pub mark_of_weak_list : List ℕ
mark_of_weak_list = printed ";"

-- the weak PINs that are named, digit by digit
abbrev pub weak_pins_of : Optional WeakList → List (List ℕ)
weak_pins_of absent = []
weak_pins_of (present no_pins) = []
weak_pins_of (present (pins size es)) = map (map value_of) es

-- the maximum PIN length: the two characters `12`
abbrev pub maximum_text : List ℕ
maximum_text = printed "12"

-- "the 12-character offset: 4 to 12 digits, then only F": of its digits, as many F behind them as fill twelve
abbrev pub presented_text : List ℕ → List ℕ
presented_text digits = digits ++ replicate (12 - length digits) (code "F")

abbrev pub IsPresented : List ℕ → Type 0
IsPresented digits = Within 4 12 (length digits) × (all_of Digit digits ≡ true)
