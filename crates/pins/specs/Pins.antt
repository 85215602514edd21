-- PINs and accounts, each judged in one place.
use Rattle.std.specs.Prelude.{ℕ, ◌-◌, List, [], ◌∷◌, ◌++◌, map, Bool, ◌&&◌, length, drop, replicate, eqb}
use Rattle.nibbles.specs.Nibbles.{nibs, within, every}
use Rattle.alphabet.specs.Alphabet.{all_of, value_of}
use Rattle.alphabet.specs.declared.Class.TheVariants.{Digit}
use Rattle.numbers.specs.Numbers.{Outcome, and_then, unless}
use Rattle.numbers.specs.declared.Refusal.TheVariants.{Unverified01, Field15, Block20, Length24}

-- a digit is 0 to 9
abbrev pub digit : ℕ → Bool
digit = within 0 9

-- the last k digits: an offset covers the last m, `N` stands for the last five of an account, a PVV's input begins with the last 11
abbrev pub last_of : ℕ → List ℕ → List ℕ
last_of k ds = drop (length ds - k) ds

-- "PIN length outside 4 to 12" is 24
abbrev pub pin_length : ℕ → Outcome ℕ
pin_length n = unless Length24 (within 4 12 n) n

-- "a digit over 9 in a PIN or natural PIN handed in" is 20
abbrev pub digits_handed : List ℕ → Outcome (List ℕ)
digits_handed ds = unless Block20 (every digit ds) ds

-- a PIN handed in: "24 before 20"
abbrev pub pin_handed : List ℕ → Outcome (List ℕ)
pin_handed ds = and_then (pin_length (length ds)) (λ _. digits_handed ds)

-- twelve digits, padded with zeros on the left; today only twelve are admitted, so nothing is added
abbrev pub padded : List ℕ → List ℕ
padded ds = replicate (12 - length ds) 0 ++ ds

-- the account's digits from its characters: "account not 12 digits" is 15
abbrev pub account_of : List ℕ → Outcome (List ℕ)
account_of cs = unless Field15 (eqb (length cs) 12 && all_of Digit cs) (padded (map value_of cs))

-- "The account field is four zero nibbles and the 12 account digits"
abbrev pub account_field : List ℕ → List ℕ
account_field digits = 0 ∷ 0 ∷ 0 ∷ 0 ∷ digits

-- a run of bytes that has to have a width, as nibbles: "a block, enciphered block or fill not 8 bytes" is 15
abbrev pub sized : ℕ → List ℕ → Outcome (List ℕ)
sized width bytes = unless Field15 (eqb (length bytes) width) (nibs bytes)

-- a verdict: "00 exactly" where the digits are those that were made, "otherwise 01"; neither writes anything
abbrev pub verdict : Bool → Outcome (List ℕ)
verdict verified = unless Unverified01 verified []
