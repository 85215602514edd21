-- "Offset, verdict and PVV": the decimalisation table and the natural PIN, as IBM 3624 has them.
use Rattle.std.specs.Prelude.{ℕ, List, map, length, get_or, take, leb, eqb}
use Rattle.alphabet.specs.Alphabet.{all_of, value_of}
use Rattle.alphabet.specs.declared.Class.TheVariants.{Digit}
use Rattle.numbers.specs.Numbers.{Outcome, done, and_then, unless}
use Rattle.numbers.specs.declared.Refusal.TheVariants.{Field15, Length24, Table25, Room901}
use Rattle.pins.specs.Pins.{digits_handed, pin_length, sized}

-- "a table not 16 characters" is 15
abbrev pub table_sized : List ℕ → Outcome (List ℕ)
table_sized cs = unless Field15 (eqb (length cs) 16) cs

-- "decimalisation table holds a non-digit" is 25
abbrev pub table_of : List ℕ → Outcome (List ℕ)
table_of cs = unless Table25 (all_of Digit cs) (map value_of cs)

-- the digit that the table has for a nibble
abbrev pub decimal : List ℕ → ℕ → ℕ
decimal table n = get_or table n 0

-- "The table turns the enciphered block's nibbles, from the left, into digits; the natural PIN is the first n"
abbrev pub natural_of : ℕ → List ℕ → List ℕ → List ℕ
natural_of n table es = take n (map (decimal table) es)

-- "a natural PIN handed in with another length than its PIN" is 24, and a digit over 9 in it is 20 before that
abbrev pub natural_handed : ℕ → List ℕ → Outcome (List ℕ)
natural_handed n ds = and_then (digits_handed ds) (λ _. unless Length24 (eqb (length ds) n) ds)

-- the call that makes a natural PIN: 901, 15 for table and enciphered block, 25, 24
unfoldable pub natural_pin : ℕ → List ℕ → List ℕ → ℕ → Outcome (List ℕ)
natural_pin n table enciphered room =
    and_then (unless Room901 (leb 12 room) room)
    (λ _. and_then (table_sized table)
    (λ _. and_then (sized 8 enciphered)
    (λ es. and_then (table_of table)
    (λ ts. and_then (pin_length n)
    (λ k. done (natural_of k ts es))))))
