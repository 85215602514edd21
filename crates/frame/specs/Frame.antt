-- The frame of a command, and the response's bytes.
use Rattle.std.specs.Prelude.{ℕ, ◌+◌, ◌/◌, ◌%◌, List, [], ◌∷◌, ◌++◌, Bool, ◌&&◌, cond, length, get_or, take, leb}
use Rattle.alphabet.specs.Alphabet.{all_of, begins, characters}
use Rattle.alphabet.specs.declared.Class.TheVariants.{Printable}
use Rattle.numbers.specs.Numbers.{Outcome, unless}
use Rattle.numbers.specs.declared.Refusal.TheVariants.{Frame902}
use Rattle.settings.specs.Settings.{longest_header}
use Rattle.frame.specs.declared.Code.{Code}
use Rattle.frame.specs.declared.Code.TheVariants.{Bk, Da, Ea, Other}

abbrev pub longest_command : ℕ
longest_command = 4096

-- "header setting over 16, command over 4,096 bytes or under header + 2, or a header byte outside 20 to 7E hex" is no frame
unfoldable pub is_framed : ℕ → List ℕ → Bool
is_framed header s =
    leb header longest_header && (leb (length s) longest_command && (leb (header + 2) (length s) && all_of Printable (take header s)))

-- 902, or where the command's code stands
abbrev pub framed : ℕ → List ℕ → Outcome ℕ
framed header s = unless Frame902 (is_framed header s) header

-- `BK`, `DA`, `EA`
abbrev pub bk : List ℕ
bk = 0x42 ∷ 0x4B ∷ []

abbrev pub da : List ℕ
da = 0x44 ∷ 0x41 ∷ []

abbrev pub ea : List ℕ
ea = 0x45 ∷ 0x41 ∷ []

-- which command it is, by the two bytes of its code
abbrev pub code_of : List ℕ → Code
code_of cs = cond (begins bk cs) Bk (cond (begins da cs) Da (cond (begins ea cs) Ea Other))

-- "its second byte raised by one (255 becomes 0)"
abbrev pub raised : ℕ → ℕ
raised c = (c + 1) % 256

-- a number in two digits; asked only under 100
abbrev pub in_two_digits : ℕ → List ℕ
in_two_digits number = characters (number / 10 % 10 ∷ number % 10 ∷ [])

-- "header, response code and two-digit number". "The response code is the command code with its second byte raised by one"
unfoldable pub opening : ℕ → List ℕ → ℕ → List ℕ
opening header s number = take header s ++ (get_or s header 0 ∷ raised (get_or s (header + 1) 0) ∷ in_two_digits number)
