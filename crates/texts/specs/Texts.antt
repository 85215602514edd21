-- The kinds of fields that a host command has, as texts: lists of character codes.
use Prim.Native.Char.{code}
use Rattle.std.specs.Prelude.{ℕ, ◌+◌, ◌≤◌, ◌/◌, ◌%◌, true, List, [], ◌∷◌, ◌++◌, ◌≡◌, length}
use Rattle.alphabet.specs.Alphabet.{all_of}
use Rattle.alphabet.specs.declared.Class.{Class}
use Rattle.alphabet.specs.declared.Class.TheVariants.{Printable}

-- so many characters of a class, as in "16 hex" and "12 digits"
abbrev pub Run : Class → ℕ → List ℕ → Type 0
Run k n cs = (length cs ≡ n) × (all_of k cs ≡ true)

-- a number from low to high, both included, as in "04 to 12"
abbrev pub Within : ℕ → ℕ → ℕ → Type 0
Within low high v = (low ≤ v) × (v ≤ high)

-- a number under 100 in two digits, tens first
abbrev pub as_two_digits : ℕ → List ℕ
as_two_digits v = (code "0" + (v / 10)) ∷ ((code "0" + (v % 10)) ∷ [])

-- a number under 10,000 in four digits, thousands first: "four digits of length"
abbrev pub as_four_digits : ℕ → List ℕ
as_four_digits v = as_two_digits (v / 100) ++ as_two_digits (v % 100)

-- texts one after the other
abbrev pub together : List (List ℕ) → List ℕ
together [] = []
together (t ∷ ts) = t ++ together ts

-- a part that the paper calls "Optional"
pub data Optional (A : Type 0) : Type 0 where
  absent : Optional A
  present : A → Optional A

-- what holds of an optional part, if it is there
abbrev pub WherePresent : {A : Type 0} → (A → Type 0) → Optional A → Type 0
WherePresent P absent = Unit {0}
WherePresent P (present a) = P a

-- nothing, or the part's mark and behind it the part's text
abbrev pub optional_text : {A : Type 0} → List ℕ → (A → List ℕ) → Optional A → List ℕ
optional_text mark text absent = []
optional_text mark text (present a) = mark ++ text a

-- field 12: "Optional byte 19 hex"
abbrev pub mark_of_trailer : List ℕ
mark_of_trailer = 0x19 ∷ []

-- field 12: "a trailer of 0 to 32 printable characters (20 to 7E)"
abbrev pub IsTrailer : List ℕ → Type 0
IsTrailer cs = (length cs ≤ 32) × (all_of Printable cs ≡ true)

-- nothing, or its mark and the trailer
abbrev pub trailer_text : Optional (List ℕ) → List ℕ
trailer_text t = optional_text mark_of_trailer (λ cs. cs) t
