-- The fields of a command. A reader looks at the characters ahead of the cursor, and answers with the field's value and how many of
-- them the field has, or with a refusal. A field is a reader with a number and a place; a stage is fields, one behind the other.
--
-- Where 04 and an account stand at place 93 of s, `number 4 12 Field15 (drop 93 s)` finds (4, 2), and so
--   `field 6 (number 4 12 Field15) s 93 next`  is  `next 4 95`:
-- field 7 is read at place 95, and where the last field ends the stage is `read` what they gave and the next place. Where 13 stands
-- there it is `faulty` with 15, field 6 and place 93, and no field behind it is read.
use Rattle.std.specs.Prelude.{ℕ, ◌+◌, ◌*◌, List, [], ◌∷◌, Bool, cond, length, get_or, take, drop, leb}
use Rattle.nibbles.specs.Nibbles.{within}
use Rattle.alphabet.specs.Alphabet.{all_of, begins, value_of}
use Rattle.alphabet.specs.declared.Class.{Class}
use Rattle.alphabet.specs.declared.Class.TheVariants.{Digit, Printable}
use Rattle.numbers.specs.Numbers.{Judged, Outcome, done, refused, and_then, unless}
use Rattle.numbers.specs.declared.Refusal.{Refusal}
use Rattle.numbers.specs.declared.Refusal.TheVariants.{Field15}
use Rattle.fields.specs.declared.Fault.{Fault}
use Rattle.fields.specs.declared.Pointer.{Pointer}

-- ---- the kinds of fields

-- what a reader finds: the field's value, and how many characters it took
abbrev pub Found : Type 0 → Type 0
Found A = Outcome (A × ℕ)

-- n characters of a class. "Inside a field a missing character is judged before a wrong one." Its value is n
unfoldable pub run : Class → Refusal → Refusal → ℕ → List ℕ → Found ℕ
run class missing wrong n cs =
    and_then (unless missing (leb n (length cs)) n)
    (λ _. unless wrong (all_of class (take n cs)) (n, n))

-- the number that the two digits at a place make
abbrev pub two_digits : ℕ → List ℕ → ℕ
two_digits i cs = value_of (get_or cs i 0) * 10 + value_of (get_or cs (i + 1) 0)

-- a number of two digits, from low to high
unfoldable pub number : ℕ → ℕ → Refusal → List ℕ → Found ℕ
number low high wrong cs =
    and_then (run Digit wrong wrong 2 cs)
    (λ _. unless wrong (within low high (two_digits 0 cs)) (two_digits 0 cs, 2))

-- an optional field is there where its mark is
abbrev pub marked : ℕ → List ℕ → Bool
marked mark cs = begins (mark ∷ []) cs

-- what was found behind n characters, as found before them
abbrev pub behind : {A : Type 0} → ℕ → Found A → Found A
behind n (done r) = done (r.0, n + r.1)
behind n (refused q) = refused q

abbrev pub trailer_mark : ℕ
trailer_mark = 0x19

abbrev pub longest_trailer : ℕ
longest_trailer = 32

-- the lesser of a limit and a number
abbrev pub at_most : ℕ → ℕ → ℕ
at_most high n = cond (leb n high) n high

-- "Optional byte 19 hex and a trailer of 0 to 32 printable characters": at most 32 of those ahead, and what is behind them is left
-- over. Its value, how many there are behind the mark, is asked by nobody
unfoldable pub trailer : List ℕ → Found ℕ
trailer cs =
    cond (marked trailer_mark cs)
    (behind 1 (run Printable Field15 Field15 (at_most longest_trailer (length (drop 1 cs))) (drop 1 cs)))
    (done (0, 0))

-- ---- fields one after the other

-- what reading comes to: what was read and the place where the next field begins, or the fault that decides
pub data Stage (A : Type 0) : Type 0 where
  read : A → ℕ → Stage A
  faulty : Fault → Stage A

-- "the first fault deciding": a refusal carries the field's number and the place where the field begins
abbrev pub fielded : {A B : Type 0} → ℕ → ℕ → Found A → (A → ℕ → Stage B) → Stage B
fielded which at (done r) next = next r.0 (at + r.1)
fielded which at (refused q) next = faulty (record { refusal = q; field = which; place = at })

-- the field that begins at a place, and what comes next
abbrev pub field : {A B : Type 0} → ℕ → (List ℕ → Found A) → List ℕ → ℕ → (A → ℕ → Stage B) → Stage B
field which reader s at next = fielded which at (reader (drop at s)) next

-- a stage, and what comes next
abbrev pub onward : {A B : Type 0} → Stage A → (A → ℕ → Stage B) → Stage B
onward (read a at) next = next a at
onward (faulty f) next = faulty f

-- ---- behind the fields

-- what a command comes to: a value, or the fault that decides, with its field and its place
abbrev pub Ruling : Type 0 → Type 0
Ruling A = Judged Fault A

-- what a stage read, or its fault
abbrev pub ruled : {A : Type 0} → Stage A → Ruling A
ruled (read a at) = done a
ruled (faulty f) = refused f

-- what is judged behind the fields: its refusal is pointed at a field and a place
abbrev pub pointing : {A : Type 0} → ℕ → ℕ → Outcome A → Ruling A
pointing which at (done a) = done a
pointing which at (refused q) = refused (record { refusal = q; field = which; place = at })

-- or at none
abbrev pub unpointed : {A : Type 0} → Outcome A → Ruling A
unpointed o = pointing 0 0 o

-- what the host hears of it: the refusal's number, not the field nor the place
abbrev pub heard : {A : Type 0} → Ruling A → Outcome A
heard (done a) = done a
heard (refused f) = refused f.refusal

-- so of a stage
abbrev pub outcome : {A : Type 0} → Stage A → Outcome A
outcome stage = heard (ruled stage)

-- a fault's "byte position in the command where the field that failed begins, and which field number"
abbrev pub pointer_of : Fault → Pointer
pointer_of f = record { place = f.place; field = f.field }

-- 0 and 0 where nothing is pointed at
abbrev pub nowhere : Pointer
nowhere = record { place = 0; field = 0 }

-- what the server is shown of what a command comes to
abbrev pub shown : {A : Type 0} → Ruling A → Pointer
shown (done a) = nowhere
shown (refused f) = pointer_of f
