-- What is claimed of offsets, differences, PVVs and their verdicts.
use Rattle.std.specs.Prelude.{ℕ, ◌+◌, ◌%◌, ◌≤◌, ◌≡◌, ◌↔◌, List, [], ◌∷◌, map, Bool, length, ℤ, nat_abs}
use Rattle.numbers.specs.Numbers.{Outcome, done, refused, and_then}
use Rattle.numbers.specs.declared.Refusal.TheVariants.{Unverified01}
use Rattle.codes.specs.Codes.{code_of, format_of, block_width}
use Rattle.formats.specs.declared.Format.{Format}
use Rattle.pins.specs.Pins.{account_of, account_field, sized}
use Rattle.blocks.specs.Blocks.{read_row}
use Rattle.ibm3624.specs.Ibm3624.{covers, offset_of, difference, modulo_ten}
use Rattle.offsettexts.specs.OffsetTexts.{offset_text, offset_presented}
use Rattle.offsets.specs.Offsets.{given, pin_and_natural, offset_made, offset_of_digits, digits_judged, differences_of}
use Rattle.verdicts.specs.Verdicts.{offset_verdict}
use Rattle.pvvdigits.specs.PvvDigits.{pvv_of}
use Rattle.pvvinput.specs.PvvInput.{key_index}
use Rattle.pvv.specs.Pvv.{presented, pvv_made, pvv_verdict}
use Rattle.claims_blocks.specs.Claims.{IsBytes}

-- an offset that was made verifies, by the same inputs
abbrev pub OffsetVerifies : Type 0
OffsetVerifies = (variable : Bool) (code check : ℕ) (block account table enciphered text : List ℕ) (room : ℕ) → IsBytes block → IsBytes enciphered
    → offset_made variable code check block account table enciphered room ≡ done text
    → offset_verdict variable code check block account table enciphered text ≡ done []

-- 00 exactly under the condition, otherwise 01
abbrev pub Exactly : Outcome (List ℕ) → Type 0 → Type 0
Exactly o condition = ((o ≡ done []) ↔ condition) × ((condition → ⊥) → o ≡ refused Unverified01)

-- the verdict on an offset that gets as far as comparing is 00 exactly for the offset defined, over the last m digits, otherwise 01
abbrev pub VerdictExactly : Type 0
VerdictExactly = (variable : Bool) (code check m : ℕ) (block account table enciphered offset os : List ℕ) (g : List ℕ × List ℕ × List ℕ) (p : List ℕ × List ℕ)
    → given code check block account table enciphered ≡ done g → offset_presented offset ≡ done os → pin_and_natural code table g ≡ done p
    → covers variable check (length p.0) ≡ done m → length os ≡ m
    → Exactly (offset_verdict variable code check block account table enciphered offset) (os ≡ offset_of m p.0 p.1)

-- the verdict is 00 exactly for the text that the offset call makes of the same inputs
abbrev pub VerdictIsOffset : Type 0
VerdictIsOffset = (variable : Bool) (code check : ℕ) (block account table enciphered offset : List ℕ) (room : ℕ) → IsBytes block → IsBytes enciphered → 12 ≤ room
    → (offset_verdict variable code check block account table enciphered offset ≡ done []) ↔ (offset_made variable code check block account table enciphered room ≡ done offset)

-- a PVV whose verdict is 00 is the very text that the PVV call makes of the enciphered input
abbrev pub PvvVerdictIsPvv : Type 0
PvvVerdictIsPvv = (code index : ℕ) (block account enciphered pvv : List ℕ) (room : ℕ) → 4 ≤ room
    → pvv_verdict code index block account enciphered pvv ≡ done [] → pvv_made enciphered room ≡ done pvv

-- the verdict on a PVV that gets as far as comparing is 00 exactly for equal digits, otherwise 01
abbrev pub PvvVerdictExactly : Type 0
PvvVerdictExactly = (code index k : ℕ) (block account enciphered pvv ns digits es ps ds : List ℕ) (f : Format)
    → sized (block_width code) block ≡ done ns → account_of account ≡ done digits → key_index index ≡ done k → sized 8 enciphered ≡ done es → presented pvv ≡ done ps
    → format_of (code_of code) ≡ done f → read_row f (account_field digits) ns ≡ done ds
    → Exactly (pvv_verdict code index block account enciphered pvv) (pvv_of es ≡ ps)

-- the offset's digits are the differences of the same inputs, modulo ten
abbrev pub ReducedDifferences : Type 0
ReducedDifferences = (variable : Bool) (check : ℕ) (pin natural : List ℕ) (room : ℕ) (zs : List ℤ)
    → differences_of variable check pin natural room ≡ done zs → digits_judged variable check pin natural room ≡ done (map modulo_ten zs)

-- the two calls: what is refused by one is refused by the other, and what is made by one is the other's differences modulo ten
abbrev pub OffsetIsReduced : Type 0
OffsetIsReduced = (variable : Bool) (check : ℕ) (pin natural : List ℕ) (room : ℕ)
    → offset_of_digits variable check pin natural room ≡ and_then (differences_of variable check pin natural room) (λ zs. done (offset_text (map modulo_ten zs)))

-- every number of a list lies from -9 to 9
abbrev pub NineAtMost : List ℤ → Type 0
NineAtMost [] = Unit {0}
NineAtMost (z ∷ zs) = (nat_abs z ≤ 9) × NineAtMost zs

-- every difference that the teacher's view gives lies from -9 to 9
abbrev pub DifferenceRange : Type 0
DifferenceRange = (variable : Bool) (check : ℕ) (pin natural : List ℕ) (room : ℕ) (zs : List ℤ)
    → differences_of variable check pin natural room ≡ done zs → NineAtMost zs

-- the offset digit, added to the natural digit modulo ten, gives the PIN digit
abbrev pub ModuloTen : Type 0
ModuloTen = (p q : ℕ) → p ≤ 9 → q ≤ 9 → (q + modulo_ten (difference p q)) % 10 ≡ p
