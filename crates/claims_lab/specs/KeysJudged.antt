-- "15 for a lab key of neither length, before 10 and 11": the order in which the product judges its keys, of a command that the asking
-- call takes. Numbers and lengths are literals.
use Rattle.std.specs.Prelude.{ℕ, ◌≤◌, ◌≡◌, ◌⊎◌, List, true, false, length}
use Rattle.numbers.specs.Numbers.{done, refused}
use Rattle.numbers.specs.declared.Refusal.TheVariants.{PinKeyParity10, PvkParity11, Field15}
use Rattle.settings.specs.declared.Settings.{Settings}
use Rattle.frame.specs.Frame.{opening}
use Rattle.fields.specs.declared.Fault.{Fault}
use Rattle.commands.specs.Commands.{asked}
use Rattle.parity.specs.Parity.{odd_parity}
use Rattle.lab.specs.Lab.{lab_answered, lab_replying}
use Rattle.claims_lab.specs.Product.{IsLabKey}

-- a fault decides, and the short response with its number is written: header, response code and the two digits
abbrev pub RefusedWith : ℕ → Fault → Settings → List ℕ → List ℕ → List ℕ → ℕ → Type 0
RefusedWith number f settings s pin_key pvk room =
    (lab_replying settings s pin_key pvk room ≡ refused f)
    × (lab_answered settings s pin_key pvk room ≡ record { number = number; written = opening settings.header s number })

-- ---- the lengths

abbrev pub NeitherLength : List ℕ → Type 0
NeitherLength key = (length key ≡ 16 → ⊥) × (length key ≡ 24 → ⊥)

-- 15 at the command's end, in no field
abbrev pub at_the_end : List ℕ → Fault
at_the_end s = record { refusal = Field15; field = 0; place = length s }

-- either key, whatever both parities are
abbrev pub KeyLengthFirst : Type 0
KeyLengthFirst = (settings : Settings) (s pin_key pvk v : List ℕ) (room : ℕ) → 65 ≤ room → asked settings s 8 ≡ done v
    → NeitherLength pin_key ⊎ NeitherLength pvk
    → RefusedWith 15 (at_the_end s) settings s pin_key pvk room

-- so of 8 bytes: a key of DES alone is no lab key
abbrev pub KeyOf8 : Type 0
KeyOf8 = (settings : Settings) (s pin_key pvk v : List ℕ) (room : ℕ) → 65 ≤ room → asked settings s 8 ≡ done v
    → (length pin_key ≡ 8) ⊎ (length pvk ≡ 8)
    → RefusedWith 15 (at_the_end s) settings s pin_key pvk room

-- and of 20, between the two lengths
abbrev pub KeyOf20 : Type 0
KeyOf20 = (settings : Settings) (s pin_key pvk v : List ℕ) (room : ℕ) → 65 ≤ room → asked settings s 8 ≡ done v
    → (length pin_key ≡ 20) ⊎ (length pvk ≡ 20)
    → RefusedWith 15 (at_the_end s) settings s pin_key pvk room

-- ---- the parities

-- "parity answers 10 and 11 become its own": 10 for the PIN key's, whatever that of the PVK is, pointing at nothing
abbrev pub PinKeyParityNext : Type 0
PinKeyParityNext = (settings : Settings) (s pin_key pvk v : List ℕ) (room : ℕ) → 65 ≤ room → asked settings s 8 ≡ done v
    → IsLabKey pin_key → IsLabKey pvk → odd_parity pin_key ≡ false
    → RefusedWith 10 (record { refusal = PinKeyParity10; field = 0; place = 0 }) settings s pin_key pvk room

-- then 11 for the PVK's
abbrev pub PvkParityNext : Type 0
PvkParityNext = (settings : Settings) (s pin_key pvk v : List ℕ) (room : ℕ) → 65 ≤ room → asked settings s 8 ≡ done v
    → IsLabKey pin_key → IsLabKey pvk → odd_parity pin_key ≡ true → odd_parity pvk ≡ false
    → RefusedWith 11 (record { refusal = PvkParity11; field = 0; place = 0 }) settings s pin_key pvk room
