-- What a class meets that has other keys than the terminal: the first exchange with a key changed, or both. Numbers and bytes are
-- literals.
use Rattle.std.specs.Prelude.{ℕ, ◌≡◌, List, [], ◌∷◌, map, replicate}
use Rattle.numbers.specs.Promise.{Said}
use Rattle.settings.specs.Settings.{usually}
use Rattle.texts.specs.Characters.{printed}
use Rattle.claims_lab.specs.Told.{LabCall, lab_answer}
use Rattle.claims_lab.specs.Witnesses.{pin_key_of_16, pvk_of_16, pin_key_of_24, run}

-- the first run's command, with two keys
abbrev pub under : List ℕ → List ℕ → LabCall
under pin_key pvk = run (printed "A6C27D9717227471") pin_key pvk

-- 00 for the 01 at the beginning of the PIN key, and 99 for the 98 at the end of the PVK: an even number of ones
abbrev pub even_pin_key : List ℕ
even_pin_key = 0x00 ∷ 0x23 ∷ 0x45 ∷ 0x67 ∷ 0x89 ∷ 0xAB ∷ 0xCD ∷ 0xEF ∷ 0xFE ∷ 0xDC ∷ 0xBA ∷ 0x98 ∷ 0x76 ∷ 0x54 ∷ 0x32 ∷ 0x10 ∷ []

abbrev pub even_pvk : List ℕ
even_pvk = 0x89 ∷ 0xAB ∷ 0xCD ∷ 0xEF ∷ 0x01 ∷ 0x23 ∷ 0x45 ∷ 0x67 ∷ 0x76 ∷ 0x54 ∷ 0x32 ∷ 0x10 ∷ 0xFE ∷ 0xDC ∷ 0xBA ∷ 0x99 ∷ []

-- the first eight bytes of the PIN key, of good parity
abbrev pub key_of_8 : List ℕ
key_of_8 = 0x01 ∷ 0x23 ∷ 0x45 ∷ 0x67 ∷ 0x89 ∷ 0xAB ∷ 0xCD ∷ 0xEF ∷ []

-- a run, and what must be said to it
pub record Row : Type 0 where
  pub call : LabCall
  pub number : ℕ
  pub response : List ℕ

-- what stands in a row
abbrev pub sayings : List Row → List (Said ℕ)
sayings rows = map (λ row. record { number = row.number; written = row.response }) rows

abbrev pub rows : List Row
rows =
    record { call = under even_pin_key pvk_of_16; number = 10; response = printed "HDR1BL10" } ∷
    record { call = under pin_key_of_16 even_pvk; number = 11; response = printed "HDR1BL11" } ∷
    record { call = under even_pin_key even_pvk; number = 10; response = printed "HDR1BL10" } ∷
    record { call = under pin_key_of_24 pvk_of_16; number = 20; response = printed "HDR1BL20" } ∷
    record { call = under key_of_8 pvk_of_16; number = 15; response = printed "HDR1BL15" } ∷
    record { call = under pin_key_of_16 key_of_8; number = 15; response = printed "HDR1BL15" } ∷
    record { call = under (replicate 20 0) even_pvk; number = 15; response = printed "HDR1BL15" } ∷
    record { call = under even_pin_key (replicate 9 0); number = 15; response = printed "HDR1BL15" } ∷
    []

-- computed, row by row
abbrev pub LabRefusals : Type 0
LabRefusals = map (λ row. lab_answer usually row.call) rows ≡ sayings rows
