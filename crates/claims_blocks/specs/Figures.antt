-- What the figures from the bench are given: the account 400000123456 and the PIN 34567, "unless said". The figures are
-- claims_figures'; one of them stands here over every account.
use Rattle.std.specs.Prelude.{ℕ, ◌≤◌, ◌≡◌, List, [], ◌∷◌, length}
use Rattle.numbers.specs.Numbers.{done, refused}
use Rattle.numbers.specs.declared.Refusal.TheVariants.{Length24}
use Rattle.pins.specs.Pins.{account_of}
use Rattle.blockcalls.specs.BlockCalls.{read_block}

abbrev pub usual_account : List ℕ
usual_account = 0x34 ∷ 0x30 ∷ 0x30 ∷ 0x30 ∷ 0x30 ∷ 0x30 ∷ 0x31 ∷ 0x32 ∷ 0x33 ∷ 0x34 ∷ 0x35 ∷ 0x36 ∷ []

abbrev pub usual_pin : List ℕ
usual_pin = 3 ∷ 4 ∷ 5 ∷ 6 ∷ 7 ∷ []

-- the PIN of P6
abbrev pub long_pin : List ℕ
long_pin = 1 ∷ 2 ∷ 3 ∷ 4 ∷ 5 ∷ 6 ∷ 7 ∷ 8 ∷ 9 ∷ 0 ∷ 1 ∷ 2 ∷ []

abbrev pub block_p1 : List ℕ
block_p1 = 0x25 ∷ 0x34 ∷ 0x16 ∷ 0x7F ∷ 0xFF ∷ 0xED ∷ 0xCB ∷ 0xA9 ∷ []

abbrev pub block_p6 : List ℕ
block_p6 = 0x2C ∷ 0x12 ∷ 0x34 ∷ 0x56 ∷ 0x78 ∷ 0x90 ∷ 0x12 ∷ 0xFF ∷ []

-- P7 once more, whatever follows and whatever the account: every block of format 34 that begins 2D is 24
abbrev pub Begins2D : Type 0
Begins2D = (rest account digits : List ℕ) (room : ℕ) → length rest ≡ 7 → account_of account ≡ done digits → 12 ≤ room
    → read_block 34 (0x2D ∷ rest) account room ≡ refused Length24
