-- A PIN that was sealed under the PIN key comes out of it.
use Rattle.std.specs.Prelude.{ℕ, ◌≡◌, List, length}
use Rattle.numbers.specs.Numbers.{done}
use Rattle.settings.specs.declared.Settings.{Settings}
use Rattle.commands.specs.Commands.{asked, extracted, answered, replying}
use Rattle.parity.specs.Parity.{odd_parity}
use Rattle.ciphers.specs.Ciphers.{triple_block}
use Rattle.ciphers.specs.declared.Way.TheVariants.{Encipher}
use Rattle.lab.specs.Lab.{clear_block, lab_answered, lab_replying}
use Rattle.claims_blocks.specs.Claims.{IsBytes}
use Rattle.claims_lab.specs.Product.{IsLabKey}

-- a command whose PIN block field has a block of eight bytes, enciphered under a lab key
pub record SealedUnder (settings : Settings) (s pin_key block : List ℕ) : Type 0 where
  pub key : IsLabKey pin_key
  pub long : length block ≡ 8
  pub bytes : IsBytes block
  pub sealed : extracted settings s 16 ≡ done (triple_block Encipher pin_key block)

-- "Deciphering undoes enciphering for every key": under that one the deciphered block is the one that was sealed
abbrev pub SealedOpens : Type 0
SealedOpens = (settings : Settings) (s pin_key block : List ℕ) → SealedUnder settings s pin_key block → clear_block settings s pin_key ≡ block

-- so the product answers as the core does at that block, place and field too
abbrev pub SealedAnswers : Type 0
SealedAnswers = (settings : Settings) (s pin_key pvk v block : List ℕ) (room : ℕ) → SealedUnder settings s pin_key block → IsLabKey pvk → asked settings s 8 ≡ done v
    → (lab_answered settings s pin_key pvk room ≡ answered settings (odd_parity pin_key) (odd_parity pvk) s block (triple_block Encipher pvk v) room)
    × (lab_replying settings s pin_key pvk room ≡ replying settings (odd_parity pin_key) (odd_parity pvk) s block (triple_block Encipher pvk v) room)
