-- The lab's answering call: "a product above the core" that "takes clear lab keys, so parity answers 10 and 11 become its own". It has
-- the core's definitions of its three calls and no other.
use Rattle.std.specs.Prelude.{ℕ, List, [], cond, Option, Some, None}
use Rattle.numbers.specs.Numbers.{Outcome, done, refused}
use Rattle.numbers.specs.Promise.{Said}
use Rattle.settings.specs.declared.Settings.{Settings}
use Rattle.fields.specs.Fields.{Ruling}
use Rattle.commands.specs.Commands.{room_to_ask, room_to_extract, asked, extracted, answered, replying}
use Rattle.parity.specs.Parity.{odd_parity}
use Rattle.ciphers.specs.Ciphers.{is_lab_key, triple_block}
use Rattle.ciphers.specs.declared.Way.{Way}
use Rattle.ciphers.specs.declared.Way.TheVariants.{Encipher, Decipher}

-- what a lab key makes of a block. "15 for a lab key of neither length, before 10 and 11": such a key makes nothing, which is a slice
-- that is not 8 bytes, and that is what the core answers to one
abbrev pub made_of : Way → List ℕ → List ℕ → List ℕ
made_of way key block = cond (is_lab_key key) (triple_block way key block) []

-- the bytes of what was made, of which nothing has none
abbrev pub bytes_of : Option (List ℕ) → List ℕ
bytes_of (Some bytes) = bytes
bytes_of None = []

-- of what a call of the core hands out; a command that it refuses is refused by the answering call before any slice is looked at
abbrev pub made_of_written : Way → List ℕ → Outcome (List ℕ) → List ℕ
made_of_written way key (done block) = made_of way key block
made_of_written way key (refused q) = []

-- the PIN block, deciphered under the PIN key
abbrev pub clear_block : Settings → List ℕ → List ℕ → List ℕ
clear_block settings s pin_key = made_of_written Decipher pin_key (extracted settings s room_to_extract)

-- the validation block, enciphered under the PVK
abbrev pub validation_cipher : Settings → List ℕ → List ℕ → List ℕ
validation_cipher settings s pvk = made_of_written Encipher pvk (asked settings s room_to_ask)

-- the core's answering call at these two and at the parities of the lab's own keys
unfoldable pub lab_answered : Settings → List ℕ → List ℕ → List ℕ → ℕ → Said ℕ
lab_answered settings s pin_key pvk room =
    answered settings (odd_parity pin_key) (odd_parity pvk) s (clear_block settings s pin_key) (validation_cipher settings s pvk) room

-- the same with its fault
unfoldable pub lab_replying : Settings → List ℕ → List ℕ → List ℕ → ℕ → Ruling (List ℕ)
lab_replying settings s pin_key pvk room =
    replying settings (odd_parity pin_key) (odd_parity pvk) s (clear_block settings s pin_key) (validation_cipher settings s pvk) room
