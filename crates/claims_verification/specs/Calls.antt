-- A call of the answering call for a DA or an EA: what it is handed, what it says, and how far it gets.
use Rattle.std.specs.Prelude.{ℕ, ◌≡◌, List, Bool, length}
use Rattle.numbers.specs.Numbers.{done}
use Rattle.numbers.specs.Promise.{Said}
use Rattle.settings.specs.declared.Settings.{Settings}
use Rattle.ibm3624.specs.Ibm3624 as offset
use Rattle.offsettexts.specs.OffsetTexts.{digit_end}
use Rattle.offsetting.specs.Offsetting.{part}
use Rattle.keybox.specs.KeyBox as keybox
use Rattle.verifyfields.specs.VerifyFields.{verify_fields}
use Rattle.verifyfields.specs.declared.Verification.{Verification}
use Rattle.commands.specs.Commands.{answered}
use Rattle.claims_commands.specs.Runs.{Reached, Verifying, code_for, key_for, FindsPin}

-- "The answering call takes the command again, the deciphered PIN block, the enciphered validation block, two parity answers from the
-- key box"; and how much room it is lent
pub record Call : Type 0 where
  pub command : List ℕ
  pub pin_key_good : Bool
  pub pvk_good : Bool
  pub block : List ℕ
  pub enciphered : List ℕ
  pub room : ℕ

-- what is said to it
abbrev pub answer : Settings → Call → Said ℕ
answer settings a = answered settings a.pin_key_good a.pvk_good a.command a.block a.enciphered a.room

-- it is not refused before its block is looked at
abbrev pub Reaches : Verifying → Settings → Call → Type 0
Reaches w settings a =
    Reached (code_for w) (verify_fields (key_for w)) (keybox.boxed (length a.command) a.pin_key_good a.pvk_good a.block a.enciphered) settings.header a.room a.command

-- nor before its PIN is found
abbrev pub Finds : Verifying → Settings → Call → Type 0
Finds w settings a = FindsPin w settings a.pin_key_good a.pvk_good a.room a.command a.block a.enciphered

-- field 10, the offset that is presented: the twelve characters at its place
abbrev pub shown_in : List ℕ → Verification → List ℕ
shown_in s v = part s v.offset 12

-- it gets as far as comparing: its PIN is found, m digits are covered, and field 10 has m digits
pub record ReachesVerdict (w : Verifying) (settings : Settings) (a : Call) : Type 0 where
  pub finds : Finds w settings a
  pub m : ℕ
  pub covered : offset.covers settings.variable finds.reaches.fields.offsetting.check (length finds.found.0) ≡ done m
  pub digits : digit_end (shown_in a.command finds.reaches.fields) ≡ m
