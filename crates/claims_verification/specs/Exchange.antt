-- A whole exchange: the offset that BK answers verifies the same PIN in DA and EA.
use Rattle.std.specs.Prelude.{ℕ, ◌+◌, ◌≡◌, List}
use Rattle.settings.specs.declared.Settings.{Settings}
use Rattle.offsetting.specs.Offsetting.{part}
use Rattle.offsetting.specs.declared.Offsetting.{Offsetting}
use Rattle.claims_commands.specs.Runs.{Verifying, Reads}
use Rattle.claims_verification.specs.Calls.{Call, answer, Finds, shown_in}
use Rattle.claims_verification.specs.Verdicts.{verified}

-- a BK whose PIN is read
abbrev pub ReadsBk : Settings → Call → Type 0
ReadsBk settings a = Reads settings a.pin_key_good a.pvk_good a.room a.command a.block a.enciphered

-- the check length and the sixteen characters of the table are the same. An account is used only to read the block and to make the
-- validation block, so where PIN and enciphered block are the same it is not asked for
abbrev pub SameInputs : List ℕ → List ℕ → Offsetting → Offsetting → Type 0
SameInputs s t o o' = (o.check ≡ o'.check) × (part s o.table 16 ≡ part t o'.table 16)

-- a BK is answered 00, and a DA or an EA has the same PIN, whatever the formats and the keys, the same enciphered block, and in field 10
-- the twelve characters behind the number of BK's response: it is answered 00
abbrev pub OffsetOfBkVerifies : Type 0
OffsetOfBkVerifies = (w : Verifying) (x y : Settings) (a b : Call) (r : ReadsBk x a) (r' : Finds w y b) → x.variable ≡ y.variable
    → (answer x a).number ≡ 0
    → r.found.0 ≡ r'.found.0 → a.enciphered ≡ b.enciphered → SameInputs a.command b.command r.reaches.fields.offsetting r'.reaches.fields.offsetting
    → shown_in b.command r'.reaches.fields ≡ part (answer x a).written (x.header + 4) 12
    → answer y b ≡ verified w y.header b.command r'.reaches.fields
