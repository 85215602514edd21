-- "Demand 3 reads as before, and the two lab keys may differ between the two runs": each law is one of the core's, at the blocks that
-- each run's own keys make.
use Rattle.std.specs.Prelude.{ℕ, ◌≡◌, ◌↔◌, List, true}
use Rattle.numbers.specs.Promise.{Said}
use Rattle.settings.specs.declared.Settings.{Settings}
use Rattle.frame.specs.declared.Code.TheVariants.{Bk}
use Rattle.parity.specs.Parity.{odd_parity}
use Rattle.lab.specs.Lab.{clear_block, validation_cipher, lab_answered}
use Rattle.claims_blocks.specs.Promises.{listed}
use Rattle.claims_commands.specs.Runs.{code_in, Reads, Verifying}
use Rattle.claims_commands.specs.Claims.{Tells, read_numbers}
use Rattle.claims_verification.specs.Calls.{Call, ReachesVerdict}
use Rattle.claims_verification.specs.Told.{defined, SameVerdict, Alike}

-- ---- a run

-- what a run of the product has of its own: the command, both keys, and how much room is lent
pub record LabCall : Type 0 where
  pub command : List ℕ
  pub pin_key : List ℕ
  pub pvk : List ℕ
  pub room : ℕ

-- what is said to it
abbrev pub lab_answer : Settings → LabCall → Said ℕ
lab_answer settings a = lab_answered settings a.command a.pin_key a.pvk a.room

-- the call of the core that it comes to: what the run's own keys make, and their parities
abbrev pub core_call : Settings → LabCall → Call
core_call settings a = record {
  command = a.command;
  pin_key_good = odd_parity a.pin_key;
  pvk_good = odd_parity a.pvk;
  block = clear_block settings a.command a.pin_key;
  enciphered = validation_cipher settings a.command a.pvk;
  room = a.room;
}

-- ---- of BK

-- a run that reaches its PIN
abbrev pub LabReads : Settings → LabCall → Type 0
LabReads settings a =
    let c = core_call settings a in
    Reads settings c.pin_key_good c.pvk_good c.room c.command c.block c.enciphered

-- whom this covers: a run of BK reaches its PIN exactly when its answer is 00, 81 or 86
abbrev pub LabReadsExactly : Type 0
LabReadsExactly = (settings : Settings) (a : LabCall) → code_in settings a.command ≡ Bk
    → (listed (lab_answer settings a).number read_numbers ≡ true) ↔ LabReads settings a

-- two runs, each under two keys of its own, answer alike exactly when both PINs are weak, or neither is and the differences agree over
-- the covered digits
abbrev pub LabOffsetsTellDifferences : Type 0
LabOffsetsTellDifferences = (settings : Settings) (a b : LabCall) (r : LabReads settings a) (r' : LabReads settings b)
    → Tells settings.variable a.command b.command r.reaches.fields r'.reaches.fields r.found r'.found
    (lab_answer settings a ≡ lab_answer settings b)

-- so do the bytes alone
abbrev pub LabBytesTellDifferences : Type 0
LabBytesTellDifferences = (settings : Settings) (a b : LabCall) (r : LabReads settings a) (r' : LabReads settings b)
    → Tells settings.variable a.command b.command r.reaches.fields r'.reaches.fields r.found r'.found
    ((lab_answer settings a).written ≡ (lab_answer settings b).written)

-- ---- of DA and EA

-- a run that reaches its verdict
abbrev pub LabReachesVerdict : Verifying → Settings → LabCall → Type 0
LabReachesVerdict w settings a = ReachesVerdict w settings (core_call settings a)

-- two runs, each under two keys of its own, answer alike where the differences agree over the covered digits
abbrev pub LabVerdictsTellNoMore : Type 0
LabVerdictsTellNoMore = (w : Verifying) (settings : Settings) (a b : LabCall) (r : LabReachesVerdict w settings a) (r' : LabReachesVerdict w settings b) → Alike r r'
    → defined r ≡ defined r'
    → lab_answer settings a ≡ lab_answer settings b

-- and exactly when both verify or neither does; so do the bytes alone
abbrev pub LabVerdictsTellOneAnswer : Type 0
LabVerdictsTellOneAnswer = (w : Verifying) (settings : Settings) (a b : LabCall) (r : LabReachesVerdict w settings a) (r' : LabReachesVerdict w settings b) → Alike r r'
    → ((lab_answer settings a ≡ lab_answer settings b) ↔ SameVerdict r r')
    × (((lab_answer settings a).written ≡ (lab_answer settings b).written) ↔ SameVerdict r r')
