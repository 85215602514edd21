-- Demand 3, of the exported call that answers with two lab keys, by its contract. Each return has keys of its own; what is told of two
-- returns is what it was of the core's call.
use Rattle.std.specs.Prelude.{ℕ, ◌≡◌, ◌↔◌, List, [], ◌∷◌, true, length, take}
use contract.Lifetimes.{Lfts}
use denote.Triple.Entry.{Args, Res}
use denote.Triple.Clauses.{Lasts, at_exit}
use Rattle.settings.specs.declared.Settings.{Settings}
use Rattle.frame.specs.declared.Code.TheVariants.{Bk}
use Rattle.fields.specs.Fields.{nowhere}
use Rattle.face.specs.Face.{settings_of, pointer_in}
use Rattle.quillgimlet.proofs as Face
use Rattle.quillgimlet.specs.contracts as FaceSays
use Rattle.claims_blocks.specs.Promises.{listed}
use Rattle.claims_commands.specs.Runs.{code_in, Verifying, code_for}
use Rattle.claims_commands.specs.Claims.{Tells, read_numbers}
use Rattle.claims_verification.specs.Told.{Alike, SameVerdict}
use Rattle.claims_lab.specs.Told.{LabCall, LabReads, LabReachesVerdict}

-- a return of `qg_lab_answer` that its contract allows
pub record LabReturn : Type 0 where
  pub lifetimes : Lfts (FaceSays.qg_lab_answer.ended).signature.lifetimes
  pub arguments : Args (FaceSays.qg_lab_answer.ended).signature lifetimes
  pub reply : Res (FaceSays.qg_lab_answer.ended).signature lifetimes
  pub ends : Lasts FaceSays.qg_lab_answer.ended lifetimes arguments
  pub allowed : Face.qg_lab_answer.Reads.Learnt lifetimes arguments reply (at_exit FaceSays.qg_lab_answer.ended lifetimes arguments ends)

-- ---- the arguments, from the left

abbrev pub settings : LabReturn → Settings
settings a = settings_of a.arguments.0

abbrev pub command : LabReturn → List ℕ
command a = a.arguments.1.0.now

abbrev pub pin_key : LabReturn → List ℕ
pin_key a = a.arguments.1.1.0.now

abbrev pub pvk : LabReturn → List ℕ
pvk a = a.arguments.1.1.1.0.now

-- the lent buffer, before the call and after it
abbrev pub before : LabReturn → List ℕ
before a = a.arguments.1.1.1.1.0.now

abbrev pub after : LabReturn → List ℕ
after a = a.ends.1.1.1.1.0

-- the run that returned
abbrev pub run_of : LabReturn → LabCall
run_of a = record { command = command a; pin_key = pin_key a; pvk = pvk a; room = length (before a) }

-- ---- what is claimed

-- with 00, 01, 81 or 86 a return shows the server no place and no field
abbrev pub LabAnswersShowNothing : Type 0
LabAnswersShowNothing = (a : LabReturn) → listed a.reply.number (0 ∷ 1 ∷ 81 ∷ 86 ∷ []) ≡ true → pointer_in a.reply ≡ nowhere

-- the numbers agree, and so do the bytes that are counted, and what the server is shown beside them
abbrev pub LabAgree : LabReturn → LabReturn → Type 0
LabAgree a b = (a.reply.number ≡ b.reply.number) × (take a.reply.written (after a) ≡ take b.reply.written (after b)) × (pointer_in a.reply ≡ pointer_in b.reply)

-- any two returns of the call to BKs with 00, 81 or 86, under the same settings and whatever keys, have each reached their PIN, and
-- agree exactly when the same is told of their PINs
abbrev pub AllowedLabReturnsTellDifferences : Type 0
AllowedLabReturnsTellDifferences = (a b : LabReturn) → settings a ≡ settings b
    → code_in (settings a) (command a) ≡ Bk → code_in (settings a) (command b) ≡ Bk
    → listed a.reply.number read_numbers ≡ true → listed b.reply.number read_numbers ≡ true
    → (r : LabReads (settings a) (run_of a)) × (r' : LabReads (settings a) (run_of b))
    × Tells (settings a).variable (command a) (command b) r.reaches.fields r'.reaches.fields r.found r'.found (LabAgree a b)

-- any two returns of the call to DAs, or to EAs, with 00 or 01 were each compared; where the commands are alike outside the PIN block
-- they agree exactly when both verify or neither does
abbrev pub AllowedLabReturnsTellVerdicts : Type 0
AllowedLabReturnsTellVerdicts = (w : Verifying) (a b : LabReturn) → settings a ≡ settings b
    → code_in (settings a) (command a) ≡ code_for w → code_in (settings a) (command b) ≡ code_for w
    → listed a.reply.number (0 ∷ 1 ∷ []) ≡ true → listed b.reply.number (0 ∷ 1 ∷ []) ≡ true
    → (r : LabReachesVerdict w (settings a) (run_of a)) × (r' : LabReachesVerdict w (settings a) (run_of b)) × (Alike r r' → LabAgree a b ↔ SameVerdict r r')
