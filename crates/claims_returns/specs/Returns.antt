-- Demand 3, of the exported answering call by its contract: the arguments, the answer and the ending of a call as a caller's proof reads
-- them. What the modules `ended` and `Reads.Learnt` of a function are stands in claims_functions, specs/Once.antt.
use Rattle.std.specs.Prelude.{ℕ, ◌≡◌, ◌↔◌, List, [], ◌∷◌, Bool, true, length, take}
use contract.Lifetimes.{Lfts}
use denote.Triple.Entry.{Args, Res}
use denote.Triple.Clauses.{Lasts, at_exit}
use Rattle.settings.specs.declared.Settings.{Settings}
use Rattle.frame.specs.declared.Code.TheVariants.{Bk}
use Rattle.fields.specs.Fields.{nowhere}
use Rattle.face.specs.Face.{settings_of, yes?, pointer_in}
use Rattle.quillgimlet.proofs as Face
use Rattle.quillgimlet.specs.contracts as FaceSays
use Rattle.claims_blocks.specs.Promises.{listed}
use Rattle.claims_commands.specs.Runs.{code_in, Reads, Verifying, code_for}
use Rattle.claims_commands.specs.Claims.{Tells, read_numbers}
use Rattle.claims_verification.specs.Calls.{Call, ReachesVerdict}
use Rattle.claims_verification.specs.Told.{Alike, SameVerdict}

-- a return of `qg_answer` that its contract allows: the arguments, the answer, and what each lent buffer holds at exit
pub record Return : Type 0 where
  pub lifetimes : Lfts (FaceSays.qg_answer.ended).signature.lifetimes
  pub arguments : Args (FaceSays.qg_answer.ended).signature lifetimes
  pub reply : Res (FaceSays.qg_answer.ended).signature lifetimes
  pub ends : Lasts FaceSays.qg_answer.ended lifetimes arguments
  pub allowed : Face.qg_answer.Reads.Learnt lifetimes arguments reply (at_exit FaceSays.qg_answer.ended lifetimes arguments ends)

-- ---- the arguments, from the left

abbrev pub settings : Return → Settings
settings a = settings_of a.arguments.0

abbrev pub pin_key_good : Return → Bool
pin_key_good a = yes? a.arguments.1.0

abbrev pub pvk_good : Return → Bool
pvk_good a = yes? a.arguments.1.1.0

abbrev pub command : Return → List ℕ
command a = a.arguments.1.1.1.0.now

abbrev pub block : Return → List ℕ
block a = a.arguments.1.1.1.1.0.now

abbrev pub enciphered : Return → List ℕ
enciphered a = a.arguments.1.1.1.1.1.0.now

-- the lent buffer, before the call and after it
abbrev pub before : Return → List ℕ
before a = a.arguments.1.1.1.1.1.1.0.now

abbrev pub after : Return → List ℕ
after a = a.ends.1.1.1.1.1.1.0

-- ---- what is claimed

-- the command is a BK
abbrev pub IsBk : Return → Type 0
IsBk a = code_in (settings a) (command a) ≡ Bk

-- 00, 81 or 86
abbrev pub Answers : Return → Type 0
Answers a = listed a.reply.number read_numbers ≡ true

-- its PIN is read
abbrev pub ReadsPin : Return → Type 0
ReadsPin a = Reads (settings a) (pin_key_good a) (pvk_good a) (length (before a)) (command a) (block a) (enciphered a)

-- with 00, 01, 81 or 86 a return shows the server no place and no field. So these two members of the reply, which §4 of document 02
-- adds, agree in any two such returns: they tell no more of a PIN than number and bytes do
abbrev pub AnswersShowNothing : Type 0
AnswersShowNothing = (a : Return) → listed a.reply.number (0 ∷ 1 ∷ 81 ∷ 86 ∷ []) ≡ true → pointer_in a.reply ≡ nowhere

-- the numbers agree, and so do the bytes that are counted, and what the server is shown beside them
abbrev pub Agree : Return → Return → Type 0
Agree a b = (a.reply.number ≡ b.reply.number) × (take a.reply.written (after a) ≡ take b.reply.written (after b)) × (pointer_in a.reply ≡ pointer_in b.reply)

-- any two returns of the call to BKs with 00, 81 or 86, under the same settings, have each read their PIN, and agree exactly when the
-- same is told of their PINs. With these numbers the parities are good
abbrev pub AllowedReturnsTellDifferences : Type 0
AllowedReturnsTellDifferences = (a b : Return) → settings a ≡ settings b → IsBk a → IsBk b → Answers a → Answers b
    → (r : ReadsPin a) × (r' : ReadsPin b)
    × Tells (settings a).variable (command a) (command b) r.reaches.fields r'.reaches.fields r.found r'.found (Agree a b)

-- ---- of DA and EA

-- the call that returned
abbrev pub call_of : Return → Call
call_of a = record { command = command a; pin_key_good = pin_key_good a; pvk_good = pvk_good a; block = block a; enciphered = enciphered a; room = length (before a) }

-- any two returns of the call to DAs, or to EAs, with 00 or 01, under the same settings, were each compared; where the commands are alike
-- outside the PIN block they agree exactly when both verify or neither does
abbrev pub AllowedReturnsTellVerdicts : Type 0
AllowedReturnsTellVerdicts = (w : Verifying) (a b : Return) → settings a ≡ settings b
    → code_in (settings a) (command a) ≡ code_for w → code_in (settings a) (command b) ≡ code_for w
    → listed a.reply.number (0 ∷ 1 ∷ []) ≡ true → listed b.reply.number (0 ∷ 1 ∷ []) ≡ true
    → (r : ReachesVerdict w (settings a) (call_of a)) × (r' : ReachesVerdict w (settings a) (call_of b)) × (Alike r r' → Agree a b ↔ SameVerdict r r')
