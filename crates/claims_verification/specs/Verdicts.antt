-- Demand 2, of DA and EA: "The verdict is 00 exactly when the offset is the one defined above, otherwise 01", over the bytes of a command
-- and of its response.
use Rattle.std.specs.Prelude.{ℕ, ◌<◌, ◌≡◌, ◌↔◌, List, [], ◌∷◌, ◌++◌, Bool, true, false, length, take, drop}
use Rattle.numbers.specs.Numbers.{done}
use Rattle.numbers.specs.Promise.{Said}
use Rattle.settings.specs.Settings.{restricted_to}
use Rattle.settings.specs.declared.Settings.{Settings}
use Rattle.ibm3624.specs.Ibm3624.{covers, offset_of}
use Rattle.offsettexts.specs.OffsetTexts.{offset_text, digit_end}
use Rattle.verifyfields.specs.declared.Verification.{Verification}
use Rattle.commands.specs.Commands.{asked, answered}
use Rattle.texts.specs.Characters.{printed}
use Rattle.claims_blocks.specs.Promises.{listed}
use Rattle.claims_commands.specs.Runs.{code_in, Verifying, terminal, zone, code_for}
use Rattle.claims_verification.specs.Calls.{Call, answer, Finds, shown_in, ReachesVerdict}

-- ---- the number

-- "an offset without exactly m digits is 81. The verdict is 00 exactly when the offset is the one defined above, otherwise 01"
abbrev pub Judges : ℕ → ℕ → List ℕ → List ℕ → Type 0
Judges m number shown offset =
    ((number ≡ 81) ↔ (digit_end shown ≡ m → ⊥))
    × ((number ≡ 0) ↔ (shown ≡ offset_text offset))
    × ((number ≡ 1) ↔ ((digit_end shown ≡ m) × (shown ≡ offset_text offset → ⊥)))

-- the characters of field 10 are judged by the text of the offset over the last m digits
abbrev pub CommandVerdictExactly : Type 0
CommandVerdictExactly = (w : Verifying) (settings : Settings) (a : Call) (r : Finds w settings a) (m : ℕ)
    → covers settings.variable r.reaches.fields.offsetting.check (length r.found.0) ≡ done m
    → Judges m (answer settings a).number (shown_in a.command r.reaches.fields) (offset_of m r.found.0 r.found.1)

-- "m over n" is 81
abbrev pub LongCheck81 : Type 0
LongCheck81 = (w : Verifying) (settings : Settings) (a : Call) (r : Finds w settings a)
    → settings.variable ≡ false → length r.found.0 < r.reaches.fields.offsetting.check
    → (answer settings a).number ≡ 81

-- "or n where the offset has variable length": then 81 is for field 10 alone
abbrev pub VariableVerdict : Type 0
VariableVerdict = (w : Verifying) (settings : Settings) (a : Call) (r : Finds w settings a) → settings.variable ≡ true
    → ((answer settings a).number ≡ 81) ↔ (digit_end (shown_in a.command r.reaches.fields) ≡ length r.found.0 → ⊥)

-- whom this covers: a DA or an EA finds its PIN exactly when its answer is 00, 01 or 81, and is compared exactly when it is 00 or 01
abbrev pub VerifyReadsExactly : Type 0
VerifyReadsExactly = (w : Verifying) (settings : Settings) (a : Call) → code_in settings a.command ≡ code_for w
    → (listed (answer settings a).number (0 ∷ 1 ∷ 81 ∷ []) ≡ true) ↔ Finds w settings a

abbrev pub ReachesVerdictExactly : Type 0
ReachesVerdictExactly = (w : Verifying) (settings : Settings) (a : Call) → code_in settings a.command ≡ code_for w
    → (listed (answer settings a).number (0 ∷ 1 ∷ []) ≡ true) ↔ ReachesVerdict w settings a

-- ---- the bytes

-- DA is answered DB, EA EB
abbrev pub response_for : Verifying → List ℕ
response_for terminal = printed "DB"
response_for zone = printed "EB"

-- header, response code and what stands behind it
abbrev pub saying : Verifying → ℕ → List ℕ → ℕ → List ℕ → Said ℕ
saying w header s number behind = record { number = number; written = take header s ++ (response_for w ++ behind) }

-- 00, and from its mark on the trailer
abbrev pub verified : Verifying → ℕ → List ℕ → Verification → Said ℕ
verified w header s v = saying w header s 0 (printed "00" ++ drop v.trailer s)

-- "A trailer, with its 19 mark, comes back with 00 only": behind 01 nothing is written
abbrev pub VerdictBytes : Type 0
VerdictBytes = (w : Verifying) (settings : Settings) (a : Call) (r : Finds w settings a)
    → ((answer settings a).number ≡ 0 → answer settings a ≡ verified w settings.header a.command r.reaches.fields)
    × ((answer settings a).number ≡ 1 → answer settings a ≡ saying w settings.header a.command 1 (printed "01"))

-- ---- the settings

-- the setting of restricted formats does not touch DA and EA: both calls say the same with it and without, whatever the bytes
abbrev pub RestrictedTouchesNot : Type 0
RestrictedTouchesNot = (w : Verifying) (settings : Settings) (restricted : Bool) (s : List ℕ) → code_in settings s ≡ code_for w
    → ((room : ℕ) → asked (restricted_to settings restricted) s room ≡ asked settings s room)
    × ((g h : Bool) (block enciphered : List ℕ) (room : ℕ)
    → answered (restricted_to settings restricted) g h s block enciphered room ≡ answered settings g h s block enciphered room)
