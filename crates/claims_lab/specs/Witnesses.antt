-- That the assumptions of demand 3 can be met by runs under different keys, on each side of its "exactly when", and whole exchanges:
-- keys, command and response are literals. Settings are the usual ones. The keys are those of a class without a key box (lesson 10).
use Rattle.std.specs.Prelude.{ℕ, ◌≡◌, List, [], ◌∷◌, length}
use Rattle.numbers.specs.Numbers.{done}
use Rattle.settings.specs.Settings.{usually}
use Rattle.ibm3624.specs.Ibm3624.{covers}
use Rattle.texts.specs.Characters.{printed}
use Rattle.claims_commands.specs.Runs.{AlikeBut, Verifying}
use Rattle.claims_commands.specs.Witnesses.{format01, command}
use Rattle.claims_verification.specs.Told.{Alike}
use Rattle.claims_verification.specs.Witnesses as verification
use Rattle.claims_lab.specs.Told.{LabCall, lab_answer, LabReads, LabReachesVerdict}

-- ---- the keys

-- of two parts
abbrev pub pin_key_of_16 : List ℕ
pin_key_of_16 = 0x01 ∷ 0x23 ∷ 0x45 ∷ 0x67 ∷ 0x89 ∷ 0xAB ∷ 0xCD ∷ 0xEF ∷ 0xFE ∷ 0xDC ∷ 0xBA ∷ 0x98 ∷ 0x76 ∷ 0x54 ∷ 0x32 ∷ 0x10 ∷ []

abbrev pub pvk_of_16 : List ℕ
pvk_of_16 = 0x89 ∷ 0xAB ∷ 0xCD ∷ 0xEF ∷ 0x01 ∷ 0x23 ∷ 0x45 ∷ 0x67 ∷ 0x76 ∷ 0x54 ∷ 0x32 ∷ 0x10 ∷ 0xFE ∷ 0xDC ∷ 0xBA ∷ 0x98 ∷ []

-- of three parts
abbrev pub pin_key_of_24 : List ℕ
pin_key_of_24 =
    0x01 ∷ 0x23 ∷ 0x45 ∷ 0x67 ∷ 0x89 ∷ 0xAB ∷ 0xCD ∷ 0xEF ∷
    0x80 ∷ 0x80 ∷ 0x80 ∷ 0x80 ∷ 0x80 ∷ 0x80 ∷ 0x80 ∷ 0x80 ∷
    0xFE ∷ 0xDC ∷ 0xBA ∷ 0x98 ∷ 0x76 ∷ 0x54 ∷ 0x32 ∷ 0x10 ∷
    []

abbrev pub pvk_of_24 : List ℕ
pvk_of_24 =
    0x89 ∷ 0xAB ∷ 0xCD ∷ 0xEF ∷ 0x01 ∷ 0x23 ∷ 0x45 ∷ 0x67 ∷
    0x76 ∷ 0x54 ∷ 0x32 ∷ 0x10 ∷ 0xFE ∷ 0xDC ∷ 0xBA ∷ 0x98 ∷
    0xCD ∷ 0xEF ∷ 0x01 ∷ 0x23 ∷ 0x45 ∷ 0x67 ∷ 0x89 ∷ 0xAB ∷
    []

-- ---- the runs

-- the command of "Run, not proved", with the characters of a sealed PIN block
abbrev pub run : List ℕ → List ℕ → List ℕ → LabCall
run sealed pin_key pvk = record { command = command format01 sealed []; pin_key = pin_key; pvk = pvk; room = 65 }

-- PIN 34567 against natural 82931
abbrev pub first : LabCall
first = run (printed "A6C27D9717227471") pin_key_of_16 pvk_of_16

-- under both other keys, PIN 67551 against natural 15925: the differences are the first run's
abbrev pub alike : LabCall
alike = run (printed "EC75E334AE4C5666") pin_key_of_24 pvk_of_24

-- PIN 34567 against natural 15925: they are not
abbrev pub unlike : LabCall
unlike = run (printed "6EDB87624E966113") pin_key_of_24 pvk_of_24

-- ---- what is claimed

-- neither key of one run is the other run's
abbrev pub KeysApart : LabCall → LabCall → Type 0
KeysApart a b = (a.pin_key ≡ b.pin_key → ⊥) × (a.pvk ≡ b.pvk → ⊥)

-- two runs that meet the assumptions of demand 3, over four covered digits, under different keys
pub record Meets (a b : LabCall) : Type 0 where
  pub here : LabReads usually a
  pub there : LabReads usually b
  pub alike : AlikeBut here.reaches.fields.sealed.block a.command b.command
  pub long : length here.found.0 ≡ length there.found.0
  pub covered : covers usually.variable here.reaches.fields.offsetting.check (length here.found.0) ≡ done 4
  pub keys : KeysApart a b

-- under different keys two runs answer alike
abbrev pub AgreeUnderOtherKeys : Type 0
AgreeUnderOtherKeys = Meets first alike × (lab_answer usually first ≡ lab_answer usually alike)

-- or not
abbrev pub DifferUnderOtherKeys : Type 0
DifferUnderOtherKeys = Meets first unlike × (lab_answer usually first ≡ lab_answer usually unlike → ⊥)

-- ---- of DA and EA

-- the same run as a verification, of the offset that the first is answered
abbrev pub verifying : Verifying → LabCall → List ℕ → LabCall
verifying w a sealed = record { command = verification.command w sealed (printed "01") (printed "2636FFFFFFFF"); pin_key = a.pin_key; pvk = a.pvk; room = 65 }

abbrev pub first_verified : Verifying → LabCall
first_verified w = verifying w first (printed "A6C27D9717227471")

abbrev pub alike_verified : Verifying → LabCall
alike_verified w = verifying w alike (printed "EC75E334AE4C5666")

abbrev pub unlike_verified : Verifying → LabCall
unlike_verified w = verifying w unlike (printed "6EDB87624E966113")

-- two runs that are compared, under different keys, and their numbers
pub record Compared (w : Verifying) (a b : LabCall) (m n : ℕ) : Type 0 where
  pub here : LabReachesVerdict w usually a
  pub there : LabReachesVerdict w usually b
  pub alike : Alike here there
  pub keys : KeysApart a b
  pub number : (lab_answer usually a).number ≡ m
  pub number' : (lab_answer usually b).number ≡ n

-- both are 00, or one is 01
abbrev pub VerdictsUnderOtherKeys : Type 0
VerdictsUnderOtherKeys = (w : Verifying) → Compared w (first_verified w) (alike_verified w) 0 0 × Compared w (first_verified w) (unlike_verified w) 0 1

-- ---- whole exchanges

-- header, response code, 00 and the offset
abbrev pub LabExchange : Type 0
LabExchange =
    (lab_answer usually first ≡ record { number = 0; written = printed "HDR1BL002636FFFFFFFF" })
    × (lab_answer usually alike ≡ record { number = 0; written = printed "HDR1BL002636FFFFFFFF" })
    × (lab_answer usually unlike ≡ record { number = 0; written = printed "HDR1BL009642FFFFFFFF" })
