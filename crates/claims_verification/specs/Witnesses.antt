-- That the assumptions of demand 3 can be met by DAs and EAs, on both sides of the verdict: the paper's exchange as a DA or an EA, with
-- usual settings and good parity. The characters of the enciphered PIN block are each run's own.
use Rattle.std.specs.Prelude.{ℕ, ◌≡◌, List, [], ◌∷◌, ◌++◌, true, length, replicate}
use Rattle.settings.specs.Settings.{usually, restricted_to, variably}
use Rattle.responses.specs.Responses.{room_to_answer}
use Rattle.offsetting.specs.Offsetting.{part}
use Rattle.texts.specs.Characters.{printed}
use Rattle.claims_blocks.specs.Figures.{usual_account}
use Rattle.claims_offsets.specs.Figures.{table_p9, enciphered_p9, validation_p12}
use Rattle.claims_commands.specs.Runs.{Verifying, terminal, zone}
use Rattle.claims_commands.specs.Cores.{command_of}
use Rattle.claims_commands.specs.Witnesses.{zero_key, Run, run_p9, run_p10, run_other}
use Rattle.claims_verification.specs.Calls.{Call, answer, ReachesVerdict}
use Rattle.claims_verification.specs.Verdicts.{response_for}
use Rattle.claims_verification.specs.Told.{defined, Alike}

-- ---- the command

-- `HDR1` and the code
abbrev pub front_for : Verifying → List ℕ
front_for terminal = printed "HDR1DA"
front_for zone = printed "HDR1EA"

-- two keys, `12`, the enciphered PIN block's characters, format, check length `04`, account, table, validation data, offset
abbrev pub command : Verifying → List ℕ → List ℕ → List ℕ → List ℕ
command w sealed format offset =
    front_for w ++ (zero_key ++ (zero_key ++ (printed "12" ++ (sealed ++ (format ++ (printed "04" ++ (usual_account ++ (table_p9 ++ (validation_p12 ++ offset)))))))))

-- a run of it
abbrev pub call : Verifying → List ℕ → List ℕ → Run → Call
call w format offset a =
    record { command = command w a.sealed format offset; pin_key_good = true; pvk_good = true; block = a.block; enciphered = a.enciphered; room = room_to_answer }

-- in format 01
abbrev pub in01 : Verifying → List ℕ → Run → Call
in01 w offset a = call w (printed "01") offset a

-- P9's offset over four digits, and one that none of these runs has
abbrev pub offset_p9 : List ℕ
offset_p9 = printed "9247FFFFFFFF"

abbrev pub no_offset : List ℕ
no_offset = printed "9249FFFFFFFF"

-- PIN 112447 against natural 953200: of its six differences the last four are P9's
abbrev pub run_six : Run
run_six = record {
  sealed = replicate 16 0x46;
  block = 0x06 ∷ 0x11 ∷ 0x64 ∷ 0x47 ∷ 0xFF ∷ 0xED ∷ 0xCB ∷ 0xA9 ∷ [];
  enciphered = enciphered_p9;
}

-- PIN 34567 in format 03, as P5 has it
abbrev pub run_p5 : Run
run_p5 = record { sealed = replicate 16 0x30; block = 0x34 ∷ 0x56 ∷ 0x7F ∷ 0xFF ∷ 0xFF ∷ 0xFF ∷ 0xFF ∷ 0xFF ∷ []; enciphered = enciphered_p9 }

-- ---- what is claimed

-- two runs that are compared, whose commands are alike outside the PIN block, and whose PINs are not the same
pub record Meets (w : Verifying) (offset : List ℕ) (a b : Run) : Type 0 where
  pub first : ReachesVerdict w usually (in01 w offset a)
  pub second : ReachesVerdict w usually (in01 w offset b)
  pub alike : Alike first second
  pub apart : first.finds.found.0 ≡ second.finds.found.0 → ⊥

-- their numbers
abbrev pub Numbers : Verifying → List ℕ → Run → Run → ℕ → ℕ → Type 0
Numbers w offset a b m n = ((answer usually (in01 w offset a)).number ≡ m) × ((answer usually (in01 w offset b)).number ≡ n)

-- the differences agree, and both are 00, or both are 01
abbrev pub BothVerified : Type 0
BothVerified = (w : Verifying) → (met : Meets w offset_p9 run_p9 run_p10) × (defined met.first ≡ defined met.second) × Numbers w offset_p9 run_p9 run_p10 0 0

abbrev pub NeitherVerified : Type 0
NeitherVerified = (w : Verifying) → (met : Meets w no_offset run_p9 run_p10) × (defined met.first ≡ defined met.second) × Numbers w no_offset run_p9 run_p10 1 1

-- the PINs have five and six digits, the differences agree over the four that are covered, and the runs answer alike
abbrev pub OtherLengths : Type 0
OtherLengths = (w : Verifying) → (met : Meets w offset_p9 run_p9 run_six)
    × (length met.first.finds.found.0 ≡ 5) × (length met.second.finds.found.0 ≡ 6)
    × (defined met.first ≡ defined met.second) × (answer usually (in01 w offset_p9 run_p9) ≡ answer usually (in01 w offset_p9 run_six))

-- the differences do not agree: one is 00, one 01
abbrev pub OneVerified : Type 0
OneVerified = (w : Verifying) → (met : Meets w offset_p9 run_p9 run_other) × (defined met.first ≡ defined met.second → ⊥) × Numbers w offset_p9 run_p9 run_other 0 1

-- the differences do not agree, and both are 01: which they are is not told
abbrev pub UnlikeUnverified : Type 0
UnlikeUnverified = (w : Verifying) → (met : Meets w no_offset run_p9 run_other) × (defined met.first ≡ defined met.second → ⊥) × Numbers w no_offset run_p9 run_other 1 1

-- with variable length all five digits are compared, whatever the check length
abbrev pub VariableRuns : Type 0
VariableRuns = (w : Verifying)
    → ((answer (variably usually true) (in01 w (printed "49247FFFFFFF") run_p9)).number ≡ 0) × ((answer (variably usually true) (in01 w (printed "49247FFFFFFF") run_p10)).number ≡ 0)

-- five digits where four are covered are not cut to these: P9's four and one more are 81
abbrev pub LongOffset : Type 0
LongOffset = (w : Verifying) → (answer usually (in01 w (printed "92477FFFFFFF") run_p9)).number ≡ 81

-- under restricted formats too a block of format 03 is compared, which BK answers with 69
abbrev pub RestrictedRun : Type 0
RestrictedRun = (w : Verifying) → (answer (restricted_to usually true) (call w (printed "03") offset_p9 run_p5)).number ≡ 0

-- ---- the exchange that the paper prints, gone on with

-- the command of "Run, not proved", with P2 and P9's blocks
abbrev pub paper_call : Call
paper_call = record { command = command_of usual_account; pin_key_good = true; pvk_good = true; block = run_p9.block; enciphered = run_p9.enciphered; room = room_to_answer }

-- where field 10 has what BK answers behind `HDR1BL00`, the answer is `HDR1DB00` or `HDR1EB00`; where it has another offset, `HDR1DB01` or
-- `HDR1EB01`
abbrev pub PapersVerification : Type 0
PapersVerification = (w : Verifying)
    → (answer usually (in01 w (part (answer usually paper_call).written 8 12) run_p9) ≡ record { number = 0; written = printed "HDR1" ++ (response_for w ++ printed "00") })
    × (answer usually (in01 w no_offset run_p9) ≡ record { number = 1; written = printed "HDR1" ++ (response_for w ++ printed "01") })

-- all of them
abbrev pub VerdictsMet : Type 0
VerdictsMet = BothVerified × NeitherVerified × OtherLengths × OneVerified × UnlikeUnverified × VariableRuns × LongOffset × RestrictedRun × PapersVerification
