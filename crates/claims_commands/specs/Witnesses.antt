-- That the assumptions of demand 3 can be met, on each side of its "exactly when": runs of the command of "Run, not proved", with usual
-- settings, restricted or not, or with offsets of variable length, and good parity. The characters of the enciphered PIN block are the
-- second run's own.
use Rattle.std.specs.Prelude.{ℕ, ◌≡◌, List, [], ◌∷◌, ◌++◌, Bool, true, false, length, replicate}
use Rattle.numbers.specs.Numbers.{done}
use Rattle.numbers.specs.Promise.{Said}
use Rattle.settings.specs.Settings.{usually, restricted_to, variably}
use Rattle.settings.specs.declared.Settings.{Settings}
use Rattle.ibm3624.specs.Ibm3624.{covers, offset_of}
use Rattle.responses.specs.Responses.{room_to_answer}
use Rattle.commands.specs.Commands.{answered}
use Rattle.claims_blocks.specs.Figures.{usual_account}
use Rattle.claims_offsets.specs.Figures.{block_p2, table_p9, enciphered_p9, validation_p12}
use Rattle.claims_commands.specs.Runs.{AlikeBut, Reads}

-- ---- the command

-- `HDR1BK001`
abbrev pub front : List ℕ
front = 0x48 ∷ 0x44 ∷ 0x52 ∷ 0x31 ∷ 0x42 ∷ 0x4B ∷ 0x30 ∷ 0x30 ∷ 0x31 ∷ []

-- `U` and 32 zeros
abbrev pub zero_key : List ℕ
zero_key = 0x55 ∷ replicate 32 0x30

-- a format's two digits: `01`, `34`
abbrev pub format01 : List ℕ
format01 = 0x30 ∷ 0x31 ∷ []

abbrev pub format34 : List ℕ
format34 = 0x33 ∷ 0x34 ∷ []

-- `04`
abbrev pub check04 : List ℕ
check04 = 0x30 ∷ 0x34 ∷ []

-- from the format, the enciphered PIN block's characters and the weak list
abbrev pub command : List ℕ → List ℕ → List ℕ → List ℕ
command format sealed weak = front ++ (zero_key ++ (zero_key ++ (sealed ++ (format ++ (check04 ++ (usual_account ++ (table_p9 ++ (validation_p12 ++ weak))))))))

-- ---- the runs

-- what a run has of its own: the block's characters, the deciphered block and the enciphered validation block
pub record Run : Type 0 where
  pub sealed : List ℕ
  pub block : List ℕ
  pub enciphered : List ℕ

-- PIN 34567 against natural 95320, as P2 and P9 have them
abbrev pub run_p9 : Run
run_p9 = record { sealed = replicate 16 0x30; block = block_p2; enciphered = enciphered_p9 }

-- PIN 45678 against natural 06431, as P10 has them
abbrev pub run_p10 : Run
run_p10 = record {
  sealed = replicate 16 0x46;
  block = 0x05 ∷ 0x45 ∷ 0x27 ∷ 0x8F ∷ 0xFF ∷ 0xED ∷ 0xCB ∷ 0xA9 ∷ [];
  enciphered = 0xA6 ∷ 0x4D ∷ 0xB0 ∷ 0x00 ∷ 0x00 ∷ 0x00 ∷ 0x00 ∷ 0x00 ∷ [];
}

-- PIN 34568 against natural 95320: one digit more than run_p9
abbrev pub run_other : Run
run_other = record {
  sealed = replicate 16 0x46;
  block = 0x05 ∷ 0x34 ∷ 0x16 ∷ 0x8F ∷ 0xFF ∷ 0xED ∷ 0xCB ∷ 0xA9 ∷ [];
  enciphered = enciphered_p9;
}

-- PIN 45678 against natural 16431: of the five differences of run_p9, all but the first
abbrev pub run_last_four : Run
run_last_four = record {
  sealed = run_p10.sealed;
  block = run_p10.block;
  enciphered = 0x16 ∷ 0x4D ∷ 0xB0 ∷ 0x00 ∷ 0x00 ∷ 0x00 ∷ 0x00 ∷ 0x00 ∷ [];
}

-- a run with its PIN in another block
abbrev pub holding : List ℕ → Run → Run
holding block a = record { sealed = a.sealed; block = block; enciphered = a.enciphered }

-- the PINs of run_p9, run_p10 and run_other in format 34: control 2, length 5, digits, F
abbrev pub run_p9_in_34 : Run
run_p9_in_34 = holding (0x25 ∷ 0x34 ∷ 0x56 ∷ 0x7F ∷ 0xFF ∷ 0xFF ∷ 0xFF ∷ 0xFF ∷ []) run_p9

abbrev pub run_p10_in_34 : Run
run_p10_in_34 = holding (0x25 ∷ 0x45 ∷ 0x67 ∷ 0x8F ∷ 0xFF ∷ 0xFF ∷ 0xFF ∷ 0xFF ∷ []) run_p10

abbrev pub run_other_in_34 : Run
run_other_in_34 = holding (0x25 ∷ 0x34 ∷ 0x56 ∷ 0x8F ∷ 0xFF ∷ 0xFF ∷ 0xFF ∷ 0xFF ∷ []) run_other

-- `;02053456745678`: both PINs
abbrev pub both_listed : List ℕ
both_listed = 0x3B ∷ 0x30 ∷ 0x32 ∷ 0x30 ∷ 0x35 ∷ 0x33 ∷ 0x34 ∷ 0x35 ∷ 0x36 ∷ 0x37 ∷ 0x34 ∷ 0x35 ∷ 0x36 ∷ 0x37 ∷ 0x38 ∷ []

-- `;010534567`: the PIN of run_p9 alone
abbrev pub one_listed : List ℕ
one_listed = 0x3B ∷ 0x30 ∷ 0x31 ∷ 0x30 ∷ 0x35 ∷ 0x33 ∷ 0x34 ∷ 0x35 ∷ 0x36 ∷ 0x37 ∷ []

-- ---- what is claimed

-- offsets of variable length, else the usual settings
abbrev pub variable : Settings
variable = variably usually true

-- what a run answers
abbrev pub answer : Settings → List ℕ → List ℕ → Run → Said ℕ
answer settings format weak a = answered settings true true (command format a.sealed weak) a.block a.enciphered room_to_answer

-- two runs that meet the assumptions of demand 3, over m covered digits, and whose PINs are not the same
pub record Meets (settings : Settings) (format : List ℕ) (m : ℕ) (weak : List ℕ) (a b : Run) : Type 0 where
  pub first : Reads settings true true room_to_answer (command format a.sealed weak) a.block a.enciphered
  pub second : Reads settings true true room_to_answer (command format b.sealed weak) b.block b.enciphered
  pub alike : AlikeBut first.reaches.fields.sealed.block (command format a.sealed weak) (command format b.sealed weak)
  pub long : length first.found.0 ≡ length second.found.0
  pub covered : covers settings.variable first.reaches.fields.offsetting.check (length first.found.0) ≡ done m
  pub apart : first.found.0 ≡ second.found.0 → ⊥

abbrev pub Agree : Settings → List ℕ → ℕ → List ℕ → Run → Run → Type 0
Agree settings format m weak a b = Meets settings format m weak a b × (answer settings format weak a ≡ answer settings format weak b)

abbrev pub Differ : Settings → List ℕ → ℕ → List ℕ → Run → Run → Type 0
Differ settings format m weak a b = Meets settings format m weak a b × (answer settings format weak a ≡ answer settings format weak b → ⊥)

-- neither PIN is weak, and the differences agree; or they do not. Restricted or not, in format 01
abbrev pub AlikeRuns : Type 0
AlikeRuns = (restricted : Bool) → Agree (restricted_to usually restricted) format01 4 [] run_p9 run_p10

abbrev pub UnlikeRuns : Type 0
UnlikeRuns = (restricted : Bool) → Differ (restricted_to usually restricted) format01 4 [] run_p9 run_other

-- the same in format 34, which only a box has whose formats are not restricted
abbrev pub UnrestrictedRuns : Type 0
UnrestrictedRuns = Agree (restricted_to usually false) format34 4 [] run_p9_in_34 run_p10_in_34 × Differ (restricted_to usually false) format34 4 [] run_p9_in_34 run_other_in_34

-- the differences do not agree over all five digits, but over the four that are covered: the runs answer alike
pub record UncoveredRuns : Type 0 where
  pub met : Meets usually format01 4 [] run_p9 run_last_four
  pub five : offset_of 5 met.first.found.0 met.first.found.1 ≡ offset_of 5 met.second.found.0 met.second.found.1 → ⊥
  pub four : offset_of 4 met.first.found.0 met.first.found.1 ≡ offset_of 4 met.second.found.0 met.second.found.1
  pub agree : answer usually format01 [] run_p9 ≡ answer usually format01 [] run_last_four

-- with variable length all five are covered: the runs of equal differences answer alike, and those that differ in the first do not
abbrev pub VariableRuns : Type 0
VariableRuns = Agree variable format01 5 [] run_p9 run_p10 × Differ variable format01 5 [] run_p9 run_last_four

-- both PINs are weak; or one is
abbrev pub BothWeak : Type 0
BothWeak = Agree usually format01 4 both_listed run_p9 run_p10

abbrev pub OneWeak : Type 0
OneWeak = Differ usually format01 4 one_listed run_p9 run_p10

-- all of them
abbrev pub AssumptionsMet : Type 0
AssumptionsMet = AlikeRuns × UnlikeRuns × UnrestrictedRuns × UncoveredRuns × VariableRuns × BothWeak × OneWeak
