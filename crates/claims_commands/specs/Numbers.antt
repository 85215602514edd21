-- Demand 1, of commands: every number that a call answers is one of the table's, and the count of bytes agrees with it.
use Rattle.std.specs.Prelude.{ℕ, ◌+◌, ◌≤◌, ◌≡◌, List, [], ◌∷◌, Bool, true, false, length}
use Rattle.numbers.specs.Promise.{Said, quietly}
use Rattle.settings.specs.declared.Settings.{Settings}
use Rattle.frame.specs.declared.Code.{Code}
use Rattle.frame.specs.declared.Code.TheVariants.{Bk, Da, Ea, Other}
use Rattle.commands.specs.Commands.{asked, answered}
use Rattle.claims_blocks.specs.Promises.{listed}
use Rattle.claims_commands.specs.Runs.{code_in}

-- behind the frame, by the command's code: the fields' numbers. DA and EA have no weak list
abbrev pub verify_ask_numbers : List ℕ
verify_ask_numbers = 0 ∷ 15 ∷ 23 ∷ 25 ∷ 26 ∷ 29 ∷ 69 ∷ []

abbrev pub ask_numbers : Code → List ℕ
ask_numbers Bk = 0 ∷ 3 ∷ 15 ∷ 23 ∷ 25 ∷ 26 ∷ 29 ∷ 69 ∷ []
ask_numbers Da = verify_ask_numbers
ask_numbers Ea = verify_ask_numbers
ask_numbers Other = 68 ∷ []

-- the same, parity and block, and check length; of BK the weak list and no verdict, of DA and EA the verdict and no weak list
abbrev pub verify_numbers : List ℕ
verify_numbers = 0 ∷ 1 ∷ 10 ∷ 11 ∷ 15 ∷ 20 ∷ 23 ∷ 24 ∷ 25 ∷ 26 ∷ 29 ∷ 69 ∷ 81 ∷ []

abbrev pub answer_numbers : Code → List ℕ
answer_numbers Bk = 0 ∷ 3 ∷ 10 ∷ 11 ∷ 15 ∷ 20 ∷ 23 ∷ 24 ∷ 25 ∷ 26 ∷ 29 ∷ 69 ∷ 81 ∷ 86 ∷ []
answer_numbers Da = verify_numbers
answer_numbers Ea = verify_numbers
answer_numbers Other = 68 ∷ []

-- 901 and 902 come before any code
abbrev pub Numbered : List ℕ → Said ℕ → Type 0
Numbered numbers said = listed said.number (901 ∷ 902 ∷ numbers) ≡ true

-- the asking call writes a block of eight bytes with 00, and nothing otherwise
abbrev pub AskCounts : Said ℕ → Type 0
AskCounts said = (said.number ≡ 0 → length said.written ≡ 8) × ((said.number ≡ 0 → ⊥) → said.written ≡ [])

-- how many bytes go with 00, by the command's code: header, response code and number, what the command brings, and at most 33 bytes
-- of trailer with its mark. BK brings twelve characters of offset, DA and EA nothing; another code has no 00
abbrev pub VerifiedCount : ℕ → ℕ → Type 0
VerifiedCount header n = (header + 4 ≤ n) × (n ≤ header + 37)

abbrev pub DoneCount : Code → ℕ → ℕ → Type 0
DoneCount Bk header n = (header + 16 ≤ n) × (n ≤ header + 49)
DoneCount Da header n = VerifiedCount header n
DoneCount Ea header n = VerifiedCount header n
DoneCount Other header n = ⊥

-- "901 and 902 write nothing. Any other refusal by the answering call writes header, response code and two-digit number"
abbrev pub AnswerCounts : Code → ℕ → Said ℕ → Type 0
AnswerCounts code header said =
    (listed said.number (901 ∷ 902 ∷ []) ≡ true → said.written ≡ [])
    × (said.number ≡ 0 → DoneCount code header (length said.written))
    × (listed said.number (0 ∷ 901 ∷ 902 ∷ []) ≡ false → length said.written ≡ header + 4)

abbrev pub AskNumbers : Type 0
AskNumbers = (settings : Settings) (s : List ℕ) (room : ℕ)
    → Numbered (ask_numbers (code_in settings s)) (quietly (asked settings s room)) × AskCounts (quietly (asked settings s room))

abbrev pub AnswerNumbers : Type 0
AnswerNumbers = (settings : Settings) (pin_key_good pvk_good : Bool) (s block enciphered : List ℕ) (room : ℕ)
    → Numbered (answer_numbers (code_in settings s)) (answered settings pin_key_good pvk_good s block enciphered room)
    × AnswerCounts (code_in settings s) settings.header (answered settings pin_key_good pvk_good s block enciphered room)

-- "for an offset to be made 81 never arises" where the offset has variable length: BK makes one
abbrev pub VariableNever81 : Type 0
VariableNever81 = (settings : Settings) (pin_key_good pvk_good : Bool) (s block enciphered : List ℕ) (room : ℕ) → settings.variable ≡ true → code_in settings s ≡ Bk
    → (answered settings pin_key_good pvk_good s block enciphered room).number ≡ 81 → ⊥
