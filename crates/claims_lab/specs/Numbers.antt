-- Demand 1, of the product: every number that it answers is one of the table's, and the count of bytes agrees with it.
use Rattle.std.specs.Prelude.{ℕ, List}
use Rattle.settings.specs.declared.Settings.{Settings}
use Rattle.lab.specs.Lab.{lab_answered}
use Rattle.claims_commands.specs.Runs.{code_in}
use Rattle.claims_commands.specs.Numbers.{answer_numbers, Numbered, AnswerCounts}

-- by the command's code those of the core's answering call, and its counts, whatever is handed in
abbrev pub LabNumbers : Type 0
LabNumbers = (settings : Settings) (s pin_key pvk : List ℕ) (room : ℕ)
    → Numbered (answer_numbers (code_in settings s)) (lab_answered settings s pin_key pvk room)
    × AnswerCounts (code_in settings s) settings.header (lab_answered settings s pin_key pvk room)
