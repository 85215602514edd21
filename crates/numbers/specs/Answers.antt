-- What a judgement comes to, as a value of the code.
use Rattle.std.specs.Prelude.{ℕ, List, [], Result, Ok, Err}
use Rattle.numbers.specs.Numbers.{Judged, Outcome, done, refused}
use Rattle.numbers.specs.declared.Refusal.{Refusal}

-- what the code holds for the value, or the fault that decides
abbrev pub result_of : {Q A B : Type 0} → (A → B) → Judged Q A → Result B Q
result_of held (done a) = Ok (held a)
result_of held (refused q) = Err q

-- a verdict, or why there is none: 01 is a refusal, as the paper's table has it
abbrev pub verdict_of : Outcome (List ℕ) → Result (Unit {0}) Refusal
verdict_of (done ws) = Ok tt
verdict_of (refused q) = Err q

-- what a verdict says
abbrev pub verdict_says : Result (Unit {0}) Refusal → Outcome (List ℕ)
verdict_says (Ok u) = done []
verdict_says (Err q) = refused q
