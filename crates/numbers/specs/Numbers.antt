-- "Numbers the host and the server meet": the table, and what a judgement comes to.
use Rattle.std.specs.Prelude.{ℕ, Bool, cond}
use Rattle.numbers.specs.declared.Refusal.{Refusal}
use Rattle.numbers.specs.declared.Refusal.TheVariants.{Unverified01, WeakList03, PinKeyParity10, PvkParity11, Field15, Block20, Format23, Length24, Table25, Key26, Use29, Code68, NotHere69, Check81, Weak86, Room901, Frame902}

-- each refusal's number
abbrev pub number_of : Refusal → ℕ
number_of Unverified01 = 1
number_of WeakList03 = 3
number_of PinKeyParity10 = 10
number_of PvkParity11 = 11
number_of Field15 = 15
number_of Block20 = 20
number_of Format23 = 23
number_of Length24 = 24
number_of Table25 = 25
number_of Key26 = 26
number_of Use29 = 29
number_of Code68 = 68
number_of NotHere69 = 69
number_of Check81 = 81
number_of Weak86 = 86
number_of Room901 = 901
number_of Frame902 = 902

-- what a judgement comes to: a value, or the fault that decides
pub data Judged (Q A : Type 0) : Type 0 where
  done : A → Judged Q A
  refused : Q → Judged Q A

-- where the fault is a refusal and nothing else
abbrev pub Outcome : Type 0 → Type 0
Outcome A = Judged Refusal A

-- the next judgement, where the one before found no fault: the first fault decides
abbrev pub and_then : {Q A B : Type 0} → Judged Q A → (A → Judged Q B) → Judged Q B
and_then (done a) next = next a
and_then (refused q) next = refused q

-- the value where the test holds, else the refusal
abbrev pub unless : {A : Type 0} → Refusal → Bool → A → Outcome A
unless q holds a = cond holds (done a) (refused q)
