-- The one shape of a promise. A call says a number and some elements; the lent buffer then begins with those elements, and every
-- other element of it is as it was.
use Rattle.std.specs.Prelude.{ℕ, ◌≡◌, List, [], ◌++◌, length, drop}
use Rattle.numbers.specs.Numbers.{Outcome, done, refused, number_of}
use Rattle.numbers.specs.declared.Reply.{Reply}

-- what a call says: the number, and the elements that it writes
pub record Said (A : Type 0) : Type 0 where
  pub number : ℕ
  pub written : List A

-- a call below the command level, and the asking call: 00 with what is written, or a refusal's number with nothing
abbrev pub quietly : {A : Type 0} → Outcome (List A) → Said A
quietly (done w) = record { number = 0; written = w }
quietly (refused q) = record { number = number_of q; written = [] }

-- the call answered with the number and the count, and left these elements in the buffer
pub record Does {A : Type 0} (said : Said A) (before : List A) (reply : Reply) (after : List A) : Type 0 where
  pub number : reply.number ≡ said.number
  pub count : reply.written ≡ length said.written
  pub buffer : after ≡ said.written ++ drop (length said.written) before
