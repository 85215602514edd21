-- What a command answers, and the bytes that say it: "header, response code, 00" and what the command brings, or its refusal.
use Rattle.std.specs.Prelude.{ℕ, List, [], ◌++◌, drop}
use Rattle.numbers.specs.Numbers.{Outcome, done, refused, and_then, number_of}
use Rattle.numbers.specs.Promise.{Said}
use Rattle.offsettexts.specs.OffsetTexts.{offset_text}
use Rattle.frame.specs.Frame.{opening}
use Rattle.fields.specs.Fields.{Stage, Ruling, ruled, unpointed}

-- what a command brings behind 00: an offset's digits, or nothing
pub data Payload : Type 0 where
  offset : List ℕ → Payload
  nothing : Payload

-- its text: an offset is written "left in 12 characters, filled with F"
abbrev pub payload_text : Payload → List ℕ
payload_text (offset ds) = offset_text ds
payload_text nothing = []

-- the answering call behind a command's code, whatever the command: its fields, then what the key box answered, then its finish. What
-- it brings, and the place of the trailer's mark
abbrev pub answering : {A R : Type 0} → Stage A → Ruling R → (A → R → Outcome Payload) → (A → ℕ) → Ruling (Payload × ℕ)
answering fields boxed finish mark =
    and_then (ruled fields)
    (λ p. and_then boxed
    (λ rows. and_then (unpointed (finish p rows))
    (λ payload. done (payload, mark p))))

-- what stands behind 00: the payload's text, and "a trailer, with its 19 mark": what the command has from the mark on
abbrev pub answer_text : List ℕ → Payload × ℕ → List ℕ
answer_text s answer = payload_text answer.0 ++ drop answer.1 s

-- what the answering call says to a command that has a frame: a refusal is the opening with its number and nothing else; 00 is
-- followed by what the command answers
abbrev pub responding : ℕ → List ℕ → Outcome (List ℕ) → Said ℕ
responding header s (done text) = record { number = 0; written = opening header s 0 ++ text }
responding header s (refused q) = record { number = number_of q; written = opening header s (number_of q) }

-- "Output must have at least 65 bytes for the answering call": header, code, number, payload, and trailer with its mark, each the longest
abbrev pub room_to_answer : ℕ
room_to_answer = 65
