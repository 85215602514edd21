-- What the two calls come to as values of the code, and what writing them asks.
use Rattle.std.specs.Prelude.{ℕ, ◌+◌, ◌≤◌, List, [], ◌++◌, length, drop, Result, Ok, Err}
use Rattle.nibbles.specs.Nibbles.{word, nibs, row, packs}
use Rattle.numbers.specs.Numbers.{done, refused}
use Rattle.numbers.specs.Answers.{result_of}
use Rattle.settings.specs.Settings.{longest_header}
use Rattle.pins.specs.Answers.{pin_of}
use Rattle.answers.specs.Answers.{digits_of}
use Rattle.offsettexts.specs.OffsetTexts.{offset_text}
use Rattle.fields.specs.Fields.{Ruling}
use Rattle.fields.specs.declared.Fault.{Fault}
use Rattle.responses.specs.Responses as paper
use Rattle.responses.specs.declared.Payload.{Payload}
use Rattle.responses.specs.declared.Payload.TheVariants.{Offset, Nothing}

-- ---- the asking call

-- the block to be enciphered as a row in a word, or the fault
abbrev pub asked_of : Ruling (List ℕ) → Result ℕ Fault
asked_of o = result_of (λ bytes. word (nibs bytes)) o

-- what it writes: the row's eight bytes, or nothing
abbrev pub asked_bytes : Result ℕ Fault → Ruling (List ℕ)
asked_bytes (Ok w) = done (packs (row 16 w))
asked_bytes (Err f) = refused f

-- there is room for it
abbrev pub RoomToAsk : Result ℕ Fault → ℕ → Type 0
RoomToAsk (Ok w) room = 8 ≤ room
RoomToAsk (Err f) room = Unit {0}

-- ---- the answering call

abbrev pub payload_of : paper.Payload → Payload
payload_of (paper.offset ds) = Offset (pin_of ds)
payload_of paper.nothing = Nothing

-- a payload and the place of the trailer's mark, or the fault
abbrev pub answered_of : Ruling (paper.Payload × ℕ) → Result (Payload × ℕ) Fault
answered_of o = result_of (λ answer. (payload_of answer.0, answer.1)) o

-- what such a payload writes
abbrev pub carried : Payload → List ℕ
carried (Offset p) = offset_text (digits_of p)
carried Nothing = []

-- and what such an answer writes behind 00, or its fault
abbrev pub answered_text : List ℕ → Result (Payload × ℕ) Fault → Ruling (List ℕ)
answered_text s (Ok answer) = done (carried answer.0 ++ drop answer.1 s)
answered_text s (Err f) = refused f

-- an offset has at most twelve digits
abbrev pub Short : Payload → Type 0
Short (Offset p) = p.length ≤ 12
Short Nothing = Unit {0}

-- there is room for it: a short payload, and at most 33 bytes from the mark to the command's end
pub record Brief (p : Payload) (mark : ℕ) (s : List ℕ) : Type 0 where
  pub short : Short p
  pub inside : mark ≤ length s
  pub tail : length s ≤ mark + 33

abbrev pub Writable : List ℕ → Result (Payload × ℕ) Fault → Type 0
Writable s (Ok answer) = Brief answer.0 answer.1 s
Writable s (Err f) = Unit {0}

-- the header and the code lie in the command, and there is room for the longest response
pub record Responding (header : ℕ) (s : List ℕ) (room : ℕ) : Type 0 where
  pub framed : header ≤ longest_header
  pub coded : header + 2 ≤ length s
  pub roomy : paper.room_to_answer ≤ room
