-- The bytes that a host sends and those that it gets, whatever the command: a header, a code of two bytes, and what stands behind it.
use Rattle.std.specs.Prelude.{ℕ, ◌+◌, ◌≤◌, ◌≡◌, List, ◌++◌, length, take}
use Rattle.alphabet.specs.declared.Class.TheVariants.{Printable}
use Rattle.numbers.specs.Numbers.{Outcome, done, refused, number_of}
use Rattle.numbers.specs.Promise.{Said}
use Rattle.texts.specs.Characters.{printed}
use Rattle.texts.specs.Texts.{Run, as_two_digits}
use Rattle.texts.specs.Whole.{Command}

-- "header length 0 to 16"; "a header byte outside 20 to 7E hex" is no frame
abbrev pub IsHeader : ℕ → List ℕ → Type 0
IsHeader setting header = (setting ≤ 16) × Run Printable setting header

-- the bytes that the host sends: header, command code, fields; "The two length bytes before a command are the server's affair"
abbrev pub sent : {A : Type 0} → List ℕ → List ℕ → (c : Command A) → c.Parts → List ℕ
sent header code c p = header ++ (code ++ c.text p)

-- bytes that are a header, a code and behind it a command of the paper's
pub record PapersCommand {A : Type 0} (code : List ℕ) (c : Command A) (setting : ℕ) (s : List ℕ) : Type 0 where
  pub header : List ℕ
  pub parts : c.Parts
  pub is_header : IsHeader setting header
  pub is : c.is parts
  pub bytes : s ≡ sent header code c parts

-- a frame: not "header setting over 16, command over 4,096 bytes or under header + 2, or a header byte outside 20 to 7E hex"
pub record HasFrame (setting : ℕ) (s : List ℕ) : Type 0 where
  pub header : IsHeader setting (take setting s)
  pub most : length s ≤ 4096
  pub least : setting + 2 ≤ length s

-- the response: header, response code, 00 and what the command brings; or header, response code and the refusal's number
abbrev pub response : List ℕ → List ℕ → Outcome (List ℕ) → Said ℕ
response header code (done brought) = record { number = 0; written = header ++ (code ++ (printed "00" ++ brought)) }
response header code (refused q) = record { number = number_of q; written = header ++ (code ++ as_two_digits (number_of q)) }
