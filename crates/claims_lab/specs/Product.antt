-- The product is the core's answering call at what its keys make. Rooms and lengths are literals, so that one that is changed in
-- definition and code together is met here.
use Rattle.std.specs.Prelude.{ℕ, ◌≤◌, ◌<◌, ◌≡◌, ◌⊎◌, List, [], Bool, false, length}
use Rattle.numbers.specs.Numbers.{done, refused}
use Rattle.numbers.specs.declared.Refusal.TheVariants.{Room901, Frame902}
use Rattle.settings.specs.declared.Settings.{Settings}
use Rattle.frame.specs.Frame.{is_framed}
use Rattle.fields.specs.Fields.{unpointed}
use Rattle.fields.specs.declared.Fault.{Fault}
use Rattle.commands.specs.Commands.{asking, asked, extracting, extracted, answered, replying}
use Rattle.parity.specs.Parity.{odd_parity}
use Rattle.ciphers.specs.Ciphers.{triple_block}
use Rattle.ciphers.specs.declared.Way.TheVariants.{Encipher, Decipher}
use Rattle.lab.specs.Lab.{lab_answered, lab_replying}

-- a lab key has 16 or 24 bytes
abbrev pub IsLabKey : List ℕ → Type 0
IsLabKey key = (length key ≡ 16) ⊎ (length key ≡ 24)

-- the core's asking call and its PIN block's call refuse a command with one fault, or each writes: there is no third case
abbrev pub BothOrNeither : Type 0
BothOrNeither = (settings : Settings) (s : List ℕ)
    → ((f : Fault) × (asking settings s 8 ≡ refused f) × (extracting settings s 16 ≡ refused f))
    ⊎ ((v : List ℕ) × (b : List ℕ) × (asked settings s 8 ≡ done v) × (extracted settings s 16 ≡ done b))

-- ---- where they write

-- the product answers as the core does at the PIN block deciphered, the validation block enciphered, and the parities of its own keys. The
-- asking call writes the validation block v, the PIN block's call the PIN block b
abbrev pub AnswersAsTheCore : Type 0
AnswersAsTheCore = (settings : Settings) (s pin_key pvk v b : List ℕ) (room : ℕ) → IsLabKey pin_key → IsLabKey pvk
    → asked settings s 8 ≡ done v → extracted settings s 16 ≡ done b
    → lab_answered settings s pin_key pvk room
    ≡ answered settings (odd_parity pin_key) (odd_parity pvk) s (triple_block Decipher pin_key b) (triple_block Encipher pvk v) room

-- place and field too
abbrev pub RepliesAsTheCore : Type 0
RepliesAsTheCore = (settings : Settings) (s pin_key pvk v b : List ℕ) (room : ℕ) → IsLabKey pin_key → IsLabKey pvk
    → asked settings s 8 ≡ done v → extracted settings s 16 ≡ done b
    → lab_replying settings s pin_key pvk room
    ≡ replying settings (odd_parity pin_key) (odd_parity pvk) s (triple_block Decipher pin_key b) (triple_block Encipher pvk v) room

-- ---- where they refuse

-- less room than 65 is 901, before all else: nothing is written and nothing pointed at
abbrev pub RoomFirst : Type 0
RoomFirst = (settings : Settings) (s pin_key pvk : List ℕ) (room : ℕ) → room < 65
    → (lab_replying settings s pin_key pvk room ≡ unpointed (refused Room901))
    × (lab_answered settings s pin_key pvk room ≡ record { number = 901; written = [] })

-- then a command without a frame is 902, and the same
abbrev pub FrameNext : Type 0
FrameNext = (settings : Settings) (s pin_key pvk : List ℕ) (room : ℕ) → 65 ≤ room → is_framed settings.header s ≡ false
    → (lab_replying settings s pin_key pvk room ≡ unpointed (refused Frame902))
    × (lab_answered settings s pin_key pvk room ≡ record { number = 902; written = [] })

-- what the asking call refuses, the product refuses with the same number, place and field, whatever the keys are, and writes what the
-- answering call does, whatever a key box answers
abbrev pub FieldsFirst : Type 0
FieldsFirst = (settings : Settings) (s pin_key pvk : List ℕ) (room : ℕ) (f : Fault) → 65 ≤ room → asking settings s 8 ≡ refused f
    → (lab_replying settings s pin_key pvk room ≡ refused f)
    × ((pin_key_good pvk_good : Bool) (block enciphered : List ℕ) → lab_answered settings s pin_key pvk room ≡ answered settings pin_key_good pvk_good s block enciphered room)
