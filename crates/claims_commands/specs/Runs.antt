-- Two runs of the answering call, for demand 3.
use Rattle.std.specs.Prelude.{ℕ, ◌+◌, ◌≤◌, ◌≡◌, List, Bool, true, length, drop}
use Rattle.numbers.specs.Numbers.{Outcome, done}
use Rattle.settings.specs.declared.Settings.{Settings}
use Rattle.frame.specs.Frame.{is_framed, code_of}
use Rattle.frame.specs.declared.Code.{Code}
use Rattle.frame.specs.declared.Code.TheVariants as code
use Rattle.fields.specs.Fields as field
use Rattle.keybox.specs.KeyBox as keybox
use Rattle.uses.specs.Uses as uses
use Rattle.uses.specs.declared.Use.{Use}
use Rattle.pairing.specs.Pairing.{pair_at}
use Rattle.bkfields.specs.BkFields.{bk_fields}
use Rattle.bkfields.specs.declared.Bk.{Bk}
use Rattle.verifyfields.specs.VerifyFields.{verify_fields}
use Rattle.verifyfields.specs.declared.Verification.{Verification}
use Rattle.responses.specs.Responses.{room_to_answer}
use Rattle.claims_alike.specs.Alike.{Outside}

-- ---- of any command

-- its code, which stands behind the header
abbrev pub code_in : Settings → List ℕ → Code
code_in settings s = code_of (drop settings.header s)

-- a run that is not refused before its block is looked at: there is room, the command has a frame, this code and fields that are read,
-- and what the key box answered is taken
pub record Reached {A R : Type 0} (command : Code) (reader : List ℕ → ℕ → field.Stage A) (box : field.Ruling R) (header room : ℕ) (s : List ℕ) : Type 0 where
  pub roomy : room_to_answer ≤ room
  pub framed : is_framed header s ≡ true
  pub coded : code_of (drop header s) ≡ command
  pub fields : A
  pub past : ℕ
  pub read : reader s (header + 2) ≡ field.read fields past
  pub rows : R
  pub boxed : box ≡ done rows

-- and not before its PIN is read: what is found with command and rows, a PIN or a PIN with its natural PIN
pub record Finds {A R P : Type 0} (command : Code) (reader : List ℕ → ℕ → field.Stage A) (box : field.Ruling R) (pin_in : List ℕ → A → R → Outcome P) (header room : ℕ) (s : List ℕ)
    : Type 0 where
  pub reaches : Reached command reader box header room s
  pub found : P
  pub paired : pin_in s reaches.fields reaches.rows ≡ done found

-- "alike except for the sixteen characters of the enciphered PIN block", which begin at a place
abbrev pub AlikeBut : ℕ → List ℕ → List ℕ → Type 0
AlikeBut place s t = Outside 16 place s t

-- ---- of BK

-- both slices have 8 bytes and both parities are good
abbrev pub Reaches : Settings → Bool → Bool → ℕ → List ℕ → List ℕ → List ℕ → Type 0
Reaches settings pin_key_good pvk_good room s block enciphered =
    Reached code.Bk (bk_fields settings.restricted) (keybox.boxed (length s) pin_key_good pvk_good block enciphered) settings.header room s

-- its PIN and its natural PIN
abbrev pub pair_in : List ℕ → Bk → List ℕ × List ℕ → Outcome (List ℕ × List ℕ)
pair_in s p rows = pair_at s p.sealed p.offsetting rows

abbrev pub Reads : Settings → Bool → Bool → ℕ → List ℕ → List ℕ → List ℕ → Type 0
Reads settings pin_key_good pvk_good room s block enciphered =
    Finds code.Bk (bk_fields settings.restricted) (keybox.boxed (length s) pin_key_good pvk_good block enciphered) pair_in settings.header room s

-- ---- of DA and EA

-- the two commands that verify a PIN under a terminal's or a zone's key, so that what holds of both is said once
pub data Verifying : Type 0 where
  terminal : Verifying
  zone : Verifying

-- the code, and the PIN key's use
abbrev pub code_for : Verifying → Code
code_for terminal = code.Da
code_for zone = code.Ea

abbrev pub key_for : Verifying → Use
key_for terminal = uses.terminal_key
key_for zone = uses.zone_key

-- its PIN and its natural PIN
abbrev pub compared_in : List ℕ → Verification → List ℕ × List ℕ → Outcome (List ℕ × List ℕ)
compared_in s v rows = pair_at s v.sealed v.offsetting rows

-- a run that is not refused before its PIN is read
abbrev pub FindsPin : Verifying → Settings → Bool → Bool → ℕ → List ℕ → List ℕ → List ℕ → Type 0
FindsPin w settings pin_key_good pvk_good room s block enciphered =
    Finds (code_for w) (verify_fields (key_for w)) (keybox.boxed (length s) pin_key_good pvk_good block enciphered) compared_in settings.header room s
