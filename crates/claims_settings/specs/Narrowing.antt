-- What the setting of restricted formats touches: under Yes a call comes to what it comes to under No, but for formats that are not
-- allowed, and these are 69 in their place.
use Rattle.std.specs.Prelude.{ℕ, ◌+◌, ◌≤◌, ◌≡◌, ◌⊎◌, List, [], ◌∷◌, Bool, true, false}
use Rattle.numbers.specs.Numbers.{Judged, done, refused}
use Rattle.numbers.specs.declared.Refusal.{Refusal}
use Rattle.numbers.specs.declared.Refusal.TheVariants.{NotHere69}
use Rattle.settings.specs.Settings.{restricted_to}
use Rattle.settings.specs.declared.Settings.{Settings}
use Rattle.formats.specs.declared.Format.{Format}
use Rattle.formats.specs.declared.Format.TheVariants.{F03, F05, F34, F35}
use Rattle.codes.specs.Codes.{block_width}
use Rattle.restriction.specs.Restriction.{permitted}
use Rattle.pairs.specs.Pairs.{pair_of}
use Rattle.pins.specs.Pins.{account_of, sized}
use Rattle.frame.specs.Frame.{is_framed}
use Rattle.frame.specs.declared.Code.TheVariants.{Bk}
use Rattle.fields.specs.Fields.{Stage, read, onward}
use Rattle.fields.specs.declared.Fault.{Fault}
use Rattle.uses.specs.Uses.{pin_key, pvk}
use Rattle.keyfields.specs.KeyFields.{keys}
use Rattle.sealed.specs.Sealed.{sealed}
use Rattle.sealed.specs.declared.Sealed.{Sealed}
use Rattle.responses.specs.Responses.{room_to_answer, responding}
use Rattle.commands.specs.Commands.{room_to_ask, asking, answered, replying}
use Rattle.translation.specs.Translation.{translate_block}
use Rattle.texts.specs.Characters.{OneOf}
use Rattle.claims_commands.specs.Runs.{code_in}

-- ---- a BK that is not allowed

-- "BK allows all six, or restricted only 01 and 47": the other four
abbrev pub others : List Format
others = F03 ∷ (F05 ∷ (F34 ∷ (F35 ∷ [])))

-- fields 1 to 5 of a BK under No: keys, PIN block, and any format that is built
abbrev pub up_to_format : List ℕ → ℕ → Stage Sealed
up_to_format s at = onward (keys 1 pin_key pvk s at) (λ _ at₄. sealed 4 false s at₄)

-- 69 at field 5, which begins behind the sixteen characters of the PIN block
abbrev pub at_format : Sealed → Fault
at_format b = record { refusal = NotHere69; field = 5; place = b.block + 16 }

-- a BK whose fields 1 to 5 are read under No, with one of the four, and the fault that it is under Yes
pub record NotAllowed (settings : Settings) (s : List ℕ) (f : Fault) : Type 0 where
  pub framed : is_framed settings.header s ≡ true
  pub coded : code_in settings s ≡ Bk
  pub sealed : Sealed
  pub past : ℕ
  pub reads : up_to_format s (settings.header + 2) ≡ read sealed past
  pub other : OneOf sealed.format others
  pub fault : f ≡ at_format sealed

-- ---- the two calls

-- what something comes to under Yes, beside what it comes to under No: the same, or a fault of one kind
abbrev pub Narrowed : {Q A : Type 0} → (Q → Type 0) → Judged Q A → Judged Q A → Type 0
Narrowed {Q} kind narrow wide = (narrow ≡ wide) ⊎ ((q : Q) × kind q × (narrow ≡ refused q))

-- whatever the command and the room, the asking call under Yes is as under No, or the BK is not allowed and this is its fault; and where
-- a BK is not allowed and there is room, it is refused with that fault. What No answers is not said here
abbrev pub AskNarrowed : Type 0
AskNarrowed = (settings : Settings) (s : List ℕ) (room : ℕ)
    → Narrowed (NotAllowed settings s) (asking (restricted_to settings true) s room) (asking (restricted_to settings false) s room)
    × ((f : Fault) → room_to_ask ≤ room → NotAllowed settings s f → asking (restricted_to settings true) s room ≡ refused f)

-- the answering call, whatever the key box answered
abbrev pub AnswerNarrowed : Type 0
AnswerNarrowed = (settings : Settings) (g h : Bool) (s block enciphered : List ℕ) (room : ℕ)
    → Narrowed (NotAllowed settings s) (replying (restricted_to settings true) g h s block enciphered room) (replying (restricted_to settings false) g h s block enciphered room)
    × ((f : Fault) → room_to_answer ≤ room → NotAllowed settings s f → replying (restricted_to settings true) g h s block enciphered room ≡ refused f)

-- and what a host sees of it: the same number and bytes, or those of a refusal with 69 of a BK that is not allowed; and such a BK has these
abbrev pub ResponseNarrowed : Type 0
ResponseNarrowed = (settings : Settings) (g h : Bool) (s block enciphered : List ℕ) (room : ℕ)
    → ((answered (restricted_to settings true) g h s block enciphered room ≡ answered (restricted_to settings false) g h s block enciphered room)
    ⊎ ((f : Fault) × NotAllowed settings s f × (answered (restricted_to settings true) g h s block enciphered room ≡ responding settings.header s (refused NotHere69))))
    × ((f : Fault) → room_to_answer ≤ room → NotAllowed settings s f → answered (restricted_to settings true) g h s block enciphered room ≡ responding settings.header s (refused NotHere69))

-- ---- below the command level

-- "every other built pair is 69": a translation with room, block, account and fill in their form and both formats built, whose pair is not
-- permitted
pub record PairNotAllowed (from to : ℕ) (block account fill : List ℕ) (room : ℕ) : Type 0 where
  pub roomy : block_width to ≤ room
  pub ns : List ℕ
  pub whole : sized (block_width from) block ≡ done ns
  pub digits : List ℕ
  pub numbered : account_of account ≡ done digits
  pub fs : List ℕ
  pub filled : sized 8 fill ≡ done fs
  pub pair : Format × Format
  pub built : pair_of false from to ≡ done pair
  pub outside : permitted true pair.0 pair.1 ≡ false

-- "only translation takes the restricted setting": it is as under No, or the pair is not allowed and it is 69; and where the pair is not
-- allowed, it is 69
abbrev pub TranslationNarrowed : Type 0
TranslationNarrowed = (from to : ℕ) (block account fill : List ℕ) (room : ℕ)
    → Narrowed (λ (q : Refusal). (q ≡ NotHere69) × PairNotAllowed from to block account fill room) (translate_block true from to block account fill room) (translate_block false from to block account fill room)
    × (PairNotAllowed from to block account fill room → translate_block true from to block account fill room ≡ refused NotHere69)
