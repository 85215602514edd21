-- What both calls show of a refusal, over every command, setting, slice and room.
use Rattle.std.specs.Prelude.{ℕ, ◌+◌, ◌≤◌, ◌≡◌, ◌⊎◌, List, [], ◌∷◌, Bool, true, length}
use Rattle.numbers.specs.Numbers.{done, refused, number_of}
use Rattle.numbers.specs.Promise.{quietly}
use Rattle.numbers.specs.declared.Refusal.{Refusal}
use Rattle.numbers.specs.declared.Refusal.TheVariants.{Field15}
use Rattle.settings.specs.declared.Settings.{Settings}
use Rattle.frame.specs.declared.Code.{Code}
use Rattle.frame.specs.declared.Code.TheVariants.{Bk, Da, Ea, Other}
use Rattle.fields.specs.Fields.{Ruling, nowhere, shown}
use Rattle.fields.specs.declared.Pointer.{Pointer}
use Rattle.fields.specs.declared.Fault.{Fault}
use Rattle.commands.specs.Commands.{asking, asked, answered, replying}
use Rattle.texts_keys.specs.KeyTexts.{terminal_key_rule, zone_key_rule}
use Rattle.claims_blocks.specs.Promises.{listed}
use Rattle.claims_commands.specs.Runs.{code_in}
use Rattle.claims_places.specs.Begins.{bk_form, verify_form, PointsAt}

-- ---- one fault

-- the number of what a call comes to
abbrev pub number_in : {A : Type 0} → Ruling A → ℕ
number_in (done a) = 0
number_in (refused f) = number_of f.refusal

-- the number that is said and the place that is shown are those of one fault
abbrev pub OneFault : Type 0
OneFault =
    ((settings : Settings) (s : List ℕ) (room : ℕ) → (quietly (asked settings s room)).number ≡ number_in (asking settings s room))
    × ((settings : Settings) (pin_key_good pvk_good : Bool) (s block enciphered : List ℕ) (room : ℕ)
    → (answered settings pin_key_good pvk_good s block enciphered room).number ≡ number_in (replying settings pin_key_good pvk_good s block enciphered room))

-- ---- where it may point

-- "for every refusal that is not a field's": it points at nothing
abbrev pub AtNothing : Refusal → Pointer → Type 0
AtNothing q at = (listed (number_of q) (1 ∷ 10 ∷ 11 ∷ 20 ∷ 24 ∷ 68 ∷ 81 ∷ 86 ∷ 901 ∷ 902 ∷ []) ≡ true) × (at ≡ nowhere)

-- at a field of the command that its code names, or at what no field took
abbrev pub InCommand : Code → Settings → List ℕ → Pointer → Type 0
InCommand Bk settings s at = PointsAt (bk_form settings.restricted) s (settings.header + 2) at
InCommand Da settings s at = PointsAt (verify_form terminal_key_rule) s (settings.header + 2) at
InCommand Ea settings s at = PointsAt (verify_form zone_key_rule) s (settings.header + 2) at
InCommand Other settings s at = ⊥

abbrev pub AtFields : Settings → List ℕ → Refusal → Pointer → Type 0
AtFields settings s q at = (listed (number_of q) (3 ∷ 15 ∷ 23 ∷ 25 ∷ 26 ∷ 29 ∷ 69 ∷ []) ≡ true) × InCommand (code_in settings s) settings s at

-- "For slices that are not 8 bytes, the position is the command's length"
abbrev pub end_of : List ℕ → Pointer
end_of s = record { place = length s; field = 0 }

abbrev pub AtTheEnd : List ℕ → Refusal → Pointer → Type 0
AtTheEnd s q at = (q ≡ Field15) × (at ≡ end_of s)

abbrev pub SlicesNotEight : List ℕ → List ℕ → Type 0
SlicesNotEight block enciphered = length block ≡ 8 → length enciphered ≡ 8 → ⊥

-- ---- the claims

-- what the asking call refuses points at nothing or at the fields, as its number says
abbrev pub AskPoints : Type 0
AskPoints = (settings : Settings) (s : List ℕ) (room : ℕ) (f : Fault) → asking settings s room ≡ refused f
    → AtNothing f.refusal (shown (asking settings s room)) ⊎ AtFields settings s f.refusal (shown (asking settings s room))

-- what the answering call refuses too, or at the command's end where a slice is not 8 bytes
abbrev pub AnswerPoints : Type 0
AnswerPoints = (settings : Settings) (pin_key_good pvk_good : Bool) (s block enciphered : List ℕ) (room : ℕ) (f : Fault)
    → let o = replying settings pin_key_good pvk_good s block enciphered room in o ≡ refused f
    → AtNothing f.refusal (shown o) ⊎ (AtFields settings s f.refusal (shown o) ⊎ (AtTheEnd s f.refusal (shown o) × SlicesNotEight block enciphered))

-- both calls tell it alike
abbrev pub BothPointAlike : Type 0
BothPointAlike = (settings : Settings) (pin_key_good pvk_good : Bool) (s block enciphered : List ℕ) (room room' : ℕ) (f : Fault) → 8 ≤ room → 65 ≤ room'
    → asking settings s room ≡ refused f → replying settings pin_key_good pvk_good s block enciphered room' ≡ refused f

-- and a command that the asking call takes, with a slice that is not 8 bytes, is answered 15 at its end
abbrev pub SlicesAtTheEnd : Type 0
SlicesAtTheEnd = (settings : Settings) (pin_key_good pvk_good : Bool) (s block enciphered : List ℕ) (room room' : ℕ) (bytes : List ℕ)
    → asking settings s room ≡ done bytes → 65 ≤ room' → SlicesNotEight block enciphered
    → let o = replying settings pin_key_good pvk_good s block enciphered room' in (number_in o ≡ 15) × (shown o ≡ end_of s)

-- the place lies in the command or at its end
abbrev pub PlaceInside : Type 0
PlaceInside =
    ((settings : Settings) (s : List ℕ) (room : ℕ) → (shown (asking settings s room)).place ≤ length s)
    × ((settings : Settings) (pin_key_good pvk_good : Bool) (s block enciphered : List ℕ) (room : ℕ)
    → (shown (replying settings pin_key_good pvk_good s block enciphered room)).place ≤ length s)

-- where a call says 00 or the number of no field, it shows nothing: not where in the command a PIN was at fault
abbrev pub NothingShown : {A : Type 0} → Ruling A → Type 0
NothingShown o = listed (number_in o) (0 ∷ 1 ∷ 10 ∷ 11 ∷ 20 ∷ 24 ∷ 68 ∷ 81 ∷ 86 ∷ 901 ∷ 902 ∷ []) ≡ true → shown o ≡ nowhere

abbrev pub NumbersShowNothing : Type 0
NumbersShowNothing =
    ((settings : Settings) (s : List ℕ) (room : ℕ) → NothingShown (asking settings s room))
    × ((settings : Settings) (pin_key_good pvk_good : Bool) (s block enciphered : List ℕ) (room : ℕ) → NothingShown (replying settings pin_key_good pvk_good s block enciphered room))
