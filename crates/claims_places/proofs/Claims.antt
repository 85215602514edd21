-- What both calls show of a refusal.
-- Assumes nothing.
use Prim.Native.Nat.{ℕ, ◌+◌, ◌≤◌}
use native.Mathlib.Omega.{arith}
use mathlib.Core.Path.{◌≡◌, refl, sym, ap, ◌∙◌, subst}
use mathlib.Core.Logic.{◌⊎◌, inl, inr}
use mathlib.Core.List.{List, [], ◌∷◌}
use mathlib.Core.Bool.{Bool, true, false, not}
use lib.ListN.{length, drop}
use lib.Dec.{leb, eqb}
use borrow.Author.Tests.{le-leb, eqb-true, eq-eqb}
use Rattle.nibbles.specs.Nibbles.{nibs, every}
use Rattle.numbers.specs.Numbers.{Outcome, done, refused, and_then, unless, number_of}
use Rattle.numbers.specs.Promise.{quietly}
use Rattle.numbers.proofs.Laws.{then_done}
use Rattle.numbers.specs.declared.Refusal.{Refusal}
use Rattle.numbers.specs.declared.Refusal.TheVariants.{PinKeyParity10, PvkParity11, Field15, Room901, Frame902}
use Rattle.settings.specs.declared.Settings.{Settings}
use Rattle.frame.specs.Frame.{is_framed, code_of}
use Rattle.frame.specs.declared.Code.{Code}
use Rattle.frame.specs.declared.Code.TheVariants.{Bk, Da, Ea, Other}
use Rattle.fields.specs.Fields.{Stage, read, faulty, Ruling, ruled, pointing, unpointed, heard, pointer_of, nowhere, shown, outcome}
use Rattle.fields.specs.declared.Pointer.{Pointer}
use Rattle.fields.proofs.Reading.{ruled_read}
use Rattle.fields.proofs.Rulings.{pointing_done}
use Rattle.fields.specs.declared.Fault.{Fault}
use Rattle.keybox.specs.KeyBox.{slices, parities, boxed}
use Rattle.responses.specs.Responses.{answering, responding}
use Rattle.bkfields.specs.BkFields.{bk_fields}
use Rattle.bkfields.specs.declared.Bk as bk
use Rattle.bkfinish.specs.BkFinish.{bk_finish}
use Rattle.verifyfields.specs.VerifyFields.{verify_fields}
use Rattle.verifyfields.specs.declared.Verification.{Verification}
use Rattle.verifyfinish.specs.VerifyFinish.{verify_finish}
use Rattle.commands.specs.Commands.{opened, ask_by, answer_by, asking, asked, answered, commanded, silently, replying}
use Rattle.places.specs.Places.{RulesShort}
use Rattle.places.proofs.Calls.{asking_rules, replying_rules}
use Rattle.claims_blocks.specs.Promises.{listed}
use Rattle.claims_blocks.proofs.Judged.{Only, then_only, test_only, done_only}
use Rattle.claims_commands.specs.Runs.{code_in, pair_in, compared_in, Verifying, terminal, zone, key_for}
use Rattle.claims_commands.proofs.Fields.{In, listed_passes, wider, fields_give, verify_fields_give, field_numbers, shared_numbers}
use Rattle.claims_commands.proofs.Shapes.{Shape, pair_only}
use Rattle.claims_commands.proofs.Listing.{bk_shape}
use Rattle.claims_commands.proofs.Verifying.{verify_shape, verdict_only}
use Rattle.claims_commands.proofs.Numbers.{rest_only}
use Rattle.claims_commands.proofs.Cores.{asked_done, verify_asked, refused_alike}
use Rattle.texts_keys.specs.KeyTexts.{terminal_key_rule, zone_key_rule}
use Rattle.claims_exactly.specs.VerifyText.{pin_key_rule_of}
use Rattle.claims_places.specs.Begins.{bk_form, verify_form, PointsAt}
use Rattle.claims_places.specs.Claims.{number_in, OneFault, AtNothing, InCommand, AtFields, AtTheEnd, SlicesNotEight, AskPoints, AnswerPoints, BothPointAlike, SlicesAtTheEnd, PlaceInside, NothingShown, NumbersShowNothing}
use Rattle.claims_places.proofs.Begins.{bk_points_at}
use Rattle.claims_places.proofs.VerifyBegins.{verify_points_at}

-- ---- one fault

said_number : (header : ℕ) (s : List ℕ) (o : Ruling (List ℕ)) → (responding header s (heard o)).number ≡ number_in o
said_number header s (done text) = refl
said_number header s (refused f) = refl

quiet_number : (o : Ruling (List ℕ)) → (quietly (heard o)).number ≡ number_in o
quiet_number (done w) = refl
quiet_number (refused f) = refl

pub one_fault : OneFault
unfolding answered replying
one_fault = (λ settings s room. quiet_number (asking settings s room), λ settings g h s block enciphered room. by_frame settings g h s block enciphered (opened 65 room settings.header s))
  where
    by_frame : (settings : Settings) (g h : Bool) (s block enciphered : List ℕ) (o : Outcome ℕ)
        → (silently (and_then o (λ code. done (responding settings.header s (heard (commanded settings g h s block enciphered code)))))).number
        ≡ number_in (and_then (unpointed o) (λ code. commanded settings g h s block enciphered code))
    by_frame settings g h s block enciphered (done code) = said_number settings.header s (commanded settings g h s block enciphered code)
    by_frame settings g h s block enciphered (refused q) = refl

-- ---- faults that point at nothing

abbrev unpointed_numbers : List ℕ
unpointed_numbers = 1 ∷ 10 ∷ 11 ∷ 20 ∷ 24 ∷ 68 ∷ 81 ∷ 86 ∷ 901 ∷ 902 ∷ []

abbrev AtNone : Refusal → Type 0
AtNone = In unpointed_numbers

-- of a fault what is claimed of what is shown of it
abbrev Nothing : Fault → Type 0
Nothing f = AtNothing f.refusal (pointer_of f)

abbrev at_the_end : List ℕ → Fault
at_the_end s = record { refusal = Field15; field = 0; place = length s }

fault_of : {A : Type 0} {f g : Fault} → ◌≡◌ {A = Ruling A} (refused f) (refused g) → f ≡ g
fault_of e = cc

unpointed_nothing : {A : Type 0} (o : Outcome A) (f : Fault) → Only AtNone o → unpointed o ≡ refused f → Nothing f
unpointed_nothing (done a) f only e = absurd (let z : ◌≡◌ {A = ℕ} 0 1 = cc in omega arith)
unpointed_nothing (refused q) f only e = subst Nothing (fault_of e) (only q refl, refl)

-- judgement after judgement
then_fault : {A B C : Type 0} (o : Ruling A) (next : A → Ruling B) (f : Fault) → and_then o next ≡ refused f → (o ≡ refused f → C) → ((a : A) → o ≡ done a → next a ≡ refused f → C) → C
then_fault (done a) next f e own behind = behind a refl e
then_fault (refused g) next f e own behind = own (ap refused (fault_of e))

ruled_fault : {A : Type 0} (stage : Stage A) (f : Fault) → ruled stage ≡ refused f → stage ≡ faulty f
ruled_fault (read a past) f e = absurd (let z : ◌≡◌ {A = ℕ} 0 1 = cc in omega arith)
ruled_fault (faulty g) f e = ap faulty (fault_of e)

-- ---- the key box

test_false : (n : ℕ) → eqb n 8 ≡ false → n ≡ 8 → ⊥
test_false n e h = let z = sym e ∙ eq-eqb n 8 h in let y : ◌≡◌ {A = ℕ} 0 1 = cc in omega arith

-- two slices by the tests of their lengths
abbrev rows : Bool → Bool → List ℕ → List ℕ → Outcome (List ℕ × List ℕ)
rows x y block enciphered = and_then (unless Field15 x (nibs block)) (λ ns. and_then (unless Field15 y (nibs enciphered)) (λ es. done (ns, es)))

-- slices that are not 8 bytes point at an end, and no others are refused
slices_where : (end : ℕ) (block enciphered : List ℕ) (f : Fault) → pointing 0 end (slices block enciphered) ≡ refused f → (f ≡ record { refusal = Field15; field = 0; place = end }) × SlicesNotEight block enciphered
unfolding slices
slices_where end block enciphered f e = by_tests (eqb (length block) 8) (eqb (length enciphered) 8) refl refl e
  where
    by_tests : (x y : Bool) → eqb (length block) 8 ≡ x → eqb (length enciphered) 8 ≡ y
        → pointing 0 end (rows x y block enciphered) ≡ refused f
        → (f ≡ record { refusal = Field15; field = 0; place = end }) × SlicesNotEight block enciphered
    by_tests true true hx hy h = absurd (let z : ◌≡◌ {A = ℕ} 0 1 = cc in omega arith)
    by_tests true false hx hy h = (sym (fault_of h), λ _ l. test_false (length enciphered) hy l)
    by_tests false y hx hy h = (sym (fault_of h), λ l _. test_false (length block) hx l)

parities_nothing : (g h : Bool) → Only AtNone (parities g h)
unfolding parities
parities_nothing g h = then_only AtNone (unless PinKeyParity10 g (tt {0})) _ (test_only AtNone PinKeyParity10 refl g (tt {0})) (λ _. test_only AtNone PvkParity11 refl h (tt {0}))

box_where : {There : Type 0} (g h : Bool) (s block enciphered : List ℕ) (f : Fault) → boxed (length s) g h block enciphered ≡ refused f → Nothing f ⊎ (There ⊎ ((f ≡ at_the_end s) × SlicesNotEight block enciphered))
unfolding boxed
box_where g h s block enciphered f e =
    then_fault (pointing 0 (length s) (slices block enciphered)) _ f e (λ own. inr (inr (slices_where (length s) block enciphered f own)))
    (λ rows _ e₂. then_fault (unpointed (parities g h)) _ f e₂ (λ own. inl (unpointed_nothing (parities g h) f (parities_nothing g h) own))
    (λ _ _ e₃. absurd (let z : ◌≡◌ {A = ℕ} 0 1 = cc in omega arith)))

-- and such slices are refused
box_short : (g h : Bool) (s block enciphered : List ℕ) → SlicesNotEight block enciphered → boxed (length s) g h block enciphered ≡ refused (at_the_end s)
unfolding boxed slices
box_short g h s block enciphered short = by_tests (eqb (length block) 8) (eqb (length enciphered) 8) refl refl
  where
    by_tests : (x y : Bool) → eqb (length block) 8 ≡ x → eqb (length enciphered) 8 ≡ y
        → and_then (pointing 0 (length s) (rows x y block enciphered)) (λ rows. and_then (unpointed (parities g h)) (λ _. done rows))
        ≡ refused (at_the_end s)
    by_tests true true hx hy = absurd (short (eqb-true (length block) 8 hx) (eqb-true (length enciphered) 8 hy))
    by_tests true false hx hy = refl
    by_tests false y hx hy = refl

-- ---- a command of the shape

module _ {command : Code} {settings : Settings} {A B : Type 0} (c : Shape command settings A B)
    (There : List ℕ → ℕ → Fault → Type 0)
    (fields : (s : List ℕ) (at : ℕ) (f : Fault) → c.reader s at ≡ faulty f → There s at f)
    (asked : (s : List ℕ) (at : ℕ) (a : A) (past : ℕ) → c.reader s at ≡ read a past → (bytes : List ℕ) × (c.asked s a ≡ done bytes))
    (finish : (s : List ℕ) (a : A) (rows : List ℕ × List ℕ) → Only AtNone (c.finish s a rows)) where
  -- what the asking call refuses, its fields do
  ask_where : (s : List ℕ) (at : ℕ) (f : Fault) → ask_by command settings s at ≡ refused f → There s at f
  ask_where s at f e =
      then_fault (ruled (c.reader s at)) _ f (sym (c.asks s at) ∙ e) (λ own. fields s at f (ruled_fault (c.reader s at) f own))
      (λ a r g. let past = ruled_read (c.reader s at) a r in let d = asked s at a past.0 past.1 in absurd (let x = rw d.1 at g in let z : ◌≡◌ {A = ℕ} 0 1 = cc in omega arith))

  -- what the answering call refuses: its fields, or a slice, or what points at nothing
  answer_where : (g h : Bool) (s : List ℕ) (at : ℕ) (block enciphered : List ℕ) (f : Fault) → answer_by command settings g h s at block enciphered ≡ refused f
      → Nothing f ⊎ (There s at f ⊎ ((f ≡ at_the_end s) × SlicesNotEight block enciphered))
  answer_where g h s at block enciphered f e =
      then_fault (ruled (c.reader s at)) _ f (sym (c.answers g h s at block enciphered) ∙ e) (λ own. inr (inl (fields s at f (ruled_fault (c.reader s at) f own))))
      (λ a _ e₂. then_fault (boxed (length s) g h block enciphered) _ f e₂ (box_where g h s block enciphered f)
      (λ rows _ e₃. then_fault (unpointed (and_then (c.finish s a rows) (λ b. done (c.payload b)))) _ f e₃
      (λ own. inl (unpointed_nothing _ f (then_only AtNone (c.finish s a rows) _ (finish s a rows) (λ b. done_only AtNone (c.payload b))) own))
      (λ _ _ e₄. absurd (let z : ◌≡◌ {A = ℕ} 0 1 = cc in omega arith))))

  -- a command that the asking call takes is answered 15 at its end, where a slice is not 8 bytes
  answer_short : (g h : Bool) (s : List ℕ) (at : ℕ) (block enciphered bytes : List ℕ) → ask_by command settings s at ≡ done bytes → SlicesNotEight block enciphered
      → answer_by command settings g h s at block enciphered ≡ refused (at_the_end s)
  answer_short g h s at block enciphered bytes e short =
      let r = then_done (ruled (c.reader s at)) _ bytes (sym (c.asks s at) ∙ e) in
      let past = ruled_read (c.reader s at) r.0 r.1 in
      c.answers g h s at block enciphered ∙ rw (past.1, box_short g h s block enciphered short)

-- ---- the three commands

abbrev at_field_numbers : List ℕ
at_field_numbers = 3 ∷ 15 ∷ 23 ∷ 25 ∷ 26 ∷ 29 ∷ 69 ∷ []

-- at the fields, as the number says
abbrev Numbered : (Fault → Type 0) → Fault → Type 0
Numbered There f = (listed (number_of f.refusal) at_field_numbers ≡ true) × There f

fault_number : {A : Type 0} (ms : List ℕ) (stage : Stage A) (f : Fault) → stage ≡ faulty f → Only (In ms) (outcome stage) → listed (number_of f.refusal) ms ≡ true
fault_number ms stage f e only = only f.refusal (ap outcome e)

bk_finish_lem : (variable : Bool) (s : List ℕ) (p : bk.Bk) (rows : List ℕ × List ℕ) → Only AtNone (bk_finish variable s p rows)
unfolding bk_finish
bk_finish_lem variable s p rows = then_only AtNone (pair_in s p rows) _ (pair_only AtNone refl refl _ _ _) (rest_only AtNone variable (λ _. refl) refl s p)

verify_finish_lem : (variable : Bool) (s : List ℕ) (v : Verification) (rows : List ℕ × List ℕ) → Only AtNone (verify_finish variable s v rows)
unfolding verify_finish
verify_finish_lem variable s v rows = then_only AtNone (compared_in s v rows) _ (pair_only AtNone refl refl _ _ _) (verdict_only AtNone refl refl variable s v)

module _ (settings : Settings) where
  bk_fields_lem : (s : List ℕ) (at : ℕ) (f : Fault) → bk_fields settings.restricted s at ≡ faulty f → Numbered (λ g. PointsAt (bk_form settings.restricted) s at (pointer_of g)) f
  unfolding every
  bk_fields_lem s at f e =
      (fault_number at_field_numbers (bk_fields settings.restricted s at) f e (wider field_numbers at_field_numbers _ refl (fields_give settings.restricted s at)), bk_points_at settings.restricted s at f e)

  verify_fields_lem : (w : Verifying) (s : List ℕ) (at : ℕ) (f : Fault) → verify_fields (key_for w) s at ≡ faulty f → Numbered (λ g. PointsAt (verify_form (pin_key_rule_of w)) s at (pointer_of g)) f
  unfolding every
  verify_fields_lem w s at f e =
      (fault_number at_field_numbers (verify_fields (key_for w) s at) f e (wider shared_numbers at_field_numbers _ refl (verify_fields_give (key_for w) s at)), verify_points_at w s at f e)

  -- by the code: the fields, or 68
  ask_by_lem : (code : Code) (s : List ℕ) (f : Fault) → ask_by code settings s (settings.header + 2) ≡ refused f → Nothing f ⊎ Numbered (λ g. InCommand code settings s (pointer_of g)) f
  unfolding ask_by
  ask_by_lem Bk s f e = inr (ask_where (bk_shape settings) (λ s at f. Numbered (λ g. PointsAt (bk_form settings.restricted) s at (pointer_of g)) f) bk_fields_lem (asked_done settings.restricted) (bk_finish_lem settings.variable) s _ f e)
  ask_by_lem Da s f e = inr (ask_where (verify_shape terminal settings) (λ s at f. Numbered (λ g. PointsAt (verify_form terminal_key_rule) s at (pointer_of g)) f) (verify_fields_lem terminal) (verify_asked (key_for terminal)) (verify_finish_lem settings.variable) s _ f e)
  ask_by_lem Ea s f e = inr (ask_where (verify_shape zone settings) (λ s at f. Numbered (λ g. PointsAt (verify_form zone_key_rule) s at (pointer_of g)) f) (verify_fields_lem zone) (verify_asked (key_for zone)) (verify_finish_lem settings.variable) s _ f e)
  ask_by_lem Other s f e = inl (subst Nothing (fault_of e) (refl, refl))

  module _ (g h : Bool) (s block enciphered : List ℕ) where
    abbrev Answers : Code → Fault → Type 0
    Answers code f = Nothing f ⊎ (Numbered (λ g. InCommand code settings s (pointer_of g)) f ⊎ ((f ≡ at_the_end s) × SlicesNotEight block enciphered))

    answer_by_lem : (code : Code) (f : Fault) → answer_by code settings g h s (settings.header + 2) block enciphered ≡ refused f → Answers code f
    unfolding answer_by
    answer_by_lem Bk f e = answer_where (bk_shape settings) (λ s at f. Numbered (λ g. PointsAt (bk_form settings.restricted) s at (pointer_of g)) f) bk_fields_lem (asked_done settings.restricted) (bk_finish_lem settings.variable) g h s _ block enciphered f e
    answer_by_lem Da f e = answer_where (verify_shape terminal settings) (λ s at f. Numbered (λ g. PointsAt (verify_form terminal_key_rule) s at (pointer_of g)) f) (verify_fields_lem terminal) (verify_asked (key_for terminal)) (verify_finish_lem settings.variable) g h s _ block enciphered f e
    answer_by_lem Ea f e = answer_where (verify_shape zone settings) (λ s at f. Numbered (λ g. PointsAt (verify_form zone_key_rule) s at (pointer_of g)) f) (verify_fields_lem zone) (verify_asked (key_for zone)) (verify_finish_lem settings.variable) g h s _ block enciphered f e
    answer_by_lem Other f e = inl (subst Nothing (fault_of e) (refl, refl))

    short_by : (code : Code) (at : ℕ) (bytes : List ℕ) → ask_by code settings s at ≡ done bytes → SlicesNotEight block enciphered → answer_by code settings g h s at block enciphered ≡ refused (at_the_end s)
    unfolding ask_by answer_by
    short_by Bk at bytes e short = answer_short (bk_shape settings) (λ s at f. Unit {0}) (λ s at f e. tt) (asked_done settings.restricted) (bk_finish_lem settings.variable) g h s at block enciphered bytes e short
    short_by Da at bytes e short = answer_short (verify_shape terminal settings) (λ s at f. Unit {0}) (λ s at f e. tt) (verify_asked (key_for terminal)) (verify_finish_lem settings.variable) g h s at block enciphered bytes e short
    short_by Ea at bytes e short = answer_short (verify_shape zone settings) (λ s at f. Unit {0}) (λ s at f e. tt) (verify_asked (key_for zone)) (verify_finish_lem settings.variable) g h s at block enciphered bytes e short
    short_by Other at bytes e short = absurd (let z : ◌≡◌ {A = ℕ} 0 1 = cc in omega arith)

-- ---- the calls

-- 901 and 902 point at nothing; otherwise the code stands behind the header
opened_where : {C : Type 0} (least room header : ℕ) (s : List ℕ) → ((q : Refusal) → opened least room header s ≡ refused q → AtNone q → C) → (is_framed header s ≡ true → opened least room header s ≡ done header → C) → C
opened_where {C} least room header s silent goes = by_tests (leb least room) (is_framed header s) refl refl
  where
    by_tests : (x y : Bool) → leb least room ≡ x → is_framed header s ≡ y → C
    by_tests false y hx hy = silent Room901 (rw hx) refl
    by_tests true false hx hy = silent Frame902 (rw (hx, hy)) refl
    by_tests true true hx hy = goes hy (rw (hx, hy))

asking_points : (settings : Settings) (s : List ℕ) (room : ℕ) (f : Fault) → asking settings s room ≡ refused f → Nothing f ⊎ AtFields settings s f.refusal (pointer_of f)
unfolding asking
asking_points settings s room f e =
    opened_where 8 room settings.header s
    (λ q o n. inl (subst Nothing (fault_of (rw o at e)) (n, refl)))
    (λ _ o. ask_by_lem settings (code_in settings s) s f (rw o at e))

replying_points : (settings : Settings) (g h : Bool) (s block enciphered : List ℕ) (room : ℕ) (f : Fault) → replying settings g h s block enciphered room ≡ refused f
    → Nothing f ⊎ (AtFields settings s f.refusal (pointer_of f) ⊎ ((f ≡ at_the_end s) × SlicesNotEight block enciphered))
unfolding replying
replying_points settings g h s block enciphered room f e =
    opened_where 65 room settings.header s
    (λ q o n. inl (subst Nothing (fault_of (rw o at e)) (n, refl)))
    (λ _ o. then_fault (answer_by (code_in settings s) settings g h s (settings.header + 2) block enciphered) _ f (rw o at e) (answer_by_lem settings g h s block enciphered (code_in settings s) f)
    (λ _ _ d. absurd (let z : ◌≡◌ {A = ℕ} 0 1 = cc in omega arith)))

-- what is shown of a fault is its pointer
pub ask_points : AskPoints
ask_points settings s room f e = subst (λ (at : Pointer). AtNothing f.refusal at ⊎ AtFields settings s f.refusal at) (sym (ap shown e)) (asking_points settings s room f e)

pub answer_points : AnswerPoints
answer_points settings g h s block enciphered room f e =
    subst (λ (at : Pointer). AtNothing f.refusal at ⊎ (AtFields settings s f.refusal at ⊎ (AtTheEnd s f.refusal at × SlicesNotEight block enciphered))) (sym (ap shown e))
    (by_kind (replying_points settings g h s block enciphered room f e))
  where
    by_kind : Nothing f ⊎ (AtFields settings s f.refusal (pointer_of f) ⊎ ((f ≡ at_the_end s) × SlicesNotEight block enciphered))
        → AtNothing f.refusal (pointer_of f) ⊎ (AtFields settings s f.refusal (pointer_of f) ⊎ (AtTheEnd s f.refusal (pointer_of f) × SlicesNotEight block enciphered))
    by_kind (inl a) = inl a
    by_kind (inr (inl b)) = inr (inl b)
    by_kind (inr (inr (same, short))) = inr (inr ((ap (λ (g : Fault). g.refusal) same, ap pointer_of same), short))

-- the same frame for both calls
same_frame : (settings : Settings) (s : List ℕ) (room room' : ℕ) → 8 ≤ room → 65 ≤ room' → opened 8 room settings.header s ≡ opened 65 room' settings.header s
same_frame settings s room room' k k' = rw (le-leb 8 room k, le-leb 65 room' k')

pub both_point_alike : BothPointAlike
unfolding asking replying
both_point_alike settings g h s block enciphered room room' f k k' e = by_frame (opened 8 room settings.header s) (same_frame settings s room room' k k') e
  where
    by_frame : (o : Outcome ℕ) → o ≡ opened 65 room' settings.header s → and_then (unpointed o) (λ code. ask_by (code_of (drop code s)) settings s (code + 2)) ≡ refused f
        → and_then (unpointed (opened 65 room' settings.header s)) (λ code. commanded settings g h s block enciphered code) ≡ refused f
    by_frame (done code) o d = rw (← o, refused_alike settings g h s block enciphered (code_of (drop code s)) (code + 2) f d)
    by_frame (refused q) o d = rw (← o) (ap refused (fault_of d))

slices_refused : (settings : Settings) (g h : Bool) (s block enciphered : List ℕ) (room room' : ℕ) (bytes : List ℕ) → asking settings s room ≡ done bytes → 65 ≤ room' → SlicesNotEight block enciphered
    → replying settings g h s block enciphered room' ≡ refused (at_the_end s)
unfolding asking replying
slices_refused settings g h s block enciphered room room' bytes e k short =
    let o = then_done (unpointed (opened 8 room settings.header s)) _ bytes e in
    let code = pointing_done 0 0 (opened 8 room settings.header s) o.0 o.1 in
    let roomy = then_done (unless Room901 (leb 8 room) room) _ o.0 code in
    rw (le-leb 65 room' k, roomy.2, short_by settings g h s block enciphered (code_of (drop o.0 s)) (o.0 + 2) bytes o.2 short)

pub slices_at_the_end : SlicesAtTheEnd
slices_at_the_end settings g h s block enciphered room room' bytes e k short =
    let r = slices_refused settings g h s block enciphered room room' bytes e k short in
    (ap number_in r, ap shown r)

shown_inside : {A : Type 0} (s : List ℕ) (o : Ruling A) → RulesShort s o → (shown o).place ≤ length s
shown_inside s (done a) r = omega arith
shown_inside s (refused f) r = r.0.place

pub place_inside : PlaceInside
place_inside = (
  λ settings s room. shown_inside s (asking settings s room) (asking_rules s settings room),
  λ settings g h s block enciphered room. shown_inside s (replying settings g h s block enciphered room) (replying_rules s settings g h block enciphered room),
)

-- ---- numbers that show nothing

abbrev quiet_numbers : List ℕ
quiet_numbers = 0 ∷ unpointed_numbers

-- a field's number is none of them
pointed_other : (n : ℕ) → listed n quiet_numbers ≡ true → listed n at_field_numbers ≡ true → ⊥
unfolding every
pointed_other n quiet pointed = let z = listed_passes (λ m. not (listed m quiet_numbers)) n at_field_numbers refl pointed in let y : ◌≡◌ {A = Bool} true false = sym z ∙ ap not quiet in let x : ◌≡◌ {A = ℕ} 0 1 = cc in omega arith

pub numbers_show_nothing : NumbersShowNothing
numbers_show_nothing = (
  λ settings s room. by_ask settings s room (asking settings s room) refl,
  λ settings g h s block enciphered room. by_answer settings g h s block enciphered room (replying settings g h s block enciphered room) refl,
)
  where
    by_ask : (settings : Settings) (s : List ℕ) (room : ℕ) (o : Ruling (List ℕ)) → asking settings s room ≡ o → NothingShown o
    by_ask settings s room (done w) e quiet = refl
    by_ask settings s room (refused f) e quiet = by_kind (asking_points settings s room f e)
      where
        by_kind : Nothing f ⊎ AtFields settings s f.refusal (pointer_of f) → pointer_of f ≡ nowhere
        by_kind (inl a) = a.1
        by_kind (inr b) = absurd (pointed_other (number_of f.refusal) quiet b.0)

    by_answer : (settings : Settings) (g h : Bool) (s block enciphered : List ℕ) (room : ℕ) (o : Ruling (List ℕ)) → replying settings g h s block enciphered room ≡ o → NothingShown o
    by_answer settings g h s block enciphered room (done w) e quiet = refl
    by_answer settings g h s block enciphered room (refused f) e quiet = by_kind (replying_points settings g h s block enciphered room f e)
      where
        by_kind : Nothing f ⊎ (AtFields settings s f.refusal (pointer_of f) ⊎ ((f ≡ at_the_end s) × SlicesNotEight block enciphered)) → pointer_of f ≡ nowhere
        by_kind (inl a) = a.1
        by_kind (inr (inl b)) = absurd (pointed_other (number_of f.refusal) quiet b.0)
        by_kind (inr (inr (same, short))) = absurd (pointed_other (number_of f.refusal) quiet (ap (λ (g : Fault). listed (number_of g.refusal) at_field_numbers) same))
