-- The numbers that the asking and the answering call answer, and the count of bytes with each, by the command's code.
-- Assumes nothing.
use Prim.Native.Nat.{ℕ, ◌+◌, ◌≤◌, ◌<◌}
use native.Mathlib.Omega.{arith}
use mathlib.Core.Path.{◌≡◌, refl, sym, ap, ◌∙◌, subst}
use mathlib.Core.List.{List, ◌∷◌}
use mathlib.Core.Bool.{Bool, true, false, not, ◌||◌, false≢true}
use lib.ListN.{length, drop, length-append}
use lib.Dec.{leb, eqb, ltb}
use borrow.Author.Tests.{not-true, eq-eqb, ne_eqb, ltb-true}
use Rattle.nibbles.specs.Nibbles.{every}
use Rattle.numbers.specs.Numbers.{Outcome, done, refused, and_then, unless, number_of}
use Rattle.numbers.specs.Promise.{Said, quietly}
use Rattle.numbers.specs.declared.Refusal.{Refusal}
use Rattle.numbers.specs.declared.Refusal.TheVariants.{PinKeyParity10, PvkParity11, Field15, Block20, Length24, Code68, Check81, Weak86, Room901, Frame902}
use Rattle.numbers.proofs.Laws.{then_done, value_of_lem}
use Rattle.settings.specs.declared.Settings.{Settings}
use Rattle.answers.proofs.Laws.{sixteen_bytes}
use Rattle.ibm3624.specs.Ibm3624.{covers, offset_of}
use Rattle.offsettexts.proofs.Laws.{text_length}
use Rattle.offsets.specs.Offsets.{offset_for}
use Rattle.frame.specs.Frame.{is_framed, code_of, opening}
use Rattle.frame.specs.declared.Code.{Code}
use Rattle.frame.specs.declared.Code.TheVariants.{Bk, Da, Ea, Other}
use Rattle.frame.proofs.Laws.{framed_bounds, opening_length}
use Rattle.fields.specs.Fields.{unpointed, heard}
use Rattle.fields.proofs.Rulings.{heard_done}
use Rattle.weak.specs.Weak.{is_on, weak_pins}
use Rattle.responses.specs.Responses.{Payload, answer_text, responding}
use Rattle.bkfinish.specs.BkFinish.{bk_finish}
use Rattle.verifyfinish.specs.VerifyFinish.{verify_finish}
use Rattle.bkfields.specs.declared.Bk as fields
use Rattle.commands.specs.Commands.{ask_by, answer_by, opened, asking, asked, answered, commanded, silently}
use Rattle.commands.proofs.Laws.{asked_block}
use Rattle.claims_blocks.specs.Promises.{listed}
use Rattle.claims_blocks.proofs.Judged.{Only, done_only, refused_only, test_only, then_only}
use Rattle.claims_numbers.proofs.Numbers.{never_00}
use Rattle.claims_numbers.proofs.Refused.{covers_only}
use Rattle.claims_commands.specs.Runs.{code_in, pair_in, Verifying, terminal, zone, code_for, key_for, compared_in}
use Rattle.claims_commands.specs.Numbers.{verify_ask_numbers, verify_numbers, ask_numbers, answer_numbers, Numbered, AskCounts, VerifiedCount, DoneCount, AnswerCounts, AskNumbers, AnswerNumbers, VariableNever81}
use Rattle.claims_commands.proofs.Fields.{listed_passes, In, wider, shared_numbers, field_numbers, then_heard, fields_give, verify_fields_give}
use Rattle.claims_commands.proofs.Shapes.{pair_only, asked_only, ask_only, answer_only, answer_long}
use Rattle.claims_commands.proofs.Listing.{bk_shape}
use Rattle.claims_commands.proofs.Verifying.{verify_shape, verdict_only}

-- ---- before the code

-- 901, 902, or there is room and a frame
opened_cases : (least room header : ℕ) (s : List ℕ) (holds : Outcome ℕ → Type 0) → holds (refused Room901) → holds (refused Frame902) → (is_framed header s ≡ true → holds (done header))
    → holds (opened least room header s)
opened_cases least room header s holds narrow frameless framed = by_tests (leb least room) (is_framed header s) refl
  where
    by_tests : (roomy framed : Bool) → is_framed header s ≡ framed → holds (and_then (unless Room901 roomy room) (λ _. unless Frame902 framed header))
    by_tests false framed e = narrow
    by_tests true false e = frameless
    by_tests true true e = framed e

-- a number behind these two
behind_these : (n : ℕ) (ns : List ℕ) → listed n ns ≡ true → listed n (901 ∷ 902 ∷ ns) ≡ true
behind_these n ns e = either (eqb n 901) _ (either (eqb n 902) _ e)
  where
    either : (a b : Bool) → b ≡ true → (a || b) ≡ true
    either true b e = refl
    either false b e = e

-- ---- BK

-- its refusals by the answering call, but 81
abbrev others : List ℕ
others = 10 ∷ 11 ∷ 20 ∷ 24 ∷ 86 ∷ field_numbers

-- what it comes to behind its PIN
abbrev pub bk_rest : Bool → List ℕ → fields.Bk → List ℕ × List ℕ → Outcome (List ℕ)
bk_rest variable s p pair = and_then (offset_for variable p.offsetting.check pair) (λ ds. unless Weak86 (not (is_on pair.0 (weak_pins p.weak s))) ds)

-- over any refusals that hold those named: 81 and not where the offset has variable length, 86
pub rest_only : (these : Refusal → Type 0) (variable : Bool) → (variable ≡ false → these Check81) → these Weak86 → (s : List ℕ) (p : fields.Bk) (pair : List ℕ × List ℕ)
    → Only these (bk_rest variable s p pair)
rest_only these variable v w s p pair =
    then_only these (offset_for variable p.offsetting.check pair) _
    (then_only these (covers variable p.offsetting.check (length pair.0)) _ (covers_only these variable v p.offsetting.check (length pair.0))
    (λ m. done_only these (offset_of m pair.0 pair.1)))
    (λ ds. test_only these Weak86 w (not (is_on pair.0 (weak_pins p.weak s))) ds)

-- for what the answering call is refused
bk_only : (these : Refusal → Type 0) → ((q : Refusal) → In others q → these q) → (settings : Settings) → (settings.variable ≡ false → these Check81)
    → (g h : Bool) (s : List ℕ) (at : ℕ) (block enciphered : List ℕ) → Only these (heard (answer_by Bk settings g h s at block enciphered))
unfolding bk_finish every
bk_only these held settings v g h s at block enciphered =
    answer_only (bk_shape settings) these (held Field15 refl) (held PinKeyParity10 refl) (held PvkParity11 refl) g h s at block enciphered
    (λ q e. held q (wider field_numbers others _ refl (fields_give settings.restricted s at) q e))
    (λ p rows. then_only these (pair_in s p rows) _ (pair_only these (held Block20 refl) (held Length24 refl) _ _ _) (rest_only these settings.variable v (held Weak86 refl) s p))

-- ---- DA and EA

module _ (w : Verifying) (settings : Settings) where
  verify_asks : (s : List ℕ) (at : ℕ) → Only (In verify_ask_numbers) (heard (ask_by (code_for w) settings s at))
  unfolding every
  verify_asks s at =
      ask_only (verify_shape w settings) (In verify_ask_numbers) s at (wider shared_numbers verify_ask_numbers _ refl (verify_fields_give (key_for w) s at))
      (λ v. asked_only (In verify_ask_numbers) refl s v.offsetting)

  module _ (g h : Bool) (s : List ℕ) (at : ℕ) (block enciphered : List ℕ) where
    verify_gives : Only (In verify_numbers) (heard (answer_by (code_for w) settings g h s at block enciphered))
    unfolding verify_finish every
    verify_gives =
        answer_only (verify_shape w settings) (In verify_numbers) refl refl refl g h s at block enciphered
        (wider shared_numbers verify_numbers _ refl (verify_fields_give (key_for w) s at))
        (λ v rows. then_only (In verify_numbers) (compared_in s v rows) _ (pair_only (In verify_numbers) refl refl _ _ _) (verdict_only (In verify_numbers) refl refl settings.variable s v))

    -- 00 brings nothing but the trailer
    verify_count : (header : ℕ) (d : Payload × ℕ) → answer_by (code_for w) settings g h s at block enciphered ≡ done d → VerifiedCount header (header + 4 + length (answer_text s d))
    verify_count header d e =
        let long = answer_long (verify_shape w settings) 0 (λ _ _. refl) g h s at block enciphered d e in
        (omega arith, omega (arith, long.1))

-- ---- the asking call, by the code

ask_gives : (code : Code) (settings : Settings) (s : List ℕ) (at : ℕ) → Only (In (ask_numbers code)) (heard (ask_by code settings s at))
unfolding ask_by every
ask_gives Bk settings s at =
    ask_only (bk_shape settings) (In (ask_numbers Bk)) s at (wider field_numbers (ask_numbers Bk) _ refl (fields_give settings.restricted s at)) (λ p. asked_only (In (ask_numbers Bk)) refl s p.offsetting)
ask_gives Da settings s at = verify_asks terminal settings s at
ask_gives Ea settings s at = verify_asks zone settings s at
ask_gives Other settings s at = refused_only (In (ask_numbers Other)) Code68 refl

-- a code that asks for something has 00
ask_done : (code : Code) (settings : Settings) (s : List ℕ) (at : ℕ) (w : List ℕ) → ask_by code settings s at ≡ done w → listed 0 (ask_numbers code) ≡ true
unfolding ask_by
ask_done Bk settings s at w e = refl
ask_done Da settings s at w e = refl
ask_done Ea settings s at w e = refl
ask_done Other settings s at w e = absurd (let z : ◌≡◌ {A = ℕ} 0 1 = cc in omega arith)

-- ---- the asking call

ask_numbered : (code : Code) (o : Outcome (List ℕ)) → Only (In (ask_numbers code)) o → ((w : List ℕ) → o ≡ done w → listed 0 (ask_numbers code) ≡ true) → Numbered (ask_numbers code) (quietly o)
ask_numbered code (done w) c zero = zero w refl
ask_numbered code (refused q) c zero = behind_these (number_of q) (ask_numbers code) (c q refl)

ask_counts : (o : Outcome (List ℕ)) → ((w : List ℕ) → o ≡ done w → length w ≡ 8) → AskCounts (quietly o)
ask_counts (done w) long = (λ _. long w refl, λ h. absurd (h refl))
ask_counts (refused q) long = (λ e. absurd (never_00 q (sym e)), λ _. refl)

pub ask_numbers_lem : AskNumbers
unfolding asking
ask_numbers_lem settings s room = (
  opened_cases 8 room settings.header s (λ o. Numbered (ask_numbers (code_in settings s)) (quietly (heard (and_then (unpointed o) (λ code. ask_by (code_of (drop code s)) settings s (code + 2)))))) refl refl
      (λ _. ask_numbered (code_in settings s) _ (ask_gives (code_in settings s) settings s (settings.header + 2)) (λ w e. ask_done (code_in settings s) settings s (settings.header + 2) w (heard_done _ w e))),
  ask_counts (asked settings s room) (λ w e. let b = (asked_block settings s room w (heard_done (asking settings s room) w e)).1 in ap length b.2 ∙ sixteen_bytes b.0 b.1),
)

-- ---- the answering call, by the code

-- its numbers behind the frame have two digits
two_digits : (code : Code) → every (λ m. ltb m 100) (answer_numbers code) ≡ true
unfolding every
two_digits Bk = refl
two_digits Da = refl
two_digits Ea = refl
two_digits Other = refl

module _ (settings : Settings) (g h : Bool) (s block enciphered : List ℕ) where
  answer_gives : (code : Code) (at : ℕ) → Only (In (answer_numbers code)) (heard (answer_by code settings g h s at block enciphered))
  unfolding answer_by every
  answer_gives Bk at = bk_only (In (answer_numbers Bk)) (λ q. listed_passes (λ m. listed m (answer_numbers Bk)) (number_of q) others refl) settings (λ _. refl) g h s at block enciphered
  answer_gives Da at = verify_gives terminal settings g h s at block enciphered
  answer_gives Ea at = verify_gives zone settings g h s at block enciphered
  answer_gives Other at = refused_only (In (answer_numbers Other)) Code68 refl

  -- a code that answers something has 00, and as many bytes go with it as are said: BK brings an offset
  answer_done : (code : Code) (at header : ℕ) (d : Payload × ℕ) → answer_by code settings g h s at block enciphered ≡ done d
      → (listed 0 (answer_numbers code) ≡ true) × DoneCount code header (header + 4 + length (answer_text s d))
  unfolding answer_by
  answer_done Bk at header d e =
      let long = answer_long (bk_shape settings) 12 (λ ds f. text_length ds f.0) g h s at block enciphered d e in
      (refl, (omega (arith, long.0), omega (arith, long.1)))
  answer_done Da at header d e = (refl, verify_count terminal settings g h s at block enciphered header d e)
  answer_done Ea at header d e = (refl, verify_count zone settings g h s at block enciphered header d e)
  answer_done Other at header d e = absurd (let z : ◌≡◌ {A = ℕ} 0 1 = cc in omega arith)

  -- so of a command that has a frame: what it is refused for
  commanded_gives : (at : ℕ) → Only (In (answer_numbers (code_of (drop at s)))) (heard (commanded settings g h s block enciphered at))
  commanded_gives at =
      let these = In (answer_numbers (code_of (drop at s))) in
      then_heard these (answer_by (code_of (drop at s)) settings g h s (at + 2) block enciphered) _ (answer_gives (code_of (drop at s)) (at + 2)) (λ d. done_only these (answer_text s d))

  pub two_digit : (at : ℕ) (q : Refusal) → heard (commanded settings g h s block enciphered at) ≡ refused q → number_of q < 100
  two_digit at q e = ltb-true (number_of q) 100 (listed_passes (λ m. ltb m 100) (number_of q) _ (two_digits (code_of (drop at s))) (commanded_gives at q e))

  -- and how long what it answers is
  commanded_done : (at header : ℕ) (w : List ℕ) → heard (commanded settings g h s block enciphered at) ≡ done w
      → (listed 0 (answer_numbers (code_of (drop at s))) ≡ true) × DoneCount (code_of (drop at s)) header (header + 4 + length w)
  commanded_done at header w e =
      let a = then_done (answer_by (code_of (drop at s)) settings g h s (at + 2) block enciphered) _ w (heard_done _ w e) in
      let d = answer_done (code_of (drop at s)) (at + 2) header a.0 a.1 in
      (d.0, subst (λ (v : List ℕ). DoneCount (code_of (drop at s)) header (header + 4 + length v)) (value_of_lem a.2) d.1)

-- ---- the answering call

-- the response to a command that has a frame: its numbers, and its counts
respond_told : (code : Code) (header : ℕ) (s : List ℕ) (o : Outcome (List ℕ)) → header + 2 ≤ length s
    → Only (In (answer_numbers code)) o → ((q : Refusal) → o ≡ refused q → number_of q < 100)
    → ((w : List ℕ) → o ≡ done w → (listed 0 (answer_numbers code) ≡ true) × DoneCount code header (header + 4 + length w))
    → Numbered (answer_numbers code) (responding header s o) × AnswerCounts code header (responding header s o)
respond_told code header s (done w) inside c small long =
    let opened = opening_length header s 0 inside in
    let both = length-append (opening header s 0) w in
    let n : header + 4 + length w ≡ length (responding header s (done w)).written = omega (arith, opened, both) in
    ((long w refl).0, (λ e. absurd (false≢true e), λ _. subst (DoneCount code header) n (long w refl).1, λ e. absurd (false≢true (sym e))))
respond_told code header s (refused q) inside c small long =
    let n = small q refl in (
      behind_these (number_of q) (answer_numbers code) (c q refl),
      (
        λ e. absurd (false≢true (rw (ne_eqb (number_of q) 901 (λ k. omega (arith, n, k)), ne_eqb (number_of q) 902 (λ k. omega (arith, n, k))) at e)),
        λ e. absurd (never_00 q (sym e)),
        λ _. opening_length header s (number_of q) inside,
      ),
    )

-- 901, 902, or such a response
one_of_three : (settings : Settings) (g h : Bool) (s block enciphered : List ℕ) (room : ℕ) (says : Said ℕ → Type 0) → says (quietly (refused Room901)) → says (quietly (refused Frame902))
    → (is_framed settings.header s ≡ true → says (responding settings.header s (heard (commanded settings g h s block enciphered settings.header))))
    → says (answered settings g h s block enciphered room)
unfolding answered
one_of_three settings g h s block enciphered room says =
    opened_cases 65 room settings.header s
    (λ o. says (silently (and_then o (λ code. done (responding settings.header s (heard (commanded settings g h s block enciphered code)))))))

pub answer_numbers_lem : AnswerNumbers
answer_numbers_lem settings g h s block enciphered room =
    one_of_three settings g h s block enciphered room (λ said. Numbered (answer_numbers (code_in settings s)) said × AnswerCounts (code_in settings s) settings.header said)
    (refl, (λ _. refl, λ e. absurd (omega arith), λ e. absurd (false≢true (sym e))))
    (refl, (λ _. refl, λ e. absurd (omega arith), λ e. absurd (false≢true (sym e))))
    (λ e. respond_told (code_in settings s) settings.header s (heard (commanded settings g h s block enciphered settings.header)) (framed_bounds settings.header s e).2
    (commanded_gives settings g h s block enciphered settings.header) (two_digit settings g h s block enciphered settings.header)
    (commanded_done settings g h s block enciphered settings.header settings.header))

pub variable_never_81 : VariableNever81
unfolding every
variable_never_81 settings g h s block enciphered room variable coded =
    one_of_three settings g h s block enciphered room (λ said. said.number ≡ 81 → ⊥) (λ e. omega arith) (λ e. omega arith)
    (λ _. respond_not (heard (commanded settings g h s block enciphered header)) (then_heard Not81 (answer_by (code_in settings s) settings g h s (header + 2) block enciphered) _
    (subst (λ (c : Code). Only Not81 (heard (answer_by c settings g h s (header + 2) block enciphered))) (sym coded) gives) (λ d. done_only Not81 (answer_text s d))))
  where
    header : ℕ
    header = settings.header

    Not81 : Refusal → Type 0
    Not81 q = eqb (number_of q) 81 ≡ false

    gives : Only Not81 (heard (answer_by Bk settings g h s (header + 2) block enciphered))
    gives =
        bk_only Not81 (λ q k. not-true _ (listed_passes (λ m. not (eqb m 81)) (number_of q) others refl k)) settings (λ e. absurd (false≢true (sym e ∙ variable))) g h s (header + 2) block enciphered

    respond_not : (o : Outcome (List ℕ)) → Only Not81 o → (responding header s o).number ≡ 81 → ⊥
    respond_not (done w) c e = omega arith
    respond_not (refused q) c e = false≢true (sym (c q refl) ∙ eq-eqb (number_of q) 81 e)
