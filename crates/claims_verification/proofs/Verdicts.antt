-- What a DA or an EA that finds its PIN answers.
-- Assumes nothing.
use Prim.Native.Nat.{ℕ, ◌+◌}
use native.Mathlib.Omega.{arith}
use mathlib.Core.Path.{◌≡◌, refl, sym, ap, ◌∙◌, subst}
use mathlib.Core.Logic.{◌↔◌}
use mathlib.Core.List.{List, [], ◌∷◌, ◌++◌, map, append_assoc}
use mathlib.Core.Bool.{Bool, true, false, ◌&&◌, cond, false≢true}
use lib.ListN.{length, take, drop, length-map}
use lib.Seq.{length-take-le}
use lib.Dec.{leb, eqb}
use borrow.Author.Tests.{eq-eqb, eqb-true, lt-leb}
use Rattle.nibbles.specs.Nibbles.{within, every, same}
use Rattle.nibbles.proofs.Lists.{same_refl, same_true}
use Rattle.nibbles.proofs.Runs.{leading_le}
use Rattle.alphabet.specs.Alphabet.{admits, begins, value_of}
use Rattle.alphabet.specs.declared.Class.TheVariants.{Digit}
use Rattle.numbers.specs.Numbers.{Outcome, done, refused, and_then, unless, number_of}
use Rattle.numbers.specs.Promise.{Said}
use Rattle.numbers.specs.declared.Refusal.{Refusal}
use Rattle.numbers.specs.declared.Refusal.TheVariants.{Field15, Check81, Room901, Frame902}
use Rattle.numbers.proofs.Laws.{passed}
use Rattle.settings.specs.Settings.{restricted_to}
use Rattle.settings.specs.declared.Settings.{Settings}
use Rattle.pins.specs.Pins.{verdict}
use Rattle.pins.proofs.Laws.{digits_below}
use Rattle.ibm3624.specs.Ibm3624.{covers, covered, offset_of}
use Rattle.ibm3624.proofs.Laws.{reduced_below, offset_many}
use Rattle.offsettexts.specs.OffsetTexts.{offset_text, digit_end, offset_presented}
use Rattle.offsets.proofs.Laws.{covers_within}
use Rattle.verdicts.specs.Verdicts.{verdict_on}
use Rattle.frame.specs.Frame.{is_framed, code_of, bk, da, ea, in_two_digits, opening}
use Rattle.frame.specs.declared.Code.TheVariants as code
use Rattle.frame.proofs.Laws.{code_answered}
use Rattle.fields.specs.Fields.{unpointed, heard}
use Rattle.keybox.proofs.Laws.{boxed_sixteen}
use Rattle.responses.specs.Responses.{responding}
use Rattle.offsetting.specs.Offsetting.{part}
use Rattle.offsetfield.proofs.Laws.{offset_held}
use Rattle.offsetfield.proofs.Laws as field
use Rattle.pairing.proofs.Laws.{pair_within}
use Rattle.verifyfields.specs.VerifyFields.{offset_in}
use Rattle.verifyfields.specs.declared.Verification.{Verification}
use Rattle.verifyfields.proofs.Places.{placed}
use Rattle.verifyfinish.specs.VerifyFinish.{verify_finish}
use Rattle.commands.specs.Commands.{ask_by, answer_by, asking, answered, commanded, silently}
use Rattle.texts.specs.Characters.{printed}
use Rattle.claims_blocks.specs.Promises.{listed}
use Rattle.claims_numbers.proofs.Numbers.{never_00}
use Rattle.claims_numbers.proofs.Refused.{covers_only}
use Rattle.claims_offsets.proofs.Converse.{presented_text_lem}
use Rattle.claims_commands.specs.Runs.{Verifying, terminal, zone, code_for, key_for, compared_in}
use Rattle.claims_commands.proofs.Fields.{listed_passes, In, shared_numbers, verify_fields_give}
use Rattle.claims_commands.proofs.Shapes.{reached, pair_only}
use Rattle.claims_commands.proofs.Told.{text_once}
use Rattle.claims_commands.proofs.PinsRead.{Other, other, Pinned, finds_exactly}
use Rattle.claims_commands.proofs.Verifying.{verify_shape, parts, verdict_only}
use Rattle.claims_verification.specs.Calls.{Call, answer, Finds, shown_in, ReachesVerdict}
use Rattle.claims_verification.specs.Verdicts.{Judges, CommandVerdictExactly, LongCheck81, VariableVerdict, VerifyReadsExactly, ReachesVerdictExactly, response_for, saying, verified, VerdictBytes, RestrictedTouchesNot}

-- ---- the verdict, by two tests

-- of the count of digits, then of the digits
abbrev by_tests : ℕ → Bool → Bool → Outcome (List ℕ)
by_tests m counted alike = and_then (unless Check81 counted m) (λ _. verdict alike)

-- the number that goes with it
abbrev numbered : Outcome (List ℕ) → ℕ
numbered (done x) = 0
numbered (refused q) = number_of q

numbered_said : (header : ℕ) (s tail : List ℕ) (o : Outcome (List ℕ)) → (responding header s (and_then o (λ _. done tail))).number ≡ numbered o
numbered_said header s tail (done x) = refl
numbered_said header s tail (refused q) = refl

judges : (m n : ℕ) (shown offset : List ℕ) (counted alike : Bool) → n ≡ numbered (by_tests m counted alike)
    → (counted ≡ true) ↔ (digit_end shown ≡ m) → (alike ≡ true) ↔ (shown ≡ offset_text offset) → (shown ≡ offset_text offset → digit_end shown ≡ m)
    → Judges m n shown offset
judges m n shown offset true true e d t k =
    let is : n ≡ 0 = e in
    ((λ z. absurd (omega arith), λ z. absurd (z (d.0 refl))), (λ _. t.0 refl, λ _. is), (λ z. absurd (omega arith), λ z. absurd (z.1 (t.0 refl))))
judges m n shown offset true false e d t k =
    let is : n ≡ 1 = e in
    ((λ z. absurd (omega arith), λ z. absurd (z (d.0 refl))), (λ z. absurd (omega arith), λ z. absurd (false≢true (t.1 z))), (λ _. (d.0 refl, λ z. false≢true (t.1 z)), λ _. is))
judges m n shown offset false alike e d t k =
    let is : n ≡ 81 = e in
    ((λ _ z. false≢true (d.1 z), λ _. is), (λ z. absurd (omega arith), λ z. absurd (false≢true (d.1 (k z)))), (λ z. absurd (omega arith), λ z. absurd (false≢true (d.1 z.0))))

-- as many digits as are presented
presented_many : (cs os : List ℕ) → offset_presented cs ≡ done os → length os ≡ digit_end cs
presented_many cs os e =
    let n = digit_end cs in
    let t = passed Field15 (eqb (length cs) 12 && (leb 4 n && every (within 0x46 0x46) (drop n cs))) (map value_of (take n cs)) os e in
    ap length (sym t.1) ∙ length-map (take n cs) value_of ∙ length-take-le n cs (leading_le (admits Digit) cs)

-- ---- a run that finds its PIN

module _ (w : Verifying) (settings : Settings) (a : Call) (r : Finds w settings a) where
  abbrev v : Verification
  v = r.reaches.fields

  abbrev os : List ℕ
  os = offset_in a.command v

  abbrev shown : List ℕ
  shown = shown_in a.command v

  abbrev made : ℕ → List ℕ
  made m = offset_of m r.found.0 r.found.1

  abbrev comes : Outcome (List ℕ)
  comes = verdict_on settings.variable v.offsetting.check os r.found

  -- its finish comes to the verdict, and its answer is the response to that
  pub finish_judged : verify_finish settings.variable a.command v r.reaches.rows ≡ comes
  unfolding verify_finish
  finish_judged = rw r.paired

  judged : answer settings a ≡ responding settings.header a.command (and_then comes (λ _. done (drop v.trailer a.command)))
  judged =
      reached (verify_shape w settings) a.pin_key_good a.pvk_good a.room a.command a.block a.enciphered r.reaches
      ∙ ap (λ (o : Outcome (List ℕ)). responding settings.header a.command (and_then o (λ _. done (drop v.trailer a.command)))) finish_judged

  judged_number : (answer settings a).number ≡ numbered comes
  judged_number = ap (λ (x : Said ℕ). x.number) judged ∙ numbered_said settings.header a.command (drop v.trailer a.command) comes

  -- its field 10 has the digits that are compared, and is their text
  held : field.Held a.command v.offset v.digits (parts (key_for w) a.command (settings.header + 2) v r.reaches.past r.reaches.read).width
  held =
      let p = parts (key_for w) a.command (settings.header + 2) v r.reaches.past r.reaches.read in
      offset_held a.command v.offset v.digits p.width p.shown

  pub many : length os ≡ digit_end shown
  many = presented_many shown os held.presented

  text : offset_text os ≡ shown
  text = presented_text_lem shown os held.presented

  -- the natural PIN is as long as the PIN
  natural_long : length r.found.1 ≡ length r.found.0
  natural_long =
      let rows = r.reaches.rows in
      let sixteen = boxed_sixteen (length a.command) a.pin_key_good a.pvk_good a.block a.enciphered rows r.reaches.boxed in
      let inside = (placed (key_for w) a.command (settings.header + 2) v r.reaches.past r.reaches.read).offsetting in
      (pair_within a.command v.offsetting inside v.sealed rows sixteen.0 sixteen.1 r.found r.paired).4

  -- where the check length is longer than the PIN
  untested : (q : Refusal) → covers settings.variable v.offsetting.check (length r.found.0) ≡ refused q → comes ≡ refused q
  untested q c = rw c

  module _ (m : ℕ) (c : covers settings.variable v.offsetting.check (length r.found.0) ≡ done m) where
    pub tested : comes ≡ by_tests m (eqb (length os) m) (same os (made m))
    tested = rw c

    -- the text of the offset defined is that of its digits alone
    made_shown : shown ≡ offset_text (made m) → os ≡ made m
    made_shown e = text_once os (made m) (digits_below (part a.command v.offset v.digits) held.digits) (reduced_below (covered m r.found.0 r.found.1)) (text ∙ e)

    pub alike_exactly : (same os (made m) ≡ true) ↔ (shown ≡ offset_text (made m))
    alike_exactly = (λ e. sym text ∙ ap offset_text (same_true os (made m) e), λ e. ap (same os) (sym (made_shown e)) ∙ same_refl os)

    pub counted_exactly : (eqb (length os) m ≡ true) ↔ (digit_end shown ≡ m)
    counted_exactly = (λ e. sym many ∙ eqb-true (length os) m e, λ e. eq-eqb (length os) m (many ∙ e))

    judges_exactly : Judges m (answer settings a).number shown (made m)
    judges_exactly =
        judges m (answer settings a).number shown (made m) (eqb (length os) m) (same os (made m)) (judged_number ∙ ap numbered tested) counted_exactly alike_exactly
        (λ e. sym many ∙ ap length (made_shown e) ∙ offset_many m r.found.0 r.found.1 (covers_within settings.variable v.offsetting.check (length r.found.0) m c) natural_long)

pub command_verdict_exactly : CommandVerdictExactly
command_verdict_exactly = judges_exactly

pub long_check_81 : LongCheck81
long_check_81 w settings a r fixed long =
    judged_number w settings a r ∙ ap numbered (untested w settings a r Check81 (rw (fixed, lt-leb r.reaches.fields.offsetting.check (length r.found.0) long)))

pub variable_verdict : VariableVerdict
variable_verdict w settings a r variable = (judges_exactly w settings a r (length r.found.0) (rw variable)).0

-- ---- how far a run gets

abbrev three : List ℕ
three = 0 ∷ 1 ∷ 81 ∷ []

verify_pinned : (w : Verifying) (settings : Settings) → Pinned (verify_shape w settings) (List ℕ × List ℕ) three
unfolding every verify_finish
verify_pinned w settings = record {
  pin_in = compared_in;
  rest = λ s v pair. verdict_on settings.variable v.offsetting.check (offset_in s v) pair;
  split = λ s v rows. refl;
  success = refl;
  apart = refl;
  fields = λ s at. other shared_numbers three _ refl (verify_fields_give (key_for w) s at);
  pins = λ s v rows. pair_only (Other three) refl refl _ _ _;
  behind = λ s v pair. verdict_only (In three) refl refl settings.variable s v pair;
}

pub verify_reads_exactly : VerifyReadsExactly
unfolding verify_pinned
verify_reads_exactly w settings a coded = finds_exactly (verify_shape w settings) (verify_pinned w settings) a.pin_key_good a.pvk_good a.room a.command a.block a.enciphered coded

module _ (w : Verifying) (settings : Settings) (a : Call) where
  abbrev Two : ℕ → Type 0
  Two n = listed n (0 ∷ 1 ∷ []) ≡ true

  -- where as many digits are presented as are covered, the verdict is one of the two; else it is not
  two : (m : ℕ) (alike : Bool) → Two (numbered (by_tests m true alike))
  two m true = refl
  two m false = refl

  two_counted : (m : ℕ) (counted alike : Bool) → Two (numbered (by_tests m counted alike)) → counted ≡ true
  two_counted m true alike e = refl
  two_counted m false alike e = absurd (false≢true e)

  compared_two : ReachesVerdict w settings a → Two (answer settings a).number
  compared_two q =
      let r = q.finds in
      let shown = (counted_exactly w settings a r q.m q.covered).1 q.digits in
      subst Two (sym (judged_number w settings a r ∙ ap numbered (tested w settings a r q.m q.covered))) (rw shown (two q.m (same (os w settings a r) (made w settings a r q.m))))

  two_compared : (r : Finds w settings a) → Two (answer settings a).number → ReachesVerdict w settings a
  two_compared r e = by (covers settings.variable r.reaches.fields.offsetting.check (length r.found.0)) refl
    where
      by : (o : Outcome ℕ) → covers settings.variable r.reaches.fields.offsetting.check (length r.found.0) ≡ o → ReachesVerdict w settings a
      by (done m) c =
          let counted = two_counted m (eqb (length (os w settings a r)) m) (same (os w settings a r) (made w settings a r m)) (subst Two (judged_number w settings a r ∙ ap numbered (tested w settings a r m c)) e) in
          record { finds = r; m = m; covered = c; digits = (counted_exactly w settings a r m c).0 counted }
      by (refused q) c =
          let is : q ≡ Check81 = covers_only (λ p. p ≡ Check81) settings.variable (λ _. refl) r.reaches.fields.offsetting.check (length r.found.0) q c in
          absurd (false≢true (subst Two (judged_number w settings a r ∙ ap numbered (untested w settings a r q c) ∙ ap number_of is) e))

pub reaches_verdict_exactly : ReachesVerdictExactly
unfolding every
reaches_verdict_exactly w settings a coded = (
  λ e. two_compared w settings a ((verify_reads_exactly w settings a coded).0 (listed_passes (λ m. listed m three) (answer settings a).number (0 ∷ 1 ∷ []) refl e)) e,
  compared_two w settings a,
)

-- ---- the bytes

-- the two bytes of the code
da_begun : (cs : List ℕ) → code_of cs ≡ code.Da → begins da cs ≡ true
da_begun cs = by (begins bk cs) (begins da cs) (begins ea cs)
  where
    by : (x y z : Bool) → cond x code.Bk (cond y code.Da (cond z code.Ea code.Other)) ≡ code.Da → y ≡ true
    by x true z e = refl
    by true false z e = absurd (let z : ◌≡◌ {A = ℕ} 0 1 = cc in omega arith)
    by false false true e = absurd (let z : ◌≡◌ {A = ℕ} 0 1 = cc in omega arith)
    by false false false e = absurd (let z : ◌≡◌ {A = ℕ} 0 1 = cc in omega arith)

ea_begun : (cs : List ℕ) → code_of cs ≡ code.Ea → begins ea cs ≡ true
ea_begun cs = by (begins bk cs) (begins da cs) (begins ea cs)
  where
    by : (x y z : Bool) → cond x code.Bk (cond y code.Da (cond z code.Ea code.Other)) ≡ code.Ea → z ≡ true
    by x y true e = refl
    by true y false e = absurd (let z : ◌≡◌ {A = ℕ} 0 1 = cc in omega arith)
    by false true false e = absurd (let z : ◌≡◌ {A = ℕ} 0 1 = cc in omega arith)
    by false false false e = absurd (let z : ◌≡◌ {A = ℕ} 0 1 = cc in omega arith)

-- a response opens with header, response code and number
opens : (w : Verifying) (header : ℕ) (s : List ℕ) (n : ℕ) → code_of (drop header s) ≡ code_for w → opening header s n ≡ take header s ++ (response_for w ++ in_two_digits n)
opens terminal header s n e = code_answered 0x44 0x41 header s n (da_begun (drop header s) e)
opens zone header s n e = code_answered 0x45 0x41 header s n (ea_begun (drop header s) e)

pub verdict_bytes : VerdictBytes
verdict_bytes w settings a r = by (comes w settings a r) (judged w settings a r)
  where
    s : List ℕ
    s = a.command

    header : ℕ
    header = settings.header

    tail : List ℕ
    tail = drop r.reaches.fields.trailer a.command

    by : (o : Outcome (List ℕ)) → answer settings a ≡ responding header s (and_then o (λ _. done tail))
        → ((answer settings a).number ≡ 0 → answer settings a ≡ verified w header s r.reaches.fields)
        × ((answer settings a).number ≡ 1 → answer settings a ≡ saying w header s 1 (printed "01"))
    by (done x) e = (
      λ _.
          e ∙ ap (λ (l : List ℕ). record { number = 0; written = l ++ tail }) (opens w header s 0 r.reaches.coded)
          ∙ ap (λ (l : List ℕ). record { number = 0; written = l }) (append_assoc (take header s) (response_for w ++ printed "00") tail ∙ ap (λ (l : List ℕ). take header s ++ l) (append_assoc (response_for w) (printed "00") tail)),
      λ n. absurd (let z : ◌≡◌ {A = ℕ} 0 1 = sym (ap (λ (x : Said ℕ). x.number) e) ∙ n in omega arith),
    )
    by (refused q) e =
        let number : (answer settings a).number ≡ number_of q = ap (λ (x : Said ℕ). x.number) e in (
          λ n. absurd (never_00 q (sym n ∙ number)),
          λ n. e ∙ ap (λ (k : ℕ). record { number = k; written = opening header s k }) (sym number ∙ n) ∙ ap (λ (l : List ℕ). record { number = 1; written = l }) (opens w header s 1 r.reaches.coded),
        )

-- ---- the settings

module _ (settings : Settings) (restricted : Bool) (s : List ℕ) where
  abbrev other_settings : Settings
  other_settings = restricted_to settings restricted

  -- behind the frame
  ask_same : (w : Verifying) (at : ℕ) → ask_by (code_for w) other_settings s at ≡ ask_by (code_for w) settings s at
  unfolding ask_by
  ask_same terminal at = refl
  ask_same zone at = refl

  answer_same : (w : Verifying) (g h : Bool) (at : ℕ) (block enciphered : List ℕ) → answer_by (code_for w) other_settings g h s at block enciphered ≡ answer_by (code_for w) settings g h s at block enciphered
  unfolding answer_by
  answer_same terminal g h at block enciphered = refl
  answer_same zone g h at block enciphered = refl

pub restricted_touches_not : RestrictedTouchesNot
unfolding asking answered
restricted_touches_not w settings restricted s coded = (
  λ room. asks (leb 8 room) room (is_framed settings.header s),
  λ g h block enciphered room. answers g h block enciphered room (leb 65 room) (is_framed settings.header s),
)
  where
    at : ℕ
    at = settings.header

    asks : (roomy : Bool) (room : ℕ) (framed : Bool)
        → heard (and_then (unpointed (and_then (unless Room901 roomy room) (λ _. unless Frame902 framed at))) (λ code. ask_by (code_of (drop code s)) (restricted_to settings restricted) s (code + 2)))
        ≡ heard (and_then (unpointed (and_then (unless Room901 roomy room) (λ _. unless Frame902 framed at))) (λ code. ask_by (code_of (drop code s)) settings s (code + 2)))
    asks true room true = rw (coded, ask_same settings restricted s w (at + 2))
    asks true room false = refl
    asks false room framed = refl

    answers : (g h : Bool) (block enciphered : List ℕ) (room : ℕ) (roomy framed : Bool)
        → silently (and_then (and_then (unless Room901 roomy room) (λ _. unless Frame902 framed at)) (λ code. done (responding at s (heard (commanded (restricted_to settings restricted) g h s block enciphered code)))))
        ≡ silently (and_then (and_then (unless Room901 roomy room) (λ _. unless Frame902 framed at)) (λ code. done (responding at s (heard (commanded settings g h s block enciphered code)))))
    answers g h block enciphered room true true = rw (coded, answer_same settings restricted s w g h (at + 2) block enciphered)
    answers g h block enciphered room true false = refl
    answers g h block enciphered room false framed = refl
