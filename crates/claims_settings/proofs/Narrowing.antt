-- The setting is looked at where a format is judged, and what stands behind that goes on from there.
-- Assumes nothing.
use Prim.Native.Nat.{ℕ, ◌+◌, ◌≤◌}
use native.Mathlib.Omega.{arith}
use mathlib.Core.Path.{◌≡◌, refl, sym, ap, ◌∙◌}
use mathlib.Core.Logic.{◌⊎◌, inl, inr}
use mathlib.Core.List.{List}
use mathlib.Core.Bool.{Bool, true, false, false≢true}
use lib.ListN.{length, take, drop}
use lib.Dec.{leb}
use borrow.Author.Tests.{le-leb, leb-true}
use Rattle.alphabet.specs.Alphabet.{all_of}
use Rattle.alphabet.specs.declared.Class.TheVariants.{CapitalHex}
use Rattle.numbers.specs.Numbers.{Judged, Outcome, done, refused, and_then, unless}
use Rattle.numbers.specs.declared.Refusal.{Refusal}
use Rattle.numbers.specs.declared.Refusal.TheVariants.{Field15, NotHere69, Room901, Frame902}
use Rattle.settings.specs.Settings.{restricted_to}
use Rattle.settings.specs.declared.Settings.{Settings}
use Rattle.codes.specs.Codes as codes
use Rattle.formats.specs.Formats.{is01or47}
use Rattle.formats.specs.declared.Format.{Format}
use Rattle.formats.specs.declared.Format.TheVariants.{F01, F03, F05, F34, F35, F47}
use Rattle.restriction.specs.Restriction.{permitted}
use Rattle.pairs.specs.Pairs.{pair_of}
use Rattle.pins.specs.Pins.{account_of, account_field, sized}
use Rattle.translation.specs.Translation.{carried_block, translate_block}
use Rattle.frame.specs.Frame.{is_framed, code_of}
use Rattle.frame.specs.declared.Code.{Code}
use Rattle.frame.specs.declared.Code.TheVariants.{Bk, Da, Ea, Other}
use Rattle.fields.specs.Fields.{Found, Stage, read, faulty, fielded, onward, Ruling, ruled, unpointed, heard, run, number}
use Rattle.fields.specs.declared.Fault.{Fault}
use Rattle.fields.proofs.Reading.{read_once}
use Rattle.formatfield.specs.FormatField.{format_field}
use Rattle.uses.specs.Uses.{pin_key, pvk}
use Rattle.keyfields.specs.KeyFields.{keys}
use Rattle.keyfields.specs.declared.Keys.{Keys}
use Rattle.sealed.specs.Sealed.{sealed}
use Rattle.sealed.specs.declared.Sealed.{Sealed}
use Rattle.bkfields.specs.BkFields.{bk_fields}
use Rattle.bkfields.specs.declared.Bk as bk
use Rattle.bk.specs.Bk.{bk_ask, bk_answer}
use Rattle.responses.specs.Responses.{responding}
use Rattle.commands.specs.Commands.{ask_by, answer_by, opened, asking, commanded, silently, answered, replying}
use Rattle.texts.specs.Characters.{OneOf}
use Rattle.claims_commands.specs.Runs.{code_in}
use Rattle.claims_settings.specs.Narrowing.{others, up_to_format, at_format, NotAllowed, PairNotAllowed, Narrowed, AskNarrowed, AnswerNarrowed, ResponseNarrowed, TranslationNarrowed}

-- ---- judgements

module _ {Q A B : Type 0} (kind : Q → Type 0) where
  -- where what comes next is narrowed
  next_narrowed : (o : Judged Q A) (narrow wide : A → Judged Q B) → ((a : A) → Narrowed kind (narrow a) (wide a)) → Narrowed kind (and_then o narrow) (and_then o wide)
  next_narrowed (done a) narrow wide h = h a
  next_narrowed (refused q) narrow wide h = inl refl

  -- where what came before is
  before_narrowed : (narrow wide : Judged Q A) (next : A → Judged Q B) → Narrowed kind narrow wide → Narrowed kind (and_then narrow next) (and_then wide next)
  before_narrowed narrow wide next (inl e) = inl (ap (λ (o : Judged Q A). and_then o next) e)
  before_narrowed narrow wide next (inr (q, k, e)) = inr (q, k, ap (λ (o : Judged Q A). and_then o next) e)

-- a test that is made under Yes only goes on behind what came before
tested_next : {Q A B : Type 0} (o : Judged Q A) (wide narrow : A → Judged Q B) (test : B → Judged Q B) → ((a : A) → narrow a ≡ and_then (wide a) test) → and_then o narrow ≡ and_then (and_then o wide) test
tested_next (done a) wide narrow test h = h a
tested_next (refused q) wide narrow test h = refl

-- ---- translation

abbrev paired : Format × Format → Outcome (Format × Format)
paired pair = unless NotHere69 (permitted true pair.0 pair.1) pair

pair_tested : (from to : ℕ) → pair_of true from to ≡ and_then (pair_of false from to) paired
unfolding pair_of
pair_tested from to =
    tested_next (codes.known_code (codes.code_of from)) _ _ paired
    (λ _. tested_next (codes.known_code (codes.code_of to)) _ _ paired
    (λ _. tested_next (codes.format_of (codes.code_of from)) _ _ paired
    (λ f. tested_next (codes.format_of (codes.code_of to)) _ _ paired
    (λ t. refl))))

module _ (from to : ℕ) (block account fill : List ℕ) (room : ℕ) where
  abbrev kind : Refusal → Type 0
  kind q = (q ≡ NotHere69) × PairNotAllowed from to block account fill room

  -- the formats, where all before them is in its form
  pair_narrowed : 8 ≤ room → (ns digits fs : List ℕ) → sized 8 block ≡ done ns → account_of account ≡ done digits → sized 8 fill ≡ done fs → Narrowed kind (pair_of true from to) (pair_of false from to)
  pair_narrowed roomy ns digits fs e₁ e₂ e₃ = rw (pair_tested from to) (by (pair_of false from to) refl)
    where
      by_test : (pair : Format × Format) (allowed : Bool) → permitted true pair.0 pair.1 ≡ allowed → pair_of false from to ≡ done pair → Narrowed kind (unless NotHere69 allowed pair) (done pair)
      by_test pair true h e = inl refl
      by_test pair false h e = inr (
        NotHere69,
        (refl, record { roomy = roomy; ns = ns; whole = e₁; digits = digits; numbered = e₂; fs = fs; filled = e₃; pair = pair; built = e; outside = h }),
        refl,
      )

      by : (o : Outcome (Format × Format)) → pair_of false from to ≡ o → Narrowed kind (and_then o paired) o
      by (done pair) e = by_test pair (permitted true pair.0 pair.1) refl e
      by (refused q) e = inl refl

  -- one argument after the other
  fill_narrowed : 8 ≤ room → (ns digits : List ℕ) → sized 8 block ≡ done ns → account_of account ≡ done digits → (o : Outcome (List ℕ)) → sized 8 fill ≡ o
      → Narrowed kind (and_then o (λ fs. carried_block (pair_of true from to) (account_field digits) ns fs)) (and_then o (λ fs. carried_block (pair_of false from to) (account_field digits) ns fs))
  fill_narrowed roomy ns digits e₁ e₂ (done fs) e₃ = before_narrowed kind (pair_of true from to) (pair_of false from to) _ (pair_narrowed roomy ns digits fs e₁ e₂ e₃)
  fill_narrowed roomy ns digits e₁ e₂ (refused q) e₃ = inl refl

  abbrev filling : Bool → List ℕ → List ℕ → Outcome (List ℕ)
  filling r ns digits = and_then (sized 8 fill) (λ fs. carried_block (pair_of r from to) (account_field digits) ns fs)

  account_narrowed : 8 ≤ room → (ns : List ℕ) → sized 8 block ≡ done ns → (o : Outcome (List ℕ)) → account_of account ≡ o → Narrowed kind (and_then o (filling true ns)) (and_then o (filling false ns))
  account_narrowed roomy ns e₁ (done digits) e₂ = fill_narrowed roomy ns digits e₁ e₂ (sized 8 fill) refl
  account_narrowed roomy ns e₁ (refused q) e₂ = inl refl

  abbrev accounted : Bool → List ℕ → Outcome (List ℕ)
  accounted r ns = and_then (account_of account) (filling r ns)

  block_narrowed : 8 ≤ room → (o : Outcome (List ℕ)) → sized 8 block ≡ o → Narrowed kind (and_then o (accounted true)) (and_then o (accounted false))
  block_narrowed roomy (done ns) e₁ = account_narrowed roomy ns e₁ (account_of account) refl
  block_narrowed roomy (refused q) e₁ = inl refl

  room_narrowed : (roomy : Bool) → leb 8 room ≡ roomy
      → Narrowed kind (and_then (unless Room901 roomy room) (λ _. and_then (sized 8 block) (accounted true))) (and_then (unless Room901 roomy room) (λ _. and_then (sized 8 block) (accounted false)))
  room_narrowed true e = block_narrowed (leb-true 8 room e) (sized 8 block) refl
  room_narrowed false e = inl refl

pub translation_narrowed : TranslationNarrowed
unfolding translate_block
translation_narrowed from to block account fill room = (
  room_narrowed from to block account fill room (leb 8 room) refl,
  λ n. rw (le-leb 8 room n.roomy, n.whole, n.numbered, n.filled, pair_tested from to, n.built, n.outside) refl,
)

-- ---- the format

-- which formats are not allowed
other_format : (f : Format) → is01or47 f ≡ false → OneOf f others
other_format F01 h = absurd (false≢true (sym h))
other_format F03 h = inl refl
other_format F05 h = inr (inl refl)
other_format F34 h = inr (inr (inl refl))
other_format F35 h = inr (inr (inr (inl refl)))
other_format F47 h = absurd (false≢true (sym h))

other_back : (f : Format) → OneOf f others → is01or47 f ≡ false
other_back f (inl e) = ap is01or47 e
other_back f (inr (inl e)) = ap is01or47 e
other_back f (inr (inr (inl e))) = ap is01or47 e
other_back f (inr (inr (inr (inl e)))) = ap is01or47 e
other_back f (inr (inr (inr (inr z)))) = absurd z

-- under Yes the format's field is that under No, and a test behind it
abbrev tested : Found Format → Found Format
tested o = and_then o (λ (r : Format × ℕ). unless NotHere69 (is01or47 r.0) r)

format_tested : (cs : List ℕ) → format_field true cs ≡ tested (format_field false cs)
unfolding format_field
format_tested cs =
    tested_next (number 0 99 Field15 cs) _ _ _
    (λ code. tested_next (codes.format_of (codes.code_of code.0)) _ _ (λ (r : Format × ℕ). unless NotHere69 (is01or47 r.0) r)
    (λ f. refl))

-- ---- fields

-- fields with the format among them, under Yes and under No: the same, and what is read is allowed; or another format is read under No, and
-- under Yes that is the fault
abbrev Splits : {A : Type 0} → Stage Sealed → Stage A → Stage A → Type 0
Splits front narrow wide =
    ((narrow ≡ wide) × ((b : Sealed) (past : ℕ) → front ≡ read b past → is01or47 b.format ≡ true))
    ⊎ ((b : Sealed) × (past : ℕ) × (front ≡ read b past) × (is01or47 b.format ≡ false) × (narrow ≡ faulty (at_format b)))

not_read : {A : Type 0} {f : Fault} {b : A} {past : ℕ} → ◌≡◌ {A = Stage A} (faulty f) (read b past) → ⊥
not_read e = let z : ◌≡◌ {A = ℕ} 0 1 = cc in omega arith

-- the stage of PIN block and format
sealed_splits : (s : List ℕ) (at : ℕ) → Splits (sealed 4 false s at) (sealed 4 true s at) (sealed 4 false s at)
unfolding sealed run
sealed_splits s at = by_block (leb 16 (length (drop at s))) (all_of CapitalHex (take 16 (drop at s)))
  where
    -- what the stage comes to, from what was found of the format
    from : Found Format → Stage Sealed
    from o = fielded 5 (at + 16) o (λ f next. read (record { block = at; format = f }) next)

    by_test : (f : Format) (n : ℕ) (allowed : Bool) → is01or47 f ≡ allowed → Splits (from (done (f, n))) (from (tested (done (f, n)))) (from (done (f, n)))
    by_test f n true h = inl (ap (λ (b : Bool). from (unless NotHere69 b (f, n))) h, λ b past e. ap (λ (b : Sealed). is01or47 b.format) (sym (read_once e).0) ∙ h)
    by_test f n false h = inr (record { block = at; format = f }, at + 16 + n, refl, h, ap (λ (b : Bool). from (unless NotHere69 b (f, n))) h)

    by_found : (o : Found Format) → Splits (from o) (from (tested o)) (from o)
    by_found (done (f, n)) = by_test f n (is01or47 f) refl
    by_found (refused q) = inl (refl, λ b past e. absurd (not_read e))

    -- from what was found of the PIN block
    behind : Found ℕ → Bool → Stage Sealed
    behind o r = fielded 4 at o (λ _ at₅. fielded 5 at₅ (format_field r (drop at₅ s)) (λ f next. read (record { block = at; format = f }) next))

    block : Bool → Bool → Found ℕ
    block long hex = and_then {A = ℕ} (unless Field15 long 16) (λ _. unless Field15 hex (16, 16))

    by_block : (long hex : Bool) → Splits (behind (block long hex) false) (behind (block long hex) true) (behind (block long hex) false)
    by_block true true = rw (format_tested (drop (at + 16) s)) (by_found (format_field false (drop (at + 16) s)))
    by_block true false = inl (refl, λ b past e. absurd (not_read e))
    by_block false hex = inl (refl, λ b past e. absurd (not_read e))

-- all fields of a BK
bk_splits : (s : List ℕ) (at : ℕ) → Splits (up_to_format s at) (bk_fields true s at) (bk_fields false s at)
unfolding bk_fields
bk_splits s at = by_keys (keys 1 pin_key pvk s at) _
  where
    by_sealed : (narrow wide : Stage Sealed) (next : Sealed → ℕ → Stage bk.Bk) → Splits wide narrow wide → Splits wide (onward narrow next) (onward wide next)
    by_sealed narrow wide next (inl (e, allowed)) = inl (ap (λ (x : Stage Sealed). onward x next) e, allowed)
    by_sealed narrow wide next (inr (b, past, r, o, e)) = inr (b, past, r, o, ap (λ (x : Stage Sealed). onward x next) e)

    by_keys : (k : Stage Keys) (next : Keys → Sealed → ℕ → Stage bk.Bk)
        → Splits (onward k (λ _ at₄. sealed 4 false s at₄)) (onward k (λ ks at₄. onward (sealed 4 true s at₄) (next ks))) (onward k (λ ks at₄. onward (sealed 4 false s at₄) (next ks)))
    by_keys (read ks at₄) next = by_sealed (sealed 4 true s at₄) (sealed 4 false s at₄) (next ks) (sealed_splits s at₄)
    by_keys (faulty f) next = inl (refl, λ b past e. absurd (not_read e))

-- so where another format is read, Yes refuses
bk_refuses : (s : List ℕ) (at : ℕ) (b : Sealed) (past : ℕ) → up_to_format s at ≡ read b past → OneOf b.format others → bk_fields true s at ≡ faulty (at_format b)
bk_refuses s at b past r o = by (bk_splits s at)
  where
    by : Splits (up_to_format s at) (bk_fields true s at) (bk_fields false s at) → bk_fields true s at ≡ faulty (at_format b)
    by (inl (e, allowed)) = absurd (false≢true (sym (other_back b.format o) ∙ allowed b past r))
    by (inr (c, past', r', o', e)) = e ∙ ap (λ (d : Sealed). faulty (at_format d)) (read_once (sym r' ∙ r)).0

-- ---- the calls

module _ (settings : Settings) (s : List ℕ) where
  -- the fields of a BK that has a frame
  fields_narrowed : is_framed settings.header s ≡ true → code_in settings s ≡ Bk
      → Narrowed (NotAllowed settings s) (ruled (bk_fields true s (settings.header + 2))) (ruled (bk_fields false s (settings.header + 2)))
  fields_narrowed framed coded = by (bk_splits s (settings.header + 2))
    where
      by : Splits (up_to_format s (settings.header + 2)) (bk_fields true s (settings.header + 2)) (bk_fields false s (settings.header + 2))
          → Narrowed (NotAllowed settings s) (ruled (bk_fields true s (settings.header + 2))) (ruled (bk_fields false s (settings.header + 2)))
      by (inl (e, allowed)) = inl (ap (λ (x : Stage bk.Bk). ruled x) e)
      by (inr (b, past, r, o, e)) = inr (
        at_format b,
        record { framed = framed; coded = coded; sealed = b; past = past; reads = r; other = other_format b.format o; fault = refl },
        ap (λ (x : Stage bk.Bk). ruled x) e,
      )

  -- a command by its code
  asks_narrowed : is_framed settings.header s ≡ true → (c : Code) → code_in settings s ≡ c
      → Narrowed (NotAllowed settings s) (ask_by c (restricted_to settings true) s (settings.header + 2)) (ask_by c (restricted_to settings false) s (settings.header + 2))
  unfolding ask_by bk_ask
  asks_narrowed framed Bk coded =
      before_narrowed _ (ruled (bk_fields true s (settings.header + 2))) (ruled (bk_fields false s (settings.header + 2))) _ (fields_narrowed framed coded)
  asks_narrowed framed Da coded = inl refl
  asks_narrowed framed Ea coded = inl refl
  asks_narrowed framed Other coded = inl refl

  -- behind room and frame
  opened_narrowed : {A : Type 0} (least room : ℕ) (next : Bool → ℕ → Ruling A)
      → (is_framed settings.header s ≡ true → Narrowed (NotAllowed settings s) (next true settings.header) (next false settings.header))
      → Narrowed (NotAllowed settings s) (and_then (unpointed (opened least room settings.header s)) (next true)) (and_then (unpointed (opened least room settings.header s)) (next false))
  opened_narrowed least room next h = by (leb least room) (is_framed settings.header s) refl
    where
      by : (roomy framed : Bool) → is_framed settings.header s ≡ framed
          → Narrowed (NotAllowed settings s)
          (and_then (unpointed (and_then (unless Room901 roomy room) (λ _. unless Frame902 framed settings.header))) (next true))
          (and_then (unpointed (and_then (unless Room901 roomy room) (λ _. unless Frame902 framed settings.header))) (next false))
      by true true e = h e
      by true false e = inl refl
      by false framed e = inl refl

  module _ (g h : Bool) (block enciphered : List ℕ) where
    answers_narrowed : is_framed settings.header s ≡ true → (c : Code) → code_in settings s ≡ c
        → Narrowed (NotAllowed settings s) (answer_by c (restricted_to settings true) g h s (settings.header + 2) block enciphered)
        (answer_by c (restricted_to settings false) g h s (settings.header + 2) block enciphered)
    unfolding answer_by bk_answer
    answers_narrowed framed Bk coded =
        before_narrowed _ (ruled (bk_fields true s (settings.header + 2))) (ruled (bk_fields false s (settings.header + 2))) _ (fields_narrowed framed coded)
    answers_narrowed framed Da coded = inl refl
    answers_narrowed framed Ea coded = inl refl
    answers_narrowed framed Other coded = inl refl

    commanded_narrowed : is_framed settings.header s ≡ true
        → Narrowed (NotAllowed settings s) (commanded (restricted_to settings true) g h s block enciphered settings.header) (commanded (restricted_to settings false) g h s block enciphered settings.header)
    commanded_narrowed framed =
        before_narrowed _ (answer_by (code_in settings s) (restricted_to settings true) g h s (settings.header + 2) block enciphered)
        (answer_by (code_in settings s) (restricted_to settings false) g h s (settings.header + 2) block enciphered) _ (answers_narrowed framed (code_in settings s) refl)

  -- the fault of a BK that is not allowed
  fields_refuse : (f : Fault) → NotAllowed settings s f → bk_fields true s (settings.header + 2) ≡ faulty f
  fields_refuse f n = bk_refuses s (settings.header + 2) n.sealed n.past n.reads n.other ∙ ap faulty (sym n.fault)

pub ask_narrowed : AskNarrowed
unfolding asking ask_by bk_ask
ask_narrowed settings s room = (
  opened_narrowed settings s 8 room (λ r code. ask_by (code_of (drop code s)) (restricted_to settings r) s (code + 2)) (λ framed. asks_narrowed settings s framed (code_in settings s) refl),
  λ f roomy n. rw (le-leb 8 room roomy, n.framed, n.coded, fields_refuse settings s f n) refl,
)

pub answer_narrowed : AnswerNarrowed
unfolding replying answer_by bk_answer
answer_narrowed settings g h s block enciphered room = (
  opened_narrowed settings s 65 room (λ r code. commanded (restricted_to settings r) g h s block enciphered code) (commanded_narrowed settings s g h block enciphered),
  λ f roomy n. rw (le-leb 65 room roomy, n.framed, n.coded, fields_refuse settings s f n) refl,
)

pub response_narrowed : ResponseNarrowed
unfolding answered answer_by bk_answer
response_narrowed settings g h s block enciphered room = (
  by (leb 65 room) (is_framed settings.header s) refl,
  λ f roomy n. rw (le-leb 65 room roomy, n.framed, n.coded, fields_refuse settings s f n) (ap (λ (q : Fault). responding settings.header s (refused q.refusal)) n.fault),
)
  where
    heard_narrowed : (narrow wide : Ruling (List ℕ)) → Narrowed (NotAllowed settings s) narrow wide
        → (responding settings.header s (heard narrow) ≡ responding settings.header s (heard wide))
        ⊎ ((f : Fault) × NotAllowed settings s f × (responding settings.header s (heard narrow) ≡ responding settings.header s (refused NotHere69)))
    heard_narrowed narrow wide (inl e) = inl (ap (λ (o : Ruling (List ℕ)). responding settings.header s (heard o)) e)
    heard_narrowed narrow wide (inr (f, n, e)) =
        inr (f, n, ap (λ (o : Ruling (List ℕ)). responding settings.header s (heard o)) e ∙ ap (λ (q : Fault). responding settings.header s (refused q.refusal)) n.fault)

    by : (roomy framed : Bool) → is_framed settings.header s ≡ framed
        → (silently (and_then (and_then (unless Room901 roomy room) (λ _. unless Frame902 framed settings.header)) (λ code. done (responding settings.header s (heard (commanded (restricted_to settings true) g h s block enciphered code)))))
        ≡ silently (and_then (and_then (unless Room901 roomy room) (λ _. unless Frame902 framed settings.header)) (λ code. done (responding settings.header s (heard (commanded (restricted_to settings false) g h s block enciphered code))))))
        ⊎ ((f : Fault) × NotAllowed settings s f
        × (silently (and_then (and_then (unless Room901 roomy room) (λ _. unless Frame902 framed settings.header)) (λ code. done (responding settings.header s (heard (commanded (restricted_to settings true) g h s block enciphered code)))))
        ≡ responding settings.header s (refused NotHere69)))
    by true true e = heard_narrowed _ _ (commanded_narrowed settings s g h block enciphered e)
    by true false e = inl refl
    by false framed e = inl refl
