-- The claims about the two calls.
-- Assumes nothing.
use Prim.Native.Nat.{ℕ, ◌+◌, ◌≤◌}
use native.Mathlib.Omega.{arith}
use mathlib.Core.Path.{◌≡◌, refl, sym, ap, ◌∙◌, subst}
use mathlib.Core.Logic.{◌⊎◌, inl, inr, ◌↔◌}
use mathlib.Core.List.{List, [], ◌∷◌, map}
use mathlib.Core.Bool.{Bool, true, false, not, cond, false≢true}
use lib.ListN.{length, drop, length-append}
use lib.Dec.{leb, eqb}
use borrow.Author.Tests.{not-true}
use Rattle.nibbles.specs.Nibbles.{every, same}
use Rattle.alphabet.specs.Alphabet.{value_of}
use Rattle.numbers.specs.Numbers.{Outcome, done, refused, and_then, unless, number_of}
use Rattle.numbers.specs.Promise.{Said, Does, quietly}
use Rattle.numbers.specs.declared.Reply.{Reply}
use Rattle.numbers.specs.declared.Refusal.TheVariants.{Unverified01, Code68, Check81, Weak86}
use Rattle.settings.specs.declared.Settings.{Settings}
use Rattle.ibm3624.specs.Ibm3624.{covers, offset_of}
use Rattle.offsets.specs.Offsets.{offset_for}
use Rattle.frame.specs.Frame.{is_framed, code_of, opening}
use Rattle.frame.specs.declared.Code.{Code}
use Rattle.frame.specs.declared.Code.TheVariants.{Bk, Da, Ea, Other}
use Rattle.frame.proofs.Laws.{framed_bounds, opening_length}
use Rattle.fields.specs.Fields.{heard}
use Rattle.responses.specs.Responses.{responding}
use Rattle.weak.specs.Weak.{is_on}
use Rattle.commands.specs.Commands.{ask_by, answer_by, asked, answered, commanded}
use Rattle.claims_commands.proofs.Opened.{asked_902, asked_framed, answered_902, answered_framed}
use Rattle.texts.specs.Characters.{printed}
use Rattle.texts_data.specs.DataTexts.{weak_pins_of}
use Rattle.claims_blocks.specs.Promises.{listed}
use Rattle.claims_commands.specs.Runs.{Verifying, terminal, zone}
use Rattle.claims_commands.proofs.Fields.{listed_passes}
use Rattle.claims_commands.proofs.Numbers.{answer_numbers_lem}
use Rattle.claims_exactly.specs.Sent.{HasFrame}
use Rattle.claims_exactly.specs.Responses.{PapersVerify, OneOfThePapers, AskedExactly, finish_of, verdict_of, verdict_code, HoldsFor, behind_the_pin, AnsweredExactly, NeverPastTheFields, FramedExactly}
use Rattle.claims_exactly.proofs.Sent.{has_frame, is_framed_lem}
use Rattle.claims_exactly.proofs.Calls as calls
use Rattle.claims_exactly.proofs.Calls.{refusals, Early, early}
use Rattle.claims_exactly.proofs.BkCalls.{bk_called, asks_parts, answers_parts}
use Rattle.claims_exactly.proofs.VerifyCalls.{as_papers, verify_called, verify_asks_parts, verify_answers_parts}
use Rattle.claims_exactly.proofs.Held.{numbered, response_number, held_exactly}

-- ---- the asking call

asked_only : (settings : Settings) (s : List ℕ) (room : ℕ) → 8 ≤ room → (quietly (asked settings s room)).number ≡ 0 → OneOfThePapers settings s
unfolding ask_by
asked_only settings s room roomy e = by_frame (is_framed settings.header s) refl
  where
    by_code : (c : Code) → is_framed settings.header s ≡ true → code_of (drop settings.header s) ≡ c → OneOfThePapers settings s
    by_code Bk framed coded = inl (calls.asked_papers settings s framed (bk_called settings) coded room roomy e)
    by_code Da framed coded = inr (terminal, as_papers terminal settings s (calls.asked_papers settings s framed (verify_called terminal settings) coded room roomy e))
    by_code Ea framed coded = inr (zone, as_papers zone settings s (calls.asked_papers settings s framed (verify_called zone settings) coded room roomy e))
    by_code Other framed coded = absurd (let z = rw (asked_framed settings s room roomy framed, coded) at e in omega arith)

    by_frame : (b : Bool) → is_framed settings.header s ≡ b → OneOfThePapers settings s
    by_frame false framed = absurd (let z = rw (asked_902 settings s room roomy framed) at e in omega arith)
    by_frame true framed = by_code (code_of (drop settings.header s)) framed refl

-- and such a command is asked for its block
asked_back : (settings : Settings) (s : List ℕ) (room : ℕ) → 8 ≤ room → OneOfThePapers settings s → (quietly (asked settings s room)).number ≡ 0
asked_back settings s room roomy one = by one
  where
    done_00 : (t block : List ℕ) → s ≡ t → asked settings t room ≡ done block → (quietly (asked settings s room)).number ≡ 0
    done_00 t block e d = ap (λ (t : List ℕ). (quietly (asked settings t room)).number) e ∙ ap (λ (o : Outcome (List ℕ)). (quietly o).number) d

    by : OneOfThePapers settings s → (quietly (asked settings s room)).number ≡ 0
    by (inl c) = done_00 _ _ c.bytes (asks_parts settings room c.header c.parts roomy c.is_header c.is)
    by (inr (w, c)) = done_00 _ _ c.bytes (verify_asks_parts w settings room c.header c.parts roomy c.is_header c.is)

pub asked_exactly : AskedExactly
asked_exactly settings s before after r roomy d = (
  λ e. asked_only settings s (length before) roomy (sym d.number ∙ e),
  λ one. d.number ∙ asked_back settings s (length before) roomy one,
)

-- ---- bytes that are not such a command

papers_or_early : (settings : Settings) (s : List ℕ) → OneOfThePapers settings s ⊎ Early settings s
unfolding answer_by
papers_or_early settings s = by_frame (is_framed settings.header s) refl
  where
    verified : (w : Verifying) → PapersVerify w settings s → OneOfThePapers settings s
    verified w c = inr (w, c)

    firstly : {P Q R : Type 0} → (P → Q) → P ⊎ R → Q ⊎ R
    firstly f (inl p) = inl (f p)
    firstly f (inr r) = inr r

    by_code : (c : Code) → is_framed settings.header s ≡ true → code_of (drop settings.header s) ≡ c → OneOfThePapers settings s ⊎ Early settings s
    by_code Bk framed coded = firstly inl (calls.papers_or_early settings s framed (bk_called settings) coded)
    by_code Da framed coded = firstly (λ c. verified terminal (as_papers terminal settings s c)) (calls.papers_or_early settings s framed (verify_called terminal settings) coded)
    by_code Ea framed coded = firstly (λ c. verified zone (as_papers zone settings s c)) (calls.papers_or_early settings s framed (verify_called zone settings) coded)
    by_code Other framed coded = inr (early settings s framed (record { refusal = Code68; field = 0; place = 0 }) refl (λ g h block enciphered. rw coded))

    by_frame : (b : Bool) → is_framed settings.header s ≡ b → OneOfThePapers settings s ⊎ Early settings s
    by_frame false framed = inr (902, refl, λ g h block enciphered room roomy. ap (λ (x : Said ℕ). x.number) (answered_902 settings g h s block enciphered room roomy framed))
    by_frame true framed = by_code (code_of (drop settings.header s)) framed refl

pub never_past_the_fields : NeverPastTheFields
never_past_the_fields settings s none = by (papers_or_early settings s)
  where
    by : OneOfThePapers settings s ⊎ Early settings s
        → (n : ℕ) × (listed n refusals ≡ true)
        × ((g h : Bool) (block enciphered before after : List ℕ) (r : Reply) → 65 ≤ length before → Does (answered settings g h s block enciphered (length before)) before r after → r.number ≡ n)
    by (inl c) = absurd (none c)
    by (inr (n, k, e)) = (n, k, λ g h block enciphered before after r roomy d. d.number ∙ e g h block enciphered (length before) roomy)

-- ---- 00, 01, 81 and 86

abbrev Behind : ℕ → Type 0
Behind n = listed n behind_the_pin ≡ true

-- behind a PIN: 81, 86 or an offset
offset_behind : (variable : Bool) (check : ℕ) (weak : List ℕ → Bool) (pair : List ℕ × List ℕ)
    → Behind (numbered (and_then (offset_for variable check pair) (λ offset. unless Weak86 (weak pair.0) offset)))
offset_behind variable check weak pair = by variable (leb check (length pair.0)) (weak pair.0)
  where
    by : (x y z : Bool)
        → Behind (numbered (and_then (and_then (cond x (done (length pair.0)) (unless Check81 y check)) (λ m. done (offset_of m pair.0 pair.1))) (λ offset. unless Weak86 z offset)))
    by true y true = refl
    by true y false = refl
    by false true true = refl
    by false true false = refl
    by false false z = refl

-- or 81, 01 or nothing, of an offset of so many digits that is the one or is not
verdict_behind : (variable : Bool) (check digits : ℕ) (is : ℕ → List ℕ × List ℕ → Bool) (pair : List ℕ × List ℕ)
    → Behind (numbered (and_then (covers variable check (length pair.0)) (λ m. and_then (unless Check81 (eqb digits m) m) (λ _. unless {A = List ℕ} Unverified01 (is m pair) []))))
verdict_behind variable check digits is pair = by variable (leb check (length pair.0))
  where
    compared : (x y : Bool) (m : ℕ) → Behind (numbered (and_then (unless Check81 x m) (λ _. unless {A = List ℕ} Unverified01 y [])))
    compared true true m = refl
    compared true false m = refl
    compared false y m = refl

    by : (x y : Bool)
        → Behind (numbered (and_then (cond x (done (length pair.0)) (unless Check81 y check)) (λ m. and_then (unless Check81 (eqb digits m) m) (λ _. unless {A = List ℕ} Unverified01 (is m pair) []))))
    by true y = compared (eqb digits (length pair.0)) (is (length pair.0) pair) (length pair.0)
    by false true = compared (eqb digits check) (is check pair) check
    by false false = refl

pub answered_exactly : AnsweredExactly
unfolding every
answered_exactly settings s block enciphered before after r b bytes c roomy d = (only (papers_or_early settings s), λ h. (held h.0).1 h.1)
  where
    -- what is said to these bytes, told what they are and what is said to that
    said : (t : List ℕ) (x : Said ℕ) → s ≡ t → answered settings true true t block enciphered (length before) ≡ x → r.number ≡ x.number
    said t x e a = d.number ∙ ap (λ (t : List ℕ). (answered settings true true t block enciphered (length before)).number) e ∙ ap (λ (y : Said ℕ). y.number) a

    by_number : {P : Type 0} (n : ℕ) → r.number ≡ n → Behind n ↔ P → Behind r.number ↔ P
    by_number n e (to, from) = (λ k. to (subst Behind e k), λ p. subst Behind (sym e) (from p))

    held : (x : OneOfThePapers settings s) → Behind r.number ↔ HoldsFor settings s x block
    held (inl x) =
        let parts = x.parts in
        let finished = finish_of settings.variable parts block enciphered in
        by_number (numbered finished)
        (said _ _ x.bytes (answers_parts settings block enciphered (length before) x.header parts b c roomy x.is_header x.is) ∙ response_number x.header (printed "BL") _ finished)
        (held_exactly behind_the_pin _ (offset_behind settings.variable parts.inputs.check (λ pin. not (is_on pin (weak_pins_of parts.weak)))) (refl, refl) parts.sealed parts.inputs block enciphered x.is.inputs b bytes)
    held (inr (w, x)) =
        let parts = x.parts in
        let finished = verdict_of settings.variable parts block enciphered in
        by_number (numbered finished)
        (said _ _ x.bytes (verify_answers_parts w settings block enciphered (length before) x.header parts b c roomy x.is_header x.is) ∙ response_number x.header (verdict_code w) _ finished)
        (held_exactly behind_the_pin _ (verdict_behind settings.variable parts.inputs.check (length parts.offset) (λ m pair. same (map value_of parts.offset) (offset_of m pair.0 pair.1))) (refl, refl) parts.sealed parts.inputs block enciphered x.is.inputs b bytes)

    only : OneOfThePapers settings s ⊎ Early settings s → Behind r.number → (x : OneOfThePapers settings s) × HoldsFor settings s x block
    only (inl x) k = (x, (held x).0 k)
    only (inr (n, given, e)) k =
        let other : listed n behind_the_pin ≡ false = not-true _ (listed_passes (λ m. not (listed m behind_the_pin)) n refusals refl given) in
        absurd (false≢true (sym other ∙ subst Behind (d.number ∙ e true true block enciphered (length before) roomy) k))

-- ---- frames

-- a response is not empty
response_long : (header : ℕ) (s : List ℕ) (o : Outcome (List ℕ)) → header + 2 ≤ length s → header + 4 ≤ length (responding header s o).written
response_long header s (done w) l = omega (arith, length-append (opening header s 0) w, opening_length header s 0 l)
response_long header s (refused q) l = omega (arith, opening_length header s (number_of q) l)

pub framed_exactly : FramedExactly
framed_exactly settings g h s block enciphered before after r roomy d = (λ e f. framed e (is_framed_lem settings.header s f), λ n. frameless n (is_framed settings.header s) refl)
  where
    framed : r.number ≡ 902 → is_framed settings.header s ≡ true → ⊥
    framed e f =
        let counts = (answer_numbers_lem settings g h s block enciphered (length before)).1 in
        let empty = counts.0 (subst (λ (n : ℕ). listed n (901 ∷ 902 ∷ []) ≡ true) (sym (sym d.number ∙ e)) refl) in
        let said = answered_framed settings g h s block enciphered (length before) roomy f in
        let long = response_long settings.header s (heard (commanded settings g h s block enciphered settings.header)) (framed_bounds settings.header s f).2 in
        omega (arith, long, ap length (sym (ap (λ (x : Said ℕ). x.written) said) ∙ empty))

    frameless : (HasFrame settings.header s → ⊥) → (b : Bool) → is_framed settings.header s ≡ b → r.number ≡ 902
    frameless n true f = absurd (n (has_frame settings.header s f))
    frameless n false f = d.number ∙ ap (λ (x : Said ℕ). x.number) (answered_902 settings g h s block enciphered (length before) roomy f)
