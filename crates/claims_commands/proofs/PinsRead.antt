-- A run finds its PIN exactly when its answer is one of some numbers, whatever the command; BK reads its PIN exactly when its answer is
-- 00, 81 or 86, and so of what the answering call returns.
-- Assumes nothing.
use Prim.Native.Nat.{ℕ, ◌+◌, ◌≤◌}
use mathlib.Core.Path.{◌≡◌, refl, sym, ap, ap₂, ◌∙◌, subst}
use mathlib.Core.Logic.{◌↔◌}
use mathlib.Core.List.{List, [], ◌∷◌}
use mathlib.Core.Bool.{Bool, true, false, not, false≢true}
use lib.ListN.{length, take}
use lib.Seq.{take_at}
use lib.Dec.{leb}
use borrow.Author.Tests.{leb-true, leb-false, not-true}
use Rattle.nibbles.specs.Nibbles.{every}
use Rattle.numbers.specs.Numbers.{Outcome, done, refused, and_then, number_of}
use Rattle.numbers.specs.Promise.{Said, Does}
use Rattle.numbers.specs.declared.Refusal.{Refusal}
use Rattle.numbers.specs.declared.Refusal.TheVariants.{PinKeyParity10, PvkParity11, Field15, Room901, Frame902}
use Rattle.numbers.specs.declared.Reply.{Reply}
use Rattle.settings.specs.declared.Settings.{Settings}
use Rattle.keybox.specs.KeyBox.{boxed}
use Rattle.responses.specs.Responses.{Payload, answer_text, responding}
use Rattle.frame.specs.Frame.{is_framed}
use Rattle.frame.specs.declared.Code.{Code}
use Rattle.fields.specs.Fields.{Ruling, ruled, unpointed, heard, outcome}
use Rattle.fields.proofs.Reading.{ruled_read}
use Rattle.fields.proofs.Rulings.{heard_then, heard_pointing}
use Rattle.bkfinish.specs.BkFinish.{bk_finish}
use Rattle.commands.specs.Commands.{answer_by, answered}
use Rattle.claims_commands.proofs.Opened.{answered_901, answered_902, answered_framed}
use Rattle.claims_blocks.specs.Promises.{listed}
use Rattle.claims_blocks.proofs.Judged.{Only, done_only, refused_only}
use Rattle.claims_commands.specs.Runs.{code_in, Finds, pair_in}
use Rattle.claims_commands.specs.Claims.{read_numbers, ReadsExactly, ReturnsTellDifferences}
use Rattle.claims_commands.proofs.Fields.{listed_passes, In, field_numbers, fields_give}
use Rattle.claims_commands.proofs.Shapes.{Shape, box_only, pair_only, reached}
use Rattle.claims_commands.proofs.Listing.{bk_shape}
use Rattle.claims_commands.proofs.Numbers.{bk_rest, rest_only}
use Rattle.claims_commands.proofs.Differences.{offsets_tell_differences}

-- ---- a command that finds a PIN

-- a refusal whose number stands elsewhere
abbrev pub Other : List ℕ → Refusal → Type 0
Other numbers q = listed (number_of q) numbers ≡ false

-- what is refused for numbers of another list
pub other : {A : Type 0} (ms ns : List ℕ) (o : Outcome A) → every (λ m. not (listed m ns)) ms ≡ true → Only (In ms) o → Only (Other ns) o
other ms ns o h c q e = not-true _ (listed_passes (λ m. not (listed m ns)) (number_of q) ms h (c q e))

-- its finish is the PIN and what it comes to behind that. Before its PIN is found it is refused for other numbers than some, and behind
-- it for these alone
pub record Pinned {command : Code} {settings : Settings} {A B : Type 0} (c : Shape command settings A B) (P : Type 0) (numbers : List ℕ) : Type 0 where
  pub pin_in : List ℕ → A → List ℕ × List ℕ → Outcome P
  pub rest : List ℕ → A → P → Outcome B
  pub split : (s : List ℕ) (a : A) (rows : List ℕ × List ℕ) → c.finish s a rows ≡ and_then (pin_in s a rows) (rest s a)
  pub success : listed 0 numbers ≡ true
  -- 10, 11 and 15, which the key box's answers are refused for, 901 and 902
  pub apart : every (λ m. not (listed m numbers)) (10 ∷ 11 ∷ 15 ∷ 901 ∷ 902 ∷ []) ≡ true
  pub fields : (s : List ℕ) (at : ℕ) → Only (Other numbers) (outcome (c.reader s at))
  pub pins : (s : List ℕ) (a : A) (rows : List ℕ × List ℕ) → Only (Other numbers) (pin_in s a rows)
  pub behind : (s : List ℕ) (a : A) (p : P) → Only (In numbers) (rest s a p)

module _ {command : Code} {settings : Settings} {A B : Type 0} (c : Shape command settings A B) {P : Type 0} {numbers : List ℕ} (k : Pinned c P numbers) where
  -- refused for one of these numbers, or not at all
  abbrev Known : {X : Type 0} → Outcome X → Type 0
  Known o = Only (In numbers) o

  -- what a call says with one of them
  abbrev Read : Said ℕ → Type 0
  Read said = listed said.number numbers ≡ true

  elsewhere : (q : Refusal) → In (10 ∷ 11 ∷ 15 ∷ 901 ∷ 902 ∷ []) q → Other numbers q
  elsewhere q e = not-true _ (listed_passes (λ m. not (listed m numbers)) (number_of q) (10 ∷ 11 ∷ 15 ∷ 901 ∷ 902 ∷ []) k.apart e)

  -- what is only refused for other numbers is passed
  passes : {X Y : Type 0} (o : Outcome X) (next : X → Outcome Y) → Only (Other numbers) o → Known (and_then o next) → (x : X) × (o ≡ done x) × Known (next x)
  passes (done x) next f e = (x, refl, e)
  passes (refused q) next f e = absurd (false≢true (sym (f q refl) ∙ e q refl))

  passes_heard : {X Y : Type 0} (o : Ruling X) (next : X → Ruling Y) → Only (Other numbers) (heard o) → Known (heard (and_then o next)) → (x : X) × (o ≡ done x) × Known (heard (next x))
  passes_heard (done x) next f e = (x, refl, e)
  passes_heard (refused q) next f e = absurd (false≢true (sym (f q.refusal refl) ∙ e q.refusal refl))

  -- and what comes first is refused for no number but those of the whole
  first : {X Y : Type 0} (o : Outcome X) (next : X → Outcome Y) → Known (and_then o next) → Known o
  first o next e q h = e q (ap (λ (x : _). and_then x next) h)

  first_heard : {X Y : Type 0} (o : Ruling X) (next : X → Ruling Y) → Known (heard (and_then o next)) → Known (heard o)
  first_heard o next e = first (heard o) (λ x. heard (next x)) (subst Known (heard_then o next) e)

  -- so a finish, of what it brings and the place of the mark
  finish_known : (o : Outcome B) (mark : ℕ) → Known {X = Payload × ℕ} (heard (and_then (unpointed (and_then o (λ b. done (c.payload b)))) (λ p. done (p, mark)))) → Known o
  finish_known o mark e =
      let brings = and_then o (λ b. done (c.payload b)) in
      first o (λ b. done (c.payload b)) (subst Known (heard_pointing 0 0 brings) (first_heard (unpointed brings) (λ p. done (p, mark)) e))

  -- a response has one of the numbers exactly where it is not refused for another
  known : (header : ℕ) (s : List ℕ) (o : Outcome (List ℕ)) → Read (responding header s o) → Known o
  known header s (done w) e = done_only (In numbers) w
  known header s (refused q) e = refused_only (In numbers) q e

  said : {X : Type 0} (header : ℕ) (s : List ℕ) (o : Outcome X) (bytes : X → List ℕ) → Known o → Read (responding header s (and_then o (λ x. done (bytes x))))
  said header s (done x) bytes e = k.success
  said header s (refused q) bytes e = e q refl

  module _ (g h : Bool) (room : ℕ) (s block enciphered : List ℕ) where
    abbrev answer : Said ℕ
    answer = answered settings g h s block enciphered room

    abbrev Found : Type 0
    Found = Finds command c.reader (boxed (length s) g h block enciphered) k.pin_in settings.header room s

    -- behind room, frame and code
    framed_finds : 65 ≤ room → is_framed settings.header s ≡ true → code_in settings s ≡ command → Known (heard (answer_by command settings g h s (settings.header + 2) block enciphered)) → Found
    framed_finds roomy framed coded e =
        let at = settings.header + 2 in
        let f = passes_heard (ruled (c.reader s at)) _ (k.fields s at) (rw (c.answers g h s at block enciphered) at e) in
        let b = passes_heard (boxed (length s) g h block enciphered) _ (box_only (Other numbers) (elsewhere Field15 refl) (elsewhere PinKeyParity10 refl) (elsewhere PvkParity11 refl) (length s) g h block enciphered) f.2 in
        let n = passes (k.pin_in s f.0 b.0) (k.rest s f.0) (k.pins s f.0 b.0) (subst Known (k.split s f.0 b.0) (finish_known (c.finish s f.0 b.0) _ b.2)) in
        let r = ruled_read (c.reader s at) f.0 f.1 in
        record {
          reaches = record { roomy = roomy; framed = framed; coded = coded; fields = f.0; past = r.0; read = r.1; rows = b.0; boxed = b.1 };
          found = n.0;
          paired = n.1;
        }

    read_finds : code_in settings s ≡ command → Read answer → Found
    read_finds coded e = by_tests (leb 65 room) (is_framed settings.header s) refl refl
      where
        by_tests : (roomy framed : Bool) → leb 65 room ≡ roomy → is_framed settings.header s ≡ framed → Found
        by_tests false framed u v = absurd (false≢true (sym (elsewhere Room901 refl) ∙ subst Read (answered_901 settings g h s block enciphered room (leb-false 65 room u)) e))
        by_tests true false u v = absurd (false≢true (sym (elsewhere Frame902 refl) ∙ subst Read (answered_902 settings g h s block enciphered room (leb-true 65 room u) v) e))
        by_tests true true u v =
            let x = known settings.header s _ (subst Read (answered_framed settings g h s block enciphered room (leb-true 65 room u) v) e) in
            let y = first_heard (answer_by (code_in settings s) settings g h s (settings.header + 2) block enciphered) (λ answer. done (answer_text s answer)) x in
            framed_finds (leb-true 65 room u) v coded (subst (λ (z : Code). Known (heard (answer_by z settings g h s (settings.header + 2) block enciphered))) coded y)

    finds_read : Found → Read answer
    finds_read r =
        let a = r.reaches.fields in
        let rows = r.reaches.rows in
        let behind : Known (c.finish s a rows) = rw (k.split s a rows, r.paired) (k.behind s a r.found) in
        subst Read (sym (reached c g h room s block enciphered r.reaches)) (said settings.header s (c.finish s a rows) _ behind)

    -- a run with its code finds its PIN exactly when its number is one of these
    pub finds_exactly : code_in settings s ≡ command → Read answer ↔ Found
    finds_exactly coded = (read_finds coded, finds_read)

-- ---- BK

pub bk_pinned : (settings : Settings) → Pinned (bk_shape settings) (List ℕ × List ℕ) read_numbers
unfolding every bk_finish
bk_pinned settings = record {
  pin_in = pair_in;
  rest = bk_rest settings.variable;
  split = λ s p rows. refl;
  success = refl;
  apart = refl;
  fields = λ s at. other field_numbers read_numbers _ refl (fields_give settings.restricted s at);
  pins = λ s p rows. pair_only (Other read_numbers) refl refl _ _ _;
  behind = λ s p pair. rest_only (In read_numbers) settings.variable (λ _. refl) refl s p pair;
}

pub reads_exactly : ReadsExactly
unfolding bk_pinned
reads_exactly settings g h room s block enciphered coded = finds_exactly (bk_shape settings) (bk_pinned settings) g h room s block enciphered coded

-- ---- two returns

module _ (x y : Said ℕ) (before before' after after' : List ℕ) (reply reply' : Reply) (d : Does x before reply after) (d' : Does y before' reply' after') where
  -- the bytes that are counted are those that were said
  counted : (z : Said ℕ) (before after : List ℕ) (reply : Reply) → Does z before reply after → take reply.written after ≡ z.written
  counted z before after reply d = ap (take reply.written) d.buffer ∙ take_at z.written _ reply.written (sym d.count)

  -- so they agree exactly when the calls say the same
  pub returns_agree : ((reply.number ≡ reply'.number) × (take reply.written after ≡ take reply'.written after')) ↔ (x ≡ y)
  returns_agree =
      let here = counted x before after reply d in
      let there = counted y before' after' reply' d' in (
        λ e. ap₂ (λ (n : ℕ) (w : List ℕ). record { number = n; written = w }) (sym d.number ∙ e.0 ∙ d'.number) (sym here ∙ e.1 ∙ there),
        λ e. (d.number ∙ ap (λ (z : Said ℕ). z.number) e ∙ sym d'.number, here ∙ ap (λ (z : Said ℕ). z.written) e ∙ sym there),
      )

pub returns_tell_differences : ReturnsTellDifferences
returns_tell_differences settings g h s t block block' enciphered enciphered' before before' after after' reply reply' coded coded' d d' e e' =
    let r = (reads_exactly settings g h (length before) s block enciphered coded).0 (subst (λ (n : ℕ). listed n read_numbers ≡ true) d.number e) in
    let r' = (reads_exactly settings g h (length before') t block' enciphered' coded').0 (subst (λ (n : ℕ). listed n read_numbers ≡ true) d'.number e') in
    let agree = returns_agree _ _ before before' after after' reply reply' d d' in (
      r,
      r',
      λ m alike long c.
          let tell = offsets_tell_differences settings g h (length before) (length before') s t block block' enciphered enciphered' r r' m alike long c in
          (λ a. tell.0 (agree.0 a), λ a. agree.1 (tell.1 a)),
    )
