-- The bytes that a host sends, where they are a command of the paper's, whatever the command.
-- Assumes nothing.
use Prim.Native.Nat.{ℕ, ◌+◌, ◌≤◌}
use native.Mathlib.Omega.{arith}
use mathlib.Core.Path.{◌≡◌, refl, sym, ap, ◌∙◌}
use mathlib.Core.Logic.{◌⊎◌, inl, inr}
use mathlib.Core.List.{List, [], ◌∷◌, ◌++◌}
use mathlib.Core.Bool.{true, and-eq-true_iff}
use lib.ListN.{length, take, drop, length-append, take-append-drop}
use lib.Seq.{take_at, drop_at, drop-drop, length-take-le}
use lib.Dec.{leb}
use borrow.Author.Tests.{le-leb, eq-eqb}
use Rattle.alphabet.specs.Alphabet.{begins}
use Rattle.frame.specs.Frame.{is_framed, raised, opening, in_two_digits}
use Rattle.frame.proofs.Laws.{framed_bounds, code_answered}
use Rattle.fields.specs.Fields.{Stage, read, faulty}
use Rattle.fields.specs.declared.Fault.{Fault}
use Rattle.texts.specs.Whole.{Command, Exactly}
use Rattle.texts.proofs.Runs.{begins_split}
use Rattle.claims_exactly.specs.Sent.{IsHeader, sent, PapersCommand, HasFrame}

-- what the laws ask of a command: its code has two bytes, its fields are read exactly, and its text fits a frame behind any header
pub record Known (A : Type 0) : Type 1 where
  pub first : ℕ
  pub second : ℕ
  pub command : Command A
  pub fields : List ℕ → ℕ → Stage A
  pub exactly : Exactly command fields
  pub short : (p : command.Parts) → command.is p → length (command.text p) ≤ 4078

abbrev pub code_bytes : {A : Type 0} → Known A → List ℕ
code_bytes k = k.first ∷ k.second ∷ []

abbrev pub sent_of : {A : Type 0} → (k : Known A) → List ℕ → k.command.Parts → List ℕ
sent_of k header p = sent header (code_bytes k) k.command p

abbrev pub Papers : {A : Type 0} → Known A → ℕ → List ℕ → Type 0
Papers k setting s = PapersCommand (code_bytes k) k.command setting s

-- ---- frames

pub has_frame : (header : ℕ) (s : List ℕ) → is_framed header s ≡ true → HasFrame header s
unfolding is_framed
has_frame header s framed =
    let bounds = framed_bounds header s framed in
    let rest = ((and-eq-true_iff (leb (length s) 4096) _).0 ((and-eq-true_iff (leb header 16) _).0 framed).1).1 in
    let long : length (take header s) ≡ header = length-take-le header s (omega (arith, bounds.2)) in
    record { header = (bounds.0, (long, ((and-eq-true_iff (leb (header + 2) (length s)) _).0 rest).1)); most = bounds.1; least = bounds.2 }

pub is_framed_lem : (header : ℕ) (s : List ℕ) → HasFrame header s → is_framed header s ≡ true
unfolding is_framed
is_framed_lem header s h = rw (le-leb header 16 h.header.0, le-leb (length s) 4096 h.most, le-leb (header + 2) (length s) h.least) h.header.1.1

-- ---- from parts to bytes

module _ {A : Type 0} (k : Known A) (setting : ℕ) (header : List ℕ) (p : k.command.Parts) (h : IsHeader setting header) (g : k.command.is p) where
  abbrev whole : List ℕ
  whole = sent_of k header p

  abbrev text : List ℕ
  text = k.command.text p

  abbrev at : ℕ
  at = setting + 2

  headed : take setting whole ≡ header
  headed = take_at header (code_bytes k ++ text) setting h.1.0

  -- they have a frame
  pub sent_framed : is_framed setting whole ≡ true
  sent_framed =
      let size : length whole ≡ setting + 2 + length text = length-append header (code_bytes k ++ text) ∙ omega (arith, h.1.0) in
      let short = k.short p g in
      is_framed_lem setting whole (record { header = rw headed h; most = omega (arith, h.0); least = omega arith })

  -- and the code
  pub sent_code : drop setting whole ≡ k.first ∷ k.second ∷ text
  sent_code = drop_at header (code_bytes k ++ text) setting h.1.0

  pub sent_begins : begins (code_bytes k) (drop setting whole) ≡ true
  unfolding begins
  sent_begins = rw (sent_code, eq-eqb k.first k.first refl, eq-eqb k.second k.second refl)

  -- behind which the fields begin
  pub sent_fields : drop at whole ≡ text
  sent_fields = sym (drop-drop 2 setting whole) ∙ ap (drop 2) sent_code

  pub sent_read : k.fields whole at ≡ read (k.command.placed at p) (at + length text)
  sent_read = k.exactly.read_back whole at p g sent_fields

  -- a response opens with the header, the code with its second byte raised, and the number
  pub sent_opening : (number : ℕ) → opening setting whole number ≡ header ++ (k.first ∷ raised k.second ∷ in_two_digits number)
  sent_opening number =
      code_answered k.first k.second setting whole number sent_begins ∙ ap (λ (l : List ℕ). l ++ (k.first ∷ raised k.second ∷ in_two_digits number)) headed

-- ---- from bytes to parts

module _ {A : Type 0} (k : Known A) (setting : ℕ) (s : List ℕ) (framed : is_framed setting s ≡ true) (coded : begins (code_bytes k) (drop setting s) ≡ true) where
  -- bytes that have a frame and the code, and behind it the text of parts, are such a command
  sent_from : (p : k.command.Parts) → k.command.is p → drop (setting + 2) s ≡ k.command.text p → Papers k setting s
  sent_from p g e =
      let code = begins_split (code_bytes k) (drop setting s) coded in
      let behind : drop setting s ≡ code_bytes k ++ k.command.text p = code ∙ ap (λ (l : List ℕ). code_bytes k ++ l) (drop-drop 2 setting s ∙ e) in
      record {
        header = take setting s;
        parts = p;
        is_header = (has_frame setting s framed).header;
        is = g;
        bytes = sym (take-append-drop setting s) ∙ ap (λ (l : List ℕ). take setting s ++ l) behind;
      }

  -- what has a frame and the code is such a command, or its fields have a fault
  pub sent_or_faulty : Papers k setting s ⊎ ((f : Fault) × (k.fields s (setting + 2) ≡ faulty f))
  sent_or_faulty = by_fields (k.fields s (setting + 2)) refl
    where
      by_fields : (o : Stage A) → k.fields s (setting + 2) ≡ o → Papers k setting s ⊎ ((f : Fault) × (k.fields s (setting + 2) ≡ faulty f))
      by_fields (read v past) e =
          let n = k.exactly.nothing_else s (setting + 2) v past e in
          inl (sent_from n.0 n.1 n.2)
      by_fields (faulty f) e = inr (f, e)
