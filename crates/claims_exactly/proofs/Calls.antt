-- What the two calls say to a command of the paper's and to other bytes, whatever the command.
-- Assumes nothing.
use Prim.Native.Nat.{ℕ, ◌+◌, ◌%◌, ◌≤◌, ◌<◌}
use native.Mathlib.Omega.{arith}
use mathlib.Core.Path.{◌≡◌, refl, sym, ap, ◌∙◌, subst}
use mathlib.Core.Logic.{◌⊎◌, inl, inr}
use mathlib.Core.List.{List, [], ◌∷◌, ◌++◌, append_assoc}
use mathlib.Core.Bool.{Bool, true}
use lib.ListN.{length, drop}
use borrow.Author.Tests.{eq-eqb}
use Rattle.nibbles.specs.Nibbles.{nibs, every}
use Rattle.alphabet.specs.Alphabet.{begins}
use Rattle.numbers.specs.Numbers.{Outcome, done, refused, and_then, number_of}
use Rattle.numbers.specs.Promise.{Said, quietly}
use Rattle.settings.specs.declared.Settings.{Settings}
use Rattle.frame.specs.Frame.{is_framed, code_of, raised, opening, in_two_digits}
use Rattle.frame.specs.declared.Code.{Code}
use Rattle.fields.specs.Fields.{read, faulty, unpointed, heard, outcome}
use Rattle.fields.specs.declared.Fault.{Fault}
use Rattle.keybox.specs.KeyBox.{slices, parities, boxed}
use Rattle.responses.specs.Responses.{payload_text, responding}
use Rattle.commands.specs.Commands.{answer_by, asked, answered}
use Rattle.claims_commands.proofs.Opened.{asked_framed, answered_framed}
use Rattle.texts.specs.Texts.{as_two_digits}
use Rattle.claims_blocks.specs.Promises.{listed}
use Rattle.claims_blocks.proofs.Judged.{Only}
use Rattle.claims_numbers.proofs.Numbers.{never_00}
use Rattle.claims_commands.specs.Runs.{Reached}
use Rattle.claims_commands.proofs.Fields.{listed_passes, In, field_numbers}
use Rattle.claims_commands.proofs.Shapes.{Shape, reached, reached_said}
use Rattle.claims_commands.proofs.Numbers.{two_digit}
use Rattle.claims_exactly.specs.Sent.{IsHeader, response}
use Rattle.claims_exactly.proofs.Sent.{Known, code_bytes, sent_of, Papers, sent_framed, sent_code, sent_read, sent_opening, sent_or_faulty}

-- what the laws ask of a command of the shape: its text is known and its fields are those of the text, its code is told by its two bytes,
-- and its fields are refused for the fields' numbers
pub record Called {code : Code} {settings : Settings} {A B : Type 0} (c : Shape code settings A B) : Type 1 where
  pub known : Known A
  pub fields : (s : List ℕ) (at : ℕ) → c.reader s at ≡ known.fields s at
  pub coded : (cs : List ℕ) → code_of (code_bytes known ++ cs) ≡ code
  pub begun : (cs : List ℕ) → code_of cs ≡ code → begins (code_bytes known) cs ≡ true
  pub gives : (s : List ℕ) (at : ℕ) → Only (In field_numbers) (outcome (known.fields s at))

-- ---- responses

-- a number under 100 in two digits, as the frame and as the texts have it
two_digits : (n : ℕ) → n < 100 → in_two_digits n ≡ as_two_digits n
two_digits n small = ap (λ (t : ℕ). (0x30 + t) ∷ (0x30 + n % 10) ∷ []) (omega arith)

responds : (setting : ℕ) (s header : List ℕ) (a b : ℕ) → ((number : ℕ) → opening setting s number ≡ header ++ (a ∷ b ∷ in_two_digits number))
    → (o : Outcome (List ℕ)) → Only (λ q. number_of q < 100) o → responding setting s o ≡ response header (a ∷ b ∷ []) o
responds setting s header a b opens (done w) c = rw (opens 0, append_assoc header (a ∷ b ∷ 0x30 ∷ 0x30 ∷ []) w)
responds setting s header a b opens (refused q) c = rw (opens (number_of q), two_digits (number_of q) (c q refl))

box_eight : (end : ℕ) (block enciphered : List ℕ) → length block ≡ 8 → length enciphered ≡ 8 → boxed end true true block enciphered ≡ done (nibs block, nibs enciphered)
unfolding boxed slices parities
box_eight end block enciphered b e = rw (eq-eqb (length block) 8 b, eq-eqb (length enciphered) 8 e)

-- ---- to a command of the paper's

module _ {code : Code} {settings : Settings} {A B : Type 0} {c : Shape code settings A B} (k : Called c) (header : List ℕ) (p : k.known.command.Parts) (h : IsHeader settings.header header)
    (g : k.known.command.is p) where
  abbrev whole : List ℕ
  whole = sent_of k.known header p

  abbrev value : A
  value = k.known.command.placed (settings.header + 2) p

  sent_coded : code_of (drop settings.header whole) ≡ code
  sent_coded = ap code_of (sent_code k.known settings.header header p h g) ∙ k.coded (k.known.command.text p)

  fields_read : c.reader whole (settings.header + 2) ≡ read value (settings.header + 2 + length (k.known.command.text p))
  fields_read = k.fields whole (settings.header + 2) ∙ sent_read k.known settings.header header p h g

  -- what it asks for
  pub sent_asked : (room : ℕ) → 8 ≤ room → asked settings whole room ≡ heard (unpointed (c.asked whole value))
  sent_asked room roomy =
      asked_framed settings whole room roomy (sent_framed k.known settings.header header p h g)
      ∙ rw (sent_coded, c.asks whole (settings.header + 2), fields_read)

  -- what it is answered, with good parities and slices of 8
  pub sent_answered : (block enciphered : List ℕ) (room : ℕ) → length block ≡ 8 → length enciphered ≡ 8 → 65 ≤ room
      → answered settings true true whole block enciphered room
      ≡ response header (k.known.first ∷ raised k.known.second ∷ [])
      (and_then (c.finish whole value (nibs block, nibs enciphered)) (λ b. done (payload_text (c.payload b) ++ drop (c.mark value) whole)))
  sent_answered block enciphered room b e roomy =
      let framed = sent_framed k.known settings.header header p h g in
      let reach : Reached code c.reader (boxed (length whole) true true block enciphered) settings.header room whole
      = record {
        roomy = roomy;
        framed = framed;
        coded = sent_coded;
        fields = value;
        past = settings.header + 2 + length (k.known.command.text p);
        read = fields_read;
        rows = (nibs block, nibs enciphered);
        boxed = box_eight (length whole) block enciphered b e;
      } in
      let said = reached_said c true true room whole block enciphered reach in
      let small = subst (Only (λ q. number_of q < 100)) said (λ q. two_digit settings true true whole block enciphered settings.header q) in
      reached c true true room whole block enciphered reach
      ∙ responds settings.header whole header k.known.first (raised k.known.second) (sent_opening k.known settings.header header p h g) _ small

-- ---- to other bytes

-- the numbers of the frame, the code and the fields
abbrev pub refusals : List ℕ
refusals = 3 ∷ 15 ∷ 23 ∷ 25 ∷ 26 ∷ 29 ∷ 68 ∷ 69 ∷ 902 ∷ []

-- the answering call answers one of them, whatever the key box answers
abbrev pub Early : Settings → List ℕ → Type 0
Early settings s = (n : ℕ) × (listed n refusals ≡ true)
    × ((g h : Bool) (block enciphered : List ℕ) (room : ℕ) → 65 ≤ room → (answered settings g h s block enciphered room).number ≡ n)

module _ (settings : Settings) (s : List ℕ) (framed : is_framed settings.header s ≡ true) where
  abbrev code : Code
  code = code_of (drop settings.header s)

  abbrev at : ℕ
  at = settings.header + 2

  -- so where there is a fault before the key box's answers are looked at
  pub early : (f : Fault) → listed (number_of f.refusal) refusals ≡ true
      → ((g h : Bool) (block enciphered : List ℕ) → answer_by code settings g h s at block enciphered ≡ refused f) → Early settings s
  early f given e = (
    number_of f.refusal,
    given,
    λ g h block enciphered room roomy. ap (λ (x : Said ℕ). x.number) (answered_framed settings g h s block enciphered room roomy framed) ∙ rw (e g h block enciphered),
  )

  module _ {command : Code} {A B : Type 0} {c : Shape command settings A B} (k : Called c) (coded : code ≡ command) where
    abbrev Tried : Type 0
    Tried = Papers k.known settings.header s ⊎ ((f : Fault) × (k.known.fields s at ≡ faulty f))

    tried : Tried
    tried = sent_or_faulty k.known settings.header s framed (k.begun (drop settings.header s) coded)

    -- bytes with the command's code for which the asking call answers 00 are such a command
    pub asked_papers : (room : ℕ) → 8 ≤ room → (quietly (asked settings s room)).number ≡ 0 → Papers k.known settings.header s
    asked_papers room roomy e = by_fields tried
      where
        by_fields : Tried → Papers k.known settings.header s
        by_fields (inl c) = c
        by_fields (inr (f, n)) =
            let bad : asked settings s room ≡ refused f.refusal = asked_framed settings s room roomy framed ∙ rw (coded, c.asks s at, k.fields s at, n) in
            absurd (never_00 f.refusal (sym (rw bad at e)))

    -- and those that are none are refused early
    pub papers_or_early : Papers k.known settings.header s ⊎ Early settings s
    unfolding every
    papers_or_early = by_fields tried
      where
        by_fields : Tried → Papers k.known settings.header s ⊎ Early settings s
        by_fields (inl c) = inl c
        by_fields (inr (f, n)) =
            let given = k.gives s at f.refusal (ap outcome n) in
            inr
            (early f (listed_passes (λ m. listed m refusals) (number_of f.refusal) field_numbers refl given)
            (λ g h block enciphered. rw (coded, c.answers g h s at block enciphered, k.fields s at, n)))
