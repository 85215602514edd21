-- A command of the one shape, whatever its fields and its finish: what its two calls come to, and for what they are refused.
-- Assumes nothing.
use Prim.Native.Nat.{ℕ, ◌+◌, ◌≤◌}
use native.Mathlib.Omega.{arith}
use mathlib.Core.Path.{◌≡◌, refl, sym, ap, ◌∙◌, subst}
use mathlib.Core.List.{List, ◌++◌}
use mathlib.Core.Bool.{Bool}
use lib.ListN.{length, drop, length-append, length-drop}
use Rattle.nibbles.specs.Nibbles.{packs}
use Rattle.numbers.specs.Numbers.{Outcome, done, refused, and_then, unless}
use Rattle.numbers.specs.declared.Refusal.{Refusal}
use Rattle.numbers.specs.declared.Refusal.TheVariants.{PinKeyParity10, PvkParity11, Field15, Block20, Length24}
use Rattle.numbers.proofs.Laws.{value_of_lem}
use Rattle.settings.specs.declared.Settings.{Settings}
use Rattle.formats.specs.declared.Format.{Format}
use Rattle.pins.specs.Pins.{account_field, sized}
use Rattle.blocks.specs.Blocks.{read_row}
use Rattle.naturals.specs.Naturals.{natural_of}
use Rattle.validation.specs.Validation.{validation_row}
use Rattle.offsets.specs.Offsets.{pin_with_natural}
use Rattle.frame.specs.declared.Code.{Code}
use Rattle.fields.specs.Fields.{Stage, read, faulty, Ruling, ruled, pointing, unpointed, heard, outcome}
use Rattle.fields.specs.declared.Fault.{Fault}
use Rattle.keybox.specs.KeyBox.{slices, parities, boxed}
use Rattle.responses.specs.Responses.{Payload, payload_text, answering, answer_text, responding}
use Rattle.responses.proofs.Laws.{Fine}
use Rattle.offsetting.specs.Offsetting.{account_in, validation_in}
use Rattle.offsetting.specs.declared.Offsetting.{Offsetting}
use Rattle.pairing.specs.Pairing.{asked_at}
use Rattle.commands.specs.Commands.{ask_by, answer_by, answered, commanded}
use Rattle.commands.proofs.Laws.{answer_by_sound}
use Rattle.claims_commands.proofs.Opened.{answered_framed}
use Rattle.claims_blocks.proofs.Judged.{Only, done_only, test_only, then_only}
use Rattle.claims_numbers.proofs.Refused.{row_only, sized_only, validation_only}
use Rattle.claims_commands.specs.Runs.{Reached}
use Rattle.claims_commands.proofs.Fields.{then_heard, pointed_only}

-- ---- the shape

-- its fields, and of the asking call what it asks for; of the answering call what the key box answered, a finish, what that brings and
-- the place of the trailer's mark
pub record Shape (command : Code) (settings : Settings) (A B : Type 0) : Type 0 where
  pub reader : List ℕ → ℕ → Stage A
  pub asked : List ℕ → A → Outcome (List ℕ)
  pub finish : List ℕ → A → List ℕ × List ℕ → Outcome B
  pub payload : B → Payload
  pub mark : A → ℕ
  pub asks : (s : List ℕ) (at : ℕ) → ask_by command settings s at ≡ and_then (ruled (reader s at)) (λ a. unpointed (asked s a))
  pub answers : (g h : Bool) (s : List ℕ) (at : ℕ) (block enciphered : List ℕ)
      → answer_by command settings g h s at block enciphered
      ≡ answering (reader s at) (boxed (length s) g h block enciphered) (λ a rows. and_then (finish s a rows) (λ b. done (payload b))) mark

-- a run, where the fields are those of another reader
abbrev pub relaid : {command : Code} {A R : Type 0} {reader reader' : List ℕ → ℕ → Stage A} {box : Ruling R} {header room : ℕ} {s : List ℕ}
    → reader' s (header + 2) ≡ reader s (header + 2) → Reached command reader box header room s → Reached command reader' box header room s
relaid same r = record { roomy = r.roomy; framed = r.framed; coded = r.coded; fields = r.fields; past = r.past; read = same ∙ r.read; rows = r.rows; boxed = r.boxed }

-- ---- behind the fields, over any refusals that hold those named

module _ (these : Refusal → Type 0) where
  -- what the key box answered: 15, 10, 11
  pub box_only : these Field15 → these PinKeyParity10 → these PvkParity11 → (end : ℕ) (g h : Bool) (block enciphered : List ℕ) → Only these (heard (boxed end g h block enciphered))
  unfolding boxed slices parities
  box_only c x y end g h block enciphered =
      then_heard these (pointing 0 end (slices block enciphered)) _
      (pointed_only these 0 end _ (then_only these (sized 8 block) _ (sized_only these c block)
      (λ ns. then_only these (sized 8 enciphered) _ (sized_only these c enciphered)
      (λ es. done_only these (ns, es)))))
      (λ rows. then_heard these (unpointed (parities g h)) _
      (pointed_only these 0 0 _ (then_only these (unless PinKeyParity10 g (tt {0})) _ (test_only these PinKeyParity10 x g (tt {0}))
      (λ _. test_only these PvkParity11 y h (tt {0}))))
      (λ _. done_only these rows))

  -- the block: 20, 24
  pub pair_only : these Block20 → these Length24 → (f : Format) (ts : List ℕ) (g : List ℕ × List ℕ × List ℕ) → Only these (pin_with_natural f ts g)
  unfolding pin_with_natural
  pair_only b l f ts g =
      then_only these (read_row f (account_field g.1) g.0) _ (row_only these b l f (account_field g.1) g.0)
      (λ ds. done_only these (ds, natural_of (length ds) ts g.2))

  -- what is asked for: 15
  pub asked_only : these Field15 → (s : List ℕ) (o : Offsetting) → Only these (asked_at s o)
  asked_only c s o = then_only these (validation_row (account_in s o) (validation_in s o)) _ (validation_only these c (account_in s o) (validation_in s o)) (λ ns. done_only these (packs ns))

-- ---- a command of the shape

module _ {command : Code} {settings : Settings} {A B : Type 0} (c : Shape command settings A B) where
  -- what its finish comes to and what that brings, as one judgement
  abbrev brings : List ℕ → A → List ℕ × List ℕ → Outcome Payload
  brings s a rows = and_then (c.finish s a rows) (λ b. done (c.payload b))

  -- for what the asking call is refused: in the fields, and for what it asks
  pub ask_only : (these : Refusal → Type 0) (s : List ℕ) (at : ℕ) → Only these (outcome (c.reader s at)) → ((a : A) → Only these (c.asked s a))
      → Only these (heard (ask_by command settings s at))
  ask_only these s at f k = rw (c.asks s at) (then_heard these (ruled (c.reader s at)) _ f (λ a. pointed_only these 0 0 (c.asked s a) (k a)))

  -- for what the answering call is: in the fields, for what the key box answered, and in the finish
  pub answer_only : (these : Refusal → Type 0) → these Field15 → these PinKeyParity10 → these PvkParity11
      → (g h : Bool) (s : List ℕ) (at : ℕ) (block enciphered : List ℕ)
      → Only these (outcome (c.reader s at)) → ((a : A) (rows : List ℕ × List ℕ) → Only these (c.finish s a rows))
      → Only these (heard (answer_by command settings g h s at block enciphered))
  answer_only these x y z g h s at block enciphered f k =
      rw (c.answers g h s at block enciphered)
      (then_heard these (ruled (c.reader s at)) _ f
      (λ a. then_heard these (boxed (length s) g h block enciphered) _ (box_only these x y z (length s) g h block enciphered)
      (λ rows. then_heard these (unpointed (brings s a rows)) _
      (pointed_only these 0 0 (brings s a rows) (then_only these (c.finish s a rows) _ (k a rows) (λ b. done_only these (c.payload b))))
      (λ p. done_only these (p, c.mark a)))))

  -- where the asking call asks for something whenever the fields are read, what it refuses the answering call refuses too
  pub answer_refuses : ((s : List ℕ) (at : ℕ) (a : A) (past : ℕ) → c.reader s at ≡ read a past → (bytes : List ℕ) × (c.asked s a ≡ done bytes))
      → (g h : Bool) (s : List ℕ) (at : ℕ) (block enciphered : List ℕ) (f : Fault)
      → ask_by command settings s at ≡ refused f → answer_by command settings g h s at block enciphered ≡ refused f
  answer_refuses asked g h s at block enciphered f e =
      c.answers g h s at block enciphered ∙ by_fields (c.reader s at) refl (sym (c.asks s at) ∙ e)
    where
      by_fields : (stage : Stage A) → c.reader s at ≡ stage → and_then (ruled stage) (λ a. unpointed (c.asked s a)) ≡ refused f
          → answering stage (boxed (length s) g h block enciphered) (brings s) c.mark ≡ refused f
      by_fields (read a past) r e = absurd (let d = asked s at a past r in let x = rw d.1 at e in let z : ◌≡◌ {A = ℕ} 0 1 = cc in omega arith)
      by_fields (faulty q) r e = let same : q ≡ f = cc in ap refused same

  -- what an answer brings is what some finish does
  brought : (s : List ℕ) (stage : Stage A) (box : Ruling (List ℕ × List ℕ)) (d : Payload × ℕ) → answering stage box (brings s) c.mark ≡ done d → (b : B) × (c.payload b ≡ d.0)
  brought s (read a past) (done rows) d e = by_finish (c.finish s a rows) e
    where
      by_finish : (o : Outcome B) → and_then (unpointed (and_then o (λ b. done (c.payload b)))) (λ p. done (p, c.mark a)) ≡ done d → (b : B) × (c.payload b ≡ d.0)
      by_finish (done b) e = (b, ap (λ (x : Payload × ℕ). x.0) (value_of_lem e))
      by_finish (refused q) e = absurd (let z : ◌≡◌ {A = ℕ} 0 1 = cc in omega arith)
  brought s (read a past) (refused f) d e = absurd (let z : ◌≡◌ {A = ℕ} 0 1 = cc in omega arith)
  brought s (faulty f) box d e = absurd (let z : ◌≡◌ {A = ℕ} 0 1 = cc in omega arith)

  -- what it answers has n to n + 33 bytes, where what it brings has n
  pub answer_long : (n : ℕ) → ((b : B) → Fine (c.payload b) → length (payload_text (c.payload b)) ≡ n)
      → (g h : Bool) (s : List ℕ) (at : ℕ) (block enciphered : List ℕ) (d : Payload × ℕ)
      → answer_by command settings g h s at block enciphered ≡ done d → (n ≤ length (answer_text s d)) × (length (answer_text s d) ≤ n + 33)
  answer_long n whole g h s at block enciphered d e =
      let held = answer_by_sound command settings g h s at block enciphered d e in
      let b = brought s (c.reader s at) (boxed (length s) g h block enciphered) d (sym (c.answers g h s at block enciphered) ∙ e) in
      let text = subst (λ (p : Payload). Fine p → length (payload_text p) ≡ n) b.1 (whole b.0) held.payload in
      let long = length-append (payload_text d.0) (drop d.1 s) in
      let rest = length-drop d.1 s in
      (omega (arith, text, long, rest, held.inside, held.tail), omega (arith, text, long, rest, held.inside, held.tail))

  module _ (g h : Bool) (room : ℕ) (s block enciphered : List ℕ) (r : Reached command c.reader (boxed (length s) g h block enciphered) settings.header room s) where
    -- what a command answers and what stands behind 00, as one step
    behind : (o : Outcome B) (mark : ℕ)
        → heard (and_then (and_then (unpointed (and_then o (λ b. done (c.payload b)))) (λ p. done (p, mark))) (λ answer. done (answer_text s answer)))
        ≡ and_then o (λ b. done (payload_text (c.payload b) ++ drop mark s))
    behind (done b) mark = refl
    behind (refused q) mark = refl

    -- what a run comes to that gets as far as its block: its finish, and behind 00 what that brings and the trailer
    pub reached_said : heard (commanded settings g h s block enciphered settings.header)
        ≡ and_then (c.finish s r.fields r.rows) (λ b. done (payload_text (c.payload b) ++ drop (c.mark r.fields) s))
    reached_said =
        rw (r.coded, c.answers g h s (settings.header + 2) block enciphered, r.read, r.boxed)
        (behind (c.finish s r.fields r.rows) (c.mark r.fields))

    -- so what it answers is the response to that
    pub reached : answered settings g h s block enciphered room
        ≡ responding settings.header s (and_then (c.finish s r.fields r.rows) (λ b. done (payload_text (c.payload b) ++ drop (c.mark r.fields) s)))
    reached = answered_framed settings g h s block enciphered room r.roomy r.framed ∙ ap (responding settings.header s) reached_said
