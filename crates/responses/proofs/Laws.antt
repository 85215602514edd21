-- What the two calls came to as values of the code, and a response, piece after piece.
-- Assumes nothing.
use Prim.Native.Nat.{ℕ, ◌+◌, ◌-◌, ◌≤◌}
use native.Mathlib.Omega.{arith}
use mathlib.Core.Path.{◌≡◌, refl, sym, ap, ap₂, ◌∙◌, subst}
use mathlib.Core.List.{List, ◌++◌, append_assoc}
use Rattle.std.specs.Prelude.{Ok, Err}
use lib.ListN.{length, take, drop, length-append, length-drop}
use lib.Seq.{take_all}
use lib.Dec.{lit≤}
use Rattle.nibbles.specs.Nibbles.{word, nibs, row, packs}
use Rattle.nibbles.proofs.Lists.{Below, below_weaken}
use Rattle.nibbles.proofs.Rows.{row_length, row_word}
use Rattle.numbers.specs.Numbers.{Outcome, done, refused, and_then, number_of}
use Rattle.numbers.specs.Promise.{Does}
use Rattle.numbers.specs.declared.Refusal.{Refusal}
use Rattle.numbers.specs.declared.Reply.{Reply}
use Rattle.pins.specs.declared.Pin.{Pin}
use Rattle.answers.specs.Answers.{block_of, digits_of}
use Rattle.answers.proofs.Laws.{Sixteen, sixteen_word, sixteen_nibs}
use Rattle.offsettexts.specs.OffsetTexts.{offset_text}
use Rattle.offsettexts.proofs.Laws.{text_length}
use Rattle.frame.specs.Frame.{opening}
use Rattle.frame.proofs.Laws.{over_lent, opening_length}
use Rattle.fields.specs.Fields.{Ruling, unpointed}
use Rattle.responses.specs.Responses as paper
use Rattle.responses.specs.Responses.{payload_text, answer_text, responding}
use Rattle.responses.specs.Answers.{asked_of, asked_bytes, RoomToAsk, payload_of, answered_of, answered_text, carried, Short, Writable}
use Rattle.responses.specs.declared.Payload.{Payload}
use Rattle.responses.specs.declared.Payload.TheVariants.{Offset, Nothing}

-- ---- the asking call

-- the block of a judgement that points at nothing is what is asked for
pub block_asked : (o : Outcome (List ℕ)) (w : ℕ) → Ok w ≡ block_of o → Ok w ≡ asked_of (unpointed o)
block_asked (done bytes) w e = let z : w ≡ word (nibs bytes) = cc in ap Ok z
block_asked (refused q) w e = absurd (let z : ◌≡◌ {A = ℕ} 0 1 = cc in omega arith)

-- or its refusal, which points at nothing
pub block_refused : (o : Outcome (List ℕ)) (q : Refusal) → Err q ≡ block_of o → Err (record { refusal = q; field = 0; place = 0 }) ≡ asked_of (unpointed o)
block_refused (done bytes) q e = absurd (let z : ◌≡◌ {A = ℕ} 0 1 = cc in omega arith)
block_refused (refused p) q e = let z : q ≡ p = cc in ap (λ (x : Refusal). Err (record { refusal = x; field = 0; place = 0 })) z

-- the code's block says what is asked for, where that is the bytes of such a row
abbrev pub Blocky : Ruling (List ℕ) → ℕ → Type 0
Blocky o room = (bs : List ℕ) → o ≡ done bs → (8 ≤ room) × ((ns : List ℕ) × Sixteen ns × (bs ≡ packs ns))

pub asked_bytes_lem : (o : Ruling (List ℕ)) (room : ℕ) → Blocky o room → asked_bytes (asked_of o) ≡ o
asked_bytes_lem (done bs) room b =
    let p = b bs refl in
    let e : nibs bs ≡ p.1.0 = ap nibs p.1.2 ∙ sixteen_nibs p.1.0 p.1.1 in
    ap done (ap (λ (ns : List ℕ). packs (row 16 (word ns))) e ∙ ap packs (sixteen_word p.1.0 p.1.1) ∙ sym p.1.2)
asked_bytes_lem (refused f) room b = refl

pub asked_roomy : (o : Ruling (List ℕ)) (room : ℕ) → Blocky o room → RoomToAsk (asked_of o) room
asked_roomy (done bs) room b = (b bs refl).0
asked_roomy (refused f) room b = tt

-- ---- the answering call

-- what an answer holds: digits, at most twelve of them, and the place of the trailer's mark, at most 33 bytes before the end
abbrev pub Fine : paper.Payload → Type 0
Fine (paper.offset ds) = (length ds ≤ 12) × Below 10 ds
Fine paper.nothing = Unit {0}

pub record Sound (s : List ℕ) (answer : paper.Payload × ℕ) : Type 0 where
  pub payload : Fine answer.0
  pub inside : answer.1 ≤ length s
  pub tail : length s ≤ answer.1 + 33

module _ (s : List ℕ) where
  -- it fits the response
  pub sound_writable : (o : Ruling (paper.Payload × ℕ)) → ((d : paper.Payload × ℕ) → o ≡ done d → Sound s d) → Writable s (answered_of o)
  sound_writable (done d) held = let a = held d refl in record { short = short d.0 a.payload; inside = a.inside; tail = a.tail }
    where
      short : (p : paper.Payload) → Fine p → Short (payload_of p)
      short (paper.offset ds) f = f.0
      short paper.nothing f = tt
  sound_writable (refused f) held = tt

  -- and its value says what is answered
  pub sound_text : (o : Ruling (paper.Payload × ℕ)) → ((d : paper.Payload × ℕ) → o ≡ done d → Sound s d) → answered_text s (answered_of o) ≡ and_then o (λ d. done (answer_text s d))
  sound_text (done d) held = ap (λ (t : List ℕ). done (t ++ drop d.1 s)) (same d.0 (held d refl).payload)
    where
      same : (p : paper.Payload) → Fine p → carried (payload_of p) ≡ payload_text p
      same (paper.offset ds) f = ap offset_text (row_word ds (below_weaken 10 16 ds (lit≤ tt) f.1))
      same paper.nothing f = refl
  sound_text (refused f) held = refl

-- an offset has twelve characters, and nothing none
pub carried_offset : (p : Pin) → p.length ≤ 12 → length (carried (Offset p)) ≡ 12
carried_offset p h = text_length (digits_of p) (omega (arith, row_length p.length p.digits))

pub carried_short : (p : Payload) → Short p → length (carried p) ≤ 12
carried_short (Offset p) h = omega (arith, carried_offset p h)
carried_short Nothing h = omega arith

-- an offset that was written is what such a payload writes
pub offset_put : (payload : Payload) (p : Pin) (before after : List ℕ) → payload ≡ Offset p → Short payload → after ≡ offset_text (digits_of p) ++ drop 12 before
    → (12 ≡ length (carried payload)) × (12 ≤ 12) × (after ≡ carried payload ++ drop (length (carried payload)) before)
offset_put payload p before after e h w =
    let twelve = carried_offset p (subst Short e h) in
    let count : length (carried payload) ≡ 12 = ap (λ (x : Payload). length (carried x)) e ∙ twelve in
    (sym count, omega arith, w ∙ ap₂ (λ (t : List ℕ) (k : ℕ). t ++ drop k before) (ap carried (sym e)) (sym count))

-- a lent buffer behind a place, with what came back of it
abbrev pub lent : ℕ → List ℕ → List ℕ → List ℕ
lent at after rest = take at after ++ (rest ++ drop (length after - at) (drop at after))

-- an opening, a text and a trailer, each written over what lies behind the one before
pub three_pieces : (header n mark : ℕ) (opened text s before first middle trailer : List ℕ) → length opened ≡ header + 4 → n ≡ length text → mark ≤ length s
    → first ≡ opened ++ drop (header + 4) before
    → middle ≡ text ++ drop (length text) (take (length first - (header + 4)) (drop (header + 4) first))
    → trailer ≡ take (length s - mark) (drop mark s) ++ drop (length (take (length s - mark) (drop mark s))) (take (length (lent (header + 4) first middle) - (header + 4 + n)) (drop (header + 4 + n) (lent (header + 4) first middle)))
    → lent (header + 4 + n) (lent (header + 4) first middle) trailer ≡ (opened ++ (text ++ drop mark s)) ++ drop (length (opened ++ (text ++ drop mark s))) before
three_pieces header n mark opened text s before first middle trailer long count inside e₁ e₂ e₃ =
    let whole : take (length s - mark) (drop mark s) ≡ drop mark s = take_all (length s - mark) (drop mark s) (omega (arith, length-drop mark s)) in
    let both : length (opened ++ text) ≡ header + 4 + n = rw length-append (omega arith) in
    let second : lent (header + 4) first middle ≡ (opened ++ text) ++ drop (header + 4 + n) before =
    over_lent opened text before first (header + 4) (length text) long e₁ middle e₂ ∙ ap (λ (k : ℕ). (opened ++ text) ++ drop (header + 4 + k) before) (sym count) in
    let third = over_lent (opened ++ text) (drop mark s) before (lent (header + 4) first middle) (header + 4 + n) (length (drop mark s)) both second trailer (rw whole at e₃) in
    let all : header + 4 + n + length (drop mark s) ≡ length (opened ++ (text ++ drop mark s)) = rw (length-append, length-append) (omega arith) in
    third
    ∙ ap (λ (w : List ℕ). w ++ drop (header + 4 + n + length (drop mark s)) before) (append_assoc opened text (drop mark s))
    ∙ ap (λ (k : ℕ). (opened ++ (text ++ drop mark s)) ++ drop k before) all

-- a refusal that wrote its short response
pub does_respond : (header : ℕ) (s before after : List ℕ) (o : Outcome (List ℕ)) (q : Refusal) (r : Reply) → header + 2 ≤ length s → o ≡ refused q → r.number ≡ number_of q → r.written ≡ header + 4 → after ≡ opening header s (number_of q) ++ drop (header + 4) before → Does (responding header s o) before r after
does_respond header s before after o q r h e n w b =
    let long = opening_length header s (number_of q) h in
    rw e (record { number = n; count = w ∙ sym long; buffer = b ∙ ap (λ (k : ℕ). opening header s (number_of q) ++ drop k before) (sym long) })

-- the same answer by another name
pub responds_as : (header : ℕ) (s before after : List ℕ) (o o' : Outcome (List ℕ)) (r : Reply) → o ≡ o' → Does (responding header s o) before r after → Does (responding header s o') before r after
responds_as header s before after o o' r e d = subst (λ (x : Outcome (List ℕ)). Does (responding header s x) before r after) e d
