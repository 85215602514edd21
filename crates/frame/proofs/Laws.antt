-- Laws of the frame, and of a response that is written piece after piece.
-- Assumes nothing.
use Prim.Native.Nat.{ℕ, ◌+◌, ◌-◌, ◌≤◌}
use native.Mathlib.Nat.{add-zero}
use native.Mathlib.Omega.{arith}
use mathlib.Core.Path.{◌≡◌, sym, ap, ◌∙◌}
use mathlib.Core.List.{List, [], ◌∷◌, ◌++◌, append_assoc, append-nil}
use mathlib.Core.Bool.{true, false, false≢true, and-eq-true_iff}
use lib.ListN.{length, get_or, take, drop, length-append, length-drop, drop_of_length-le}
use lib.Seq.{length-take-le, take_all, take_at, drop_at, drop-drop, get_or-drop}
use lib.Dec.{leb, eqb}
use borrow.Author.Tests.{leb-true, eqb-true}
use Rattle.alphabet.specs.Alphabet.{begins}
use Rattle.frame.specs.Frame.{is_framed, raised, opening, in_two_digits, bk, longest_command}
use Rattle.settings.specs.Settings.{longest_header}

-- ---- what a frame has, and what a response opens with

-- a header, a command and its code are within their limits
pub framed_bounds : (header : ℕ) (s : List ℕ) → is_framed header s ≡ true → (header ≤ longest_header) × (length s ≤ longest_command) × (header + 2 ≤ length s)
unfolding is_framed
framed_bounds header s h =
    let p = (and-eq-true_iff (leb header longest_header) _).0 h in
    let q = (and-eq-true_iff (leb (length s) longest_command) _).0 p.1 in
    let r = (and-eq-true_iff (leb (header + 2) (length s)) _).0 q.1 in
    (leb-true header longest_header p.0, leb-true (length s) longest_command q.0, leb-true (header + 2) (length s) r.0)

-- header, two bytes of code and two digits
pub opening_length : (header : ℕ) (s : List ℕ) (number : ℕ) → header + 2 ≤ length s → length (opening header s number) ≡ header + 4
unfolding opening
opening_length header s number h = simp (length-append, length-take-le header s (omega arith))

-- bytes that begin with two others are those
two_bytes : (a b : ℕ) (cs : List ℕ) → begins (a ∷ b ∷ []) cs ≡ true → (get_or cs 0 0 ≡ a) × (get_or cs 1 0 ≡ b)
unfolding begins
two_bytes a b [] h = absurd (false≢true h)
two_bytes a b (c ∷ []) h = absurd (false≢true ((and-eq-true_iff (eqb a c) false).0 h).1)
two_bytes a b (c ∷ d ∷ cs) h =
    let p = (and-eq-true_iff (eqb a c) _).0 h in
    let q = (and-eq-true_iff (eqb b d) _).0 p.1 in
    (sym (eqb-true a c p.0), sym (eqb-true b d q.0))

-- a command is answered with its code, "its second byte raised by one"
pub code_answered : (a b header : ℕ) (s : List ℕ) (number : ℕ) → begins (a ∷ b ∷ []) (drop header s) ≡ true → opening header s number ≡ take header s ++ (a ∷ raised b ∷ in_two_digits number)
unfolding opening
code_answered a b header s number h =
    let p = two_bytes a b (drop header s) h in
    let first : get_or s header 0 ≡ a = ap (λ (k : ℕ). get_or s k 0) (sym (add-zero header)) ∙ sym (get_or-drop header s 0 0) ∙ p.0 in
    let second : get_or s (header + 1) 0 ≡ b = sym (get_or-drop header s 1 0) ∙ p.1 in
    rw (first, second)

-- so BK is answered BL
pub bk_answers_bl : (header : ℕ) (s : List ℕ) (number : ℕ) → begins bk (drop header s) ≡ true → opening header s number ≡ take header s ++ (0x42 ∷ 0x4C ∷ in_two_digits number)
bk_answers_bl = code_answered 0x42 0x4B

-- ---- a buffer that is written from its beginning, piece after piece

module _ {A : Type 0} (ws ps before after : List A) (at n : ℕ) (whole : length ws ≡ at) (e : after ≡ ws ++ drop at before) where
  -- a piece written over what lies behind those before it
  pub over_more : take at after ++ (ps ++ drop n (drop at after)) ≡ (ws ++ ps) ++ drop (at + n) before
  over_more = rw (e, take_at ws (drop at before) at whole, drop_at ws (drop at before) at whole, drop-drop n at before, append_assoc ws ps (drop (at + n) before))

  -- so where the buffer from there to its end was lent for the piece, and came back as `rest`
  pub over_lent : (rest : List A) → rest ≡ ps ++ drop n (take (length after - at) (drop at after))
      → take at after ++ (rest ++ drop (length after - at) (drop at after)) ≡ (ws ++ ps) ++ drop (at + n) before
  over_lent rest k =
      let l = length-drop at after in
      rw (k, take_all (length after - at) (drop at after) (omega arith), drop_of_length-le (drop at after) {i = length after - at} (omega arith), append-nil (ps ++ drop n (drop at after))) over_more

-- the same, counted by the pieces themselves
pub over_next : {A : Type 0} (ws ps before after last : List A) (at : ℕ) → at ≡ length ws → after ≡ ws ++ drop (length ws) before
    → last ≡ take at after ++ (ps ++ drop (length ps) (drop at after)) → last ≡ (ws ++ ps) ++ drop (length (ws ++ ps)) before
over_next ws ps before after last at h e k =
    k ∙ over_more ws ps before after at (length ps) (sym h) (e ∙ ap (λ (m : ℕ). ws ++ drop m before) (sym h))
    ∙ ap (λ (m : ℕ). (ws ++ ps) ++ drop m before) (ap (λ (m : ℕ). m + length ps) h ∙ sym (length-append ws ps))
