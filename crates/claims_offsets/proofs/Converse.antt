-- A verdict 00 is given to the very text that the making call writes, and the offset call is the differences call modulo ten.
-- Assumes nothing.
use Prim.Native.Nat.{ℕ, ◌+◌, ◌-◌, ◌≤◌}
use native.Mathlib.Omega.{arith}
use mathlib.Core.Path.{◌≡◌, refl, sym, ap, ap₂, ◌∙◌}
use mathlib.Core.List.{List, [], ◌∷◌, ◌++◌, map}
use mathlib.Core.Bool.{Bool, true, false, ◌&&◌, cond}
use lib.ListN.{length, take, drop, replicate, length-map, length-drop, take-append-drop}
use lib.Seq.{length-take-le}
use lib.IntN.{ℤ}
use lib.Dec.{leb, eqb}
use borrow.Author.Tests.{lt-leb, le-leb, eqb-true}
use Rattle.nibbles.specs.Nibbles.{within, every, leading, same}
use Rattle.nibbles.proofs.Lists.{and_left, and_right, same_true}
use Rattle.nibbles.proofs.Runs.{inside_low, inside_high, leading_take, leading_le}
use Rattle.alphabet.specs.Alphabet.{admits, all_of, value_of, characters}
use Rattle.alphabet.specs.declared.Class.TheVariants.{Digit}
use Rattle.numbers.specs.Numbers.{Outcome, done, refused, and_then, unless}
use Rattle.numbers.specs.declared.Refusal.TheVariants.{Unverified01, Field15, Room901}
use Rattle.numbers.proofs.Laws.{passed, then_done}
use Rattle.pins.specs.Pins.{sized}
use Rattle.ibm3624.specs.Ibm3624.{covers, covered, offset_of, modulo_ten}
use Rattle.offsettexts.specs.OffsetTexts.{offset_text, digit_end, offset_presented}
use Rattle.offsettexts.proofs.Fill.{only_f}
use Rattle.offsets.specs.Offsets.{digits_given, offset_judged, spelt}
use Rattle.verdicts.specs.Verdicts.{offset_verdict}
use Rattle.offsets.proofs.Laws.{offset_parts, digits_parts, differences_parts}
use Rattle.verdicts.proofs.Laws.{verdict_done}
use Rattle.pvv.proofs.Laws.{pvv_parts}
use Rattle.pvvdigits.specs.PvvDigits.{pvv_of}
use Rattle.pvv.specs.Pvv.{presented, pvv_given, pin_read, pvv_made}
use Rattle.claims_offsets.specs.Claims.{VerdictIsOffset, PvvVerdictIsPvv, OffsetIsReduced}
use Rattle.claims_offsets.proofs.Texts.{offset_verifies}

-- ---- characters and their digits

char_back : (c : ℕ) → admits Digit c ≡ true → 0x30 + value_of c ≡ c
unfolding value_of
char_back c e =
    let low = inside_low 0x30 0x39 c e in
    let high = inside_high 0x30 0x39 c e in
    rw (lt-leb 0x41 c (omega arith)) (omega arith)

chars_back : (cs : List ℕ) → every (admits Digit) cs ≡ true → characters (map value_of cs) ≡ cs
unfolding every
chars_back [] e = refl
chars_back (c ∷ cs) e =
    ap₂ (λ (x : ℕ) (xs : List ℕ). x ∷ xs) (char_back c (and_left (admits Digit c) (every (admits Digit) cs) e))
    (chars_back cs (and_right (admits Digit c) (every (admits Digit) cs) e))

all_every : (cs : List ℕ) → all_of Digit cs ≡ every (admits Digit) cs
unfolding all_of every
all_every [] = refl
all_every (c ∷ cs) = ap (λ (b : Bool). admits Digit c && b) (all_every cs)

leading_every : (p : ℕ → Bool) (xs : List ℕ) → every p (leading p xs) ≡ true
unfolding every leading
leading_every p [] = refl
leading_every p (x ∷ xs) = go (leading_every p xs) (p x) refl
  where
    go : every p (leading p xs) ≡ true → (b : Bool) → p x ≡ b → every p (cond b (x ∷ leading p xs) []) ≡ true
    go h true e = rw e h
    go h false e = refl

-- a presented offset is the text of its digits
pub presented_text_lem : (cs os : List ℕ) → offset_presented cs ≡ done os → offset_text os ≡ cs
presented_text_lem cs os e =
    let n = digit_end cs in
    let t = passed Field15 (eqb (length cs) 12 && (leb 4 n && every (within 0x46 0x46) (drop n cs))) (map value_of (take n cs)) os e in
    let twelve : length cs ≡ 12 = eqb-true (length cs) 12 (and_left (eqb (length cs) 12) (leb 4 n && every (within 0x46 0x46) (drop n cs)) t.0) in
    let rest = and_right (leb 4 n) (every (within 0x46 0x46) (drop n cs)) (and_right (eqb (length cs) 12) (leb 4 n && every (within 0x46 0x46) (drop n cs)) t.0) in
    let front : every (admits Digit) (take n cs) ≡ true = ap (every (admits Digit)) (sym (leading_take (admits Digit) cs)) ∙ leading_every (admits Digit) cs in
    let long : length os ≡ n = ap length (sym t.1) ∙ length-map (take n cs) value_of ∙ length-take-le n cs (leading_le (admits Digit) cs) in
    let left : length (drop n cs) ≡ 12 - length os = length-drop n cs ∙ ap₂ (λ (a b : ℕ). a - b) twelve (sym long) in
    ap₂ (λ (a b : List ℕ). a ++ b) (ap characters (sym t.1) ∙ chars_back (take n cs) front)
    (ap (λ (k : ℕ). replicate k 0x46) (sym left) ∙ sym (only_f (drop n cs) rest))
    ∙ take-append-drop n cs

-- ---- the verdicts

made_by_verdict :
    (variable : Bool) (code check : ℕ) (block account table enciphered offset : List ℕ) (room : ℕ) → 12 ≤ room
    → offset_verdict variable code check block account table enciphered offset ≡ done [] → spelt (offset_judged variable code check block account table enciphered room) ≡ done offset
made_by_verdict variable code check block account table enciphered offset room r e =
    let v = verdict_done variable code check block account table enciphered offset [] e in
    let made = offset_of v.3 v.2.0 v.2.1 in
    let same_digits = same_true v.1 made (passed Unverified01 (same v.1 made) [] [] v.8).0 in
    rw (offset_parts variable check room code block account table enciphered, le-leb 12 room r, v.4, v.6, v.7) (ap done (ap offset_text (sym same_digits) ∙ presented_text_lem offset v.1 v.5))

pub verdict_is_offset : VerdictIsOffset
verdict_is_offset variable code check block account table enciphered offset room b c r = (
  made_by_verdict variable code check block account table enciphered offset room r,
  offset_verifies variable code check block account table enciphered offset room b c,
)

pub pvv_verdict_is_pvv : PvvVerdictIsPvv
unfolding pvv_made
pvv_verdict_is_pvv code index block account enciphered pvv room r e =
    let g = then_done (pvv_given code index block account) _ [] (sym (pvv_parts code index block account enciphered pvv) ∙ e) in
    let m = then_done (sized 8 enciphered) _ [] g.2 in
    let p = then_done (presented pvv) _ [] m.2 in
    let d = then_done (pin_read code g.0) _ [] p.2 in
    let equal = same_true (pvv_of m.0) p.0 (passed Unverified01 (same (pvv_of m.0) p.0) [] [] d.2).0 in
    let t = passed Field15 (eqb (length pvv) 4 && all_of Digit pvv) (map value_of pvv) p.0 p.1 in
    let all = sym (all_every pvv) ∙ and_right (eqb (length pvv) 4) (all_of Digit pvv) t.0 in
    rw (le-leb 4 room r, m.1) (ap done (ap characters (equal ∙ sym t.1) ∙ chars_back pvv all))

-- ---- the two calls on digits

pub offset_is_reduced : OffsetIsReduced
offset_is_reduced variable check pin natural room =
    ap spelt (digits_parts variable check room pin natural) ∙ go (leb 12 room) (digits_given check pin natural)
    ∙ ap (λ (o : Outcome (List ℤ)). and_then o (λ zs. done (offset_text (map modulo_ten zs)))) (sym (differences_parts variable check room pin natural))
  where
    by_count : (p : List ℕ × List ℕ) (o : Outcome ℕ)
        → spelt (and_then o (λ m. done (offset_of m p.0 p.1))) ≡ and_then (and_then o (λ m. done (covered m p.0 p.1))) (λ zs. done (offset_text (map modulo_ten zs)))
    by_count p (done m) = refl
    by_count p (refused q) = refl

    go : (b : Bool) (d : Outcome (List ℕ × List ℕ))
        → spelt (and_then (unless Room901 b room) (λ _. and_then d (λ p. and_then (covers variable check (length p.0)) (λ m. done (offset_of m p.0 p.1)))))
        ≡ and_then (and_then (unless Room901 b room) (λ _. and_then d (λ p. and_then (covers variable check (length p.0)) (λ m. done (covered m p.0 p.1)))))
        (λ zs. done (offset_text (map modulo_ten zs)))
    go true (done p) = by_count p (covers variable check (length p.0))
    go true (refused q) = refl
    go false d = refl
