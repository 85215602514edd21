-- An offset's text is presented as its digits, and so an offset that was made verifies.
-- Assumes nothing.
use Prim.Native.Nat.{ℕ, zero, suc, ◌+◌, ◌-◌, ◌≤◌, ◌<◌}
use native.Mathlib.Omega.{arith}
use mathlib.Core.Path.{◌≡◌, refl, sym, ap, ap₂, ◌∙◌}
use mathlib.Core.List.{List, [], ◌∷◌, map}
use mathlib.Core.Bool.{Bool, true, false}
use lib.ListN.{length, get_or, replicate, length-map}
use lib.Seq.{drop_at}
use lib.Dec.{leb}
use borrow.Author.Tests.{lt-leb, le-leb, eq-eqb}
use Rattle.nibbles.specs.Nibbles.{within, every}
use Rattle.nibbles.proofs.Lists.{Below, same_refl}
use Rattle.nibbles.proofs.Runs.{inside, inside_high, below_every}
use Rattle.alphabet.specs.Alphabet.{admits, value_of, characters}
use Rattle.alphabet.specs.declared.Class.TheVariants.{Digit}
use Rattle.numbers.specs.Numbers.{done, unless}
use Rattle.numbers.specs.declared.Refusal.TheVariants.{Room901}
use Rattle.numbers.proofs.Laws.{then_done, value_of_lem}
use Rattle.ibm3624.specs.Ibm3624.{covers, covered, offset_of}
use Rattle.offsettexts.specs.OffsetTexts.{offset_text, digit_end, offset_presented}
use Rattle.offsettexts.proofs.Fill.{filled}
use Rattle.ibm3624.proofs.Laws.{reduced_below, offset_many}
use Rattle.offsettexts.proofs.Laws.{text_length, text_head}
use Rattle.offsets.specs.Offsets.{given, pin_and_natural, offset_for, offset_judged}
use Rattle.offsets.proofs.Laws.{offset_parts, pair_alike, given_laid, covers_within}
use Rattle.verdicts.specs.Verdicts.{offset_verdict}
use Rattle.claims_blocks.proofs.Lists.{run_is, every_map}
use Rattle.claims_offsets.specs.Claims.{OffsetVerifies}
use Rattle.claims_numbers.proofs.Counts.{covers_four, given_check}
use Rattle.claims_offsets.proofs.Verdicts.{verdict_compares}

-- ---- the text

-- a digit's character has the digit for its value
digit_back : (d : ℕ) → d < 10 → value_of (0x30 + d) ≡ d
unfolding value_of
digit_back d h = rw (lt-leb 0x41 (0x30 + d) (omega arith)) (omega arith)

values_back : (ds : List ℕ) → Below 10 ds → map value_of (characters ds) ≡ ds
values_back [] b = refl
values_back (d ∷ ds) b = ap₂ (λ (x : ℕ) (xs : List ℕ). x ∷ xs) (digit_back d b.0) (values_back ds b.1)

digit_admitted : (d : ℕ) → within 0 9 d ≡ true → admits Digit (0x30 + d) ≡ true
digit_admitted d h = inside 0x30 0x39 (0x30 + d) (omega arith) (omega (arith, inside_high 0 9 d h))

-- F is no digit
fill_stops : (k : ℕ) → admits Digit (get_or (replicate k 0x46) 0 0) ≡ false
fill_stops zero = refl
fill_stops (suc k) = refl

pub text_presented : (ds : List ℕ) → 4 ≤ length ds → length ds ≤ 12 → Below 10 ds → offset_presented (offset_text ds) ≡ done ds
text_presented ds long short b =
    let n = length ds in
    let fill : List ℕ = replicate (12 - n) 0x46 in
    let size : length (characters ds) ≡ n = length-map ds (λ d. 0x30 + d) in
    let all : every (admits Digit) (characters ds) ≡ true = every_map (within 0 9) (admits Digit) (λ d. 0x30 + d) digit_admitted ds (below_every 9 ds b) in
    let end : digit_end (offset_text ds) ≡ n = ap length (run_is (admits Digit) (characters ds) fill all (fill_stops (12 - n))) ∙ size in
    rw (eq-eqb (length (offset_text ds)) 12 (text_length ds short), end, le-leb 4 n long, drop_at (characters ds) fill n size, filled (12 - n), text_head ds short, values_back ds b) refl

-- ---- the offset

-- an offset that was made is that over the covered digits
for_done : (variable : Bool) (check : ℕ) (p : List ℕ × List ℕ) (ds : List ℕ) → offset_for variable check p ≡ done ds
    → (m : ℕ) × (covers variable check (length p.0) ≡ done m) × (offset_of m p.0 p.1 ≡ ds)
for_done variable check p ds e =
    let t = then_done (covers variable check (length p.0)) _ ds e in
    (t.0, t.1, value_of_lem t.2)

-- the offset over the covered digits of a PIN verifies
module _ (variable : Bool) (code check m : ℕ) (block account table enciphered : List ℕ) (g : List ℕ × List ℕ × List ℕ) (p : List ℕ × List ℕ) where
  abbrev digits : List ℕ
  digits = offset_of m p.0 p.1

  verifies :
      given code check block account table enciphered ≡ done g → pin_and_natural code table g ≡ done p → covers variable check (length p.0) ≡ done m
      → offset_verdict variable code check block account table enciphered (offset_text digits) ≡ done []
  verifies x y z =
      let laid = given_laid code check block account table enciphered g x in
      let alike = pair_alike code check block account table enciphered g laid p y in
      let few = covers_within variable check (length p.0) m z in
      let many = offset_many m p.0 p.1 few alike.long in
      let four = covers_four variable check (length p.0) m (given_check code check block account table enciphered g x) alike.pin.long z in
      let shown = text_presented digits (omega arith) (omega (arith, alike.pin.short)) (reduced_below (covered m p.0 p.1)) in
      verdict_compares variable code check m block account table enciphered (offset_text digits) digits g p x shown y z many ∙ rw (same_refl digits)

pub offset_verifies : OffsetVerifies
offset_verifies variable code check block account table enciphered text room b c e =
    let o = then_done (offset_judged variable code check block account table enciphered room) _ text e in
    let r = then_done (unless Room901 (leb 12 room) room) _ o.0 (sym (offset_parts variable check room code block account table enciphered) ∙ o.1) in
    let g = then_done (given code check block account table enciphered) _ o.0 r.2 in
    let p = then_done (pin_and_natural code table g.0) _ o.0 g.2 in
    let t = for_done variable check p.0 o.0 p.2 in
    let spelled : offset_text (offset_of t.0 p.0.0 p.0.1) ≡ text = cc in
    rw (← spelled) (verifies variable code check t.0 block account table enciphered g.0 p.0 g.1 p.1 t.1)
