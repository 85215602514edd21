-- The reader of an offset that is presented is exact.
-- Assumes nothing.
use Prim.Native.Nat.{ℕ, zero, suc, ◌+◌, ◌-◌, ◌≤◌}
use native.Mathlib.Omega.{arith}
use mathlib.Core.Path.{◌≡◌, refl, sym, ap, ◌∙◌}
use mathlib.Core.List.{List, [], ◌∷◌, ◌++◌, map}
use mathlib.Core.Bool.{true, ◌&&◌}
use lib.ListN.{length, take, drop, replicate, length-append, length-drop, length-map, length-replicate, take-append-drop}
use lib.Seq.{take_at, drop_at, length-take-le}
use lib.Dec.{leb, eqb}
use borrow.Author.Tests.{leb-true, le-leb, eq-eqb, eqb-true}
use Rattle.nibbles.specs.Nibbles.{within, every, leading}
use Rattle.nibbles.proofs.Lists.{and_left, and_right}
use Rattle.nibbles.proofs.Runs.{leading_le, leading_take}
use Rattle.alphabet.specs.Alphabet.{admits, all_of, value_of}
use Rattle.alphabet.specs.declared.Class.TheVariants.{Digit}
use Rattle.numbers.specs.Numbers.{done, unless}
use Rattle.numbers.specs.declared.Refusal.TheVariants.{Field15}
use Rattle.numbers.proofs.Laws.{then_done, passed, value_of_lem}
use Rattle.offsettexts.specs.OffsetTexts.{digit_end, offset_presented}
use Rattle.offsettexts.proofs.Fill.{leading_all, filled, only_f}
use Rattle.offsetfield.specs.OffsetField.{offset_field}
use Rattle.texts.specs.Exact.{Opens, Exact}
use Rattle.texts.proofs.Runs.{all_first, fronts}
use Rattle.texts.proofs.Closing.{apart_of}
use Rattle.texts_data.specs.DataTexts.{presented_text, IsPresented}
use Rattle.texts_data.specs.DataWritings.{offsets}

pub presented_long : (ds : List ℕ) → IsPresented ds → length (presented_text ds) ≡ 12
presented_long ds g =
    length-append ds (replicate (12 - length ds) 0x46) ∙ ap (λ (k : ℕ). length ds + k) (length-replicate (12 - length ds) 0x46) ∙ omega (arith, g.0.1)

-- ---- what is written is read back

-- its digits are all that lead, since F is none
lead_digits : (ds : List ℕ) (k : ℕ) → all_of Digit ds ≡ true → leading (admits Digit) (ds ++ replicate k 0x46) ≡ ds
unfolding leading
lead_digits [] zero h = refl
lead_digits [] (suc k) h = refl
lead_digits (d ∷ ds) k h = let f = all_first Digit d ds h in rw (f.0, lead_digits ds k f.1)

offset_back : (ds rest : List ℕ) → IsPresented ds → offset_field (presented_text ds ++ rest) ≡ done (length ds, length (presented_text ds))
unfolding offset_field
offset_back ds rest g =
    let k = 12 - length ds in
    let long = presented_long ds g in
    let end : digit_end (presented_text ds) ≡ length ds = ap length (lead_digits ds k g.1) in
    rw (le-leb 12 (length (presented_text ds ++ rest)) (omega (arith, length-append (presented_text ds) rest)), take_at (presented_text ds) rest 12 long, eq-eqb (length (presented_text ds)) 12 long, end, le-leb 4 (length ds) g.0.0, drop_at ds (replicate k 0x46) (length ds) refl, filled k, take_at ds (replicate k 0x46) (length ds) refl, length-map ds value_of)
    (ap (λ (n : ℕ). done (length ds, n)) (sym long))

-- ---- nothing else is read

offset_only : (cs : List ℕ) (v n : ℕ) → offset_field cs ≡ done (v, n) → Opens offsets cs n v
unfolding offset_field
offset_only cs v n e =
    let twelve = take 12 cs in
    let end = digit_end twelve in
    let fill = drop end twelve in
    let first = then_done (unless Field15 (leb 12 (length cs)) twelve) _ (v, n) e in
    let enough = passed Field15 (leb 12 (length cs)) twelve first.0 first.1 in
    let second = then_done (offset_presented first.0) _ (v, n) first.2 in
    let shown : offset_presented twelve ≡ done second.0 = ap offset_presented enough.1 ∙ second.1 in
    let judged = passed Field15 (eqb (length twelve) 12 && (leb 4 end && every (within 0x46 0x46) fill)) (map value_of (take end twelve)) second.0 shown in
    let tests = and_right (eqb (length twelve) 12) (leb 4 end && every (within 0x46 0x46) fill) judged.0 in
    let long : length twelve ≡ 12 = eqb-true (length twelve) 12 (and_left (eqb (length twelve) 12) (leb 4 end && every (within 0x46 0x46) fill) judged.0) in
    let four : 4 ≤ end = leb-true 4 end (and_left (leb 4 end) (every (within 0x46 0x46) fill) tests) in
    let most = leading_le (admits Digit) twelve in
    let many : length (take end twelve) ≡ end = length-take-le end twelve most in
    let left : length fill ≡ 12 - length (take end twelve) = length-drop end twelve ∙ omega arith in
    let filling : fill ≡ replicate (12 - length (take end twelve)) 0x46
    = only_f fill (and_right (leb 4 end) (every (within 0x46 0x46) fill) tests) ∙ ap (λ (k : ℕ). replicate k 0x46) left in
    let digits : all_of Digit (take end twelve) ≡ true = ap (all_of Digit) (sym (leading_take (admits Digit) twelve)) ∙ leading_all Digit twelve in
    let good : IsPresented (take end twelve) = ((omega arith, omega arith), digits) in
    let found = value_of_lem second.2 in
    record {
      part = take end twelve;
      rest = drop 12 cs;
      good = good;
      whole = sym (take-append-drop 12 cs) ∙ ap (λ (l : List ℕ). l ++ drop 12 cs) (sym (take-append-drop end twelve) ∙ ap (λ (l : List ℕ). take end twelve ++ l) filling);
      count = sym (ap (λ (r : ℕ × ℕ). r.1) found) ∙ sym (presented_long (take end twelve) good);
      same = sym (ap (λ (r : ℕ × ℕ). r.0) found) ∙ ap length (sym judged.1) ∙ length-map (take end twelve) value_of;
    }

pub offset_exact : Exact offset_field offsets
offset_exact = record {
  back = offset_back;
  only = offset_only;
  apart = apart_of offset_field offsets offset_back
      (λ p q _ _ _ _ t v. (fronts (length q) p q (replicate (12 - length p) 0x46) (replicate (12 - length q) 0x46) v refl t).0);
}
