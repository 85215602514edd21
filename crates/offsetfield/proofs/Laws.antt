-- What an offset that was read is, and for what one is refused.
-- Assumes nothing.
use Prim.Native.Nat.{ℕ, ◌+◌, ◌≤◌}
use native.Mathlib.Omega.{arith}
use mathlib.Core.Path.{◌≡◌, refl, sym, ap, ◌∙◌}
use mathlib.Core.List.{List, map}
use mathlib.Core.Bool.{Bool, true, false, ◌&&◌}
use lib.ListN.{length, take, drop, length-map, length-drop}
use lib.Seq.{length-take-le, take-take}
use lib.Dec.{leb, eqb}
use borrow.Author.Tests.{leb-true}
use Rattle.nibbles.specs.Nibbles.{within, every}
use Rattle.nibbles.proofs.Runs.{leading_le, leading_take}
use Rattle.alphabet.specs.Alphabet.{admits, all_of, value_of}
use Rattle.alphabet.specs.declared.Class.TheVariants.{Digit}
use Rattle.numbers.specs.Numbers.{Outcome, done, refused, and_then, unless}
use Rattle.numbers.specs.declared.Refusal.{Refusal}
use Rattle.numbers.specs.declared.Refusal.TheVariants.{Field15}
use Rattle.numbers.proofs.Laws.{passed, failed, then_done, value_of_lem}
use Rattle.offsettexts.specs.OffsetTexts.{digit_end, offset_presented}
use Rattle.offsettexts.proofs.Fill.{leading_all}
use Rattle.offsetfield.specs.OffsetField.{offset_field}

-- what is presented is refused for 15 alone, and so is the field
presented_refuses : (cs : List ℕ) (q : Refusal) → offset_presented cs ≡ refused q → q ≡ Field15
presented_refuses cs q e =
    let h = (failed Field15 q (eqb (length cs) 12 && (leb 4 (digit_end cs) && every (within 0x46 0x46) (drop (digit_end cs) cs))) (map value_of (take (digit_end cs) cs)) e).1 in
    cc

pub offset_refuses : (cs : List ℕ) (q : Refusal) → offset_field cs ≡ refused q → q ≡ Field15
unfolding offset_field
offset_refuses cs q e = by_length (leb 12 (length cs)) e
  where
    by_digits : (o : Outcome (List ℕ)) → ((x : Refusal) → o ≡ refused x → x ≡ Field15) → and_then {B = ℕ × ℕ} o (λ ds. done (length ds, 12)) ≡ refused q → q ≡ Field15
    by_digits (done ds) f e = absurd (let z : ◌≡◌ {A = ℕ} 0 1 = cc in omega arith)
    by_digits (refused x) f e = let z : q ≡ x = cc in z ∙ f x refl

    by_length : (b : Bool) → and_then {B = ℕ × ℕ} (unless Field15 b (take 12 cs)) (λ offset. and_then (offset_presented offset) (λ ds. done (length ds, 12))) ≡ refused q → q ≡ Field15
    by_length true e = by_digits (offset_presented (take 12 cs)) (presented_refuses (take 12 cs)) e
    by_length false e = cc

-- one that was read at a place: twelve characters are there, and so many digits at their beginning, which is what is presented
pub record Held (s : List ℕ) (at n width : ℕ) : Type 0 where
  pub twelve : width ≡ 12
  pub inside : at + 12 ≤ length s
  pub short : n ≤ 12
  pub digits : all_of Digit (take n (drop at s)) ≡ true
  pub presented : offset_presented (take 12 (drop at s)) ≡ done (map value_of (take n (drop at s)))

-- its digits are those at the beginning
presented_digits : (cs ds : List ℕ) → offset_presented cs ≡ done ds → (length ds ≤ length cs) × (all_of Digit (take (length ds) cs) ≡ true) × (map value_of (take (length ds) cs) ≡ ds)
presented_digits cs ds e =
    let n = digit_end cs in
    let t = passed Field15 (eqb (length cs) 12 && (leb 4 n && every (within 0x46 0x46) (drop n cs))) (map value_of (take n cs)) ds e in
    let most = leading_le (admits Digit) cs in
    let long : length ds ≡ n = ap length (sym t.1) ∙ length-map (take n cs) value_of ∙ length-take-le n cs most in
    rw long (most, ap (all_of Digit) (sym (leading_take (admits Digit) cs)) ∙ leading_all Digit cs, t.1)

pub offset_held : (s : List ℕ) (at n width : ℕ) → offset_field (drop at s) ≡ done (n, width) → Held s at n width
unfolding offset_field
offset_held s at n width e =
    let rest = drop at s in
    let first = then_done (unless Field15 (leb 12 (length rest)) (take 12 rest)) _ (n, width) e in
    let p = passed Field15 (leb 12 (length rest)) (take 12 rest) first.0 first.1 in
    let second = then_done (offset_presented first.0) _ (n, width) first.2 in
    let same = value_of_lem second.2 in
    by (leb-true 12 (length rest) p.0) second.0 (ap offset_presented p.1 ∙ second.1) (ap (λ (x : ℕ × ℕ). x.0) same) (ap (λ (x : ℕ × ℕ). x.1) same)
  where
    by : 12 ≤ length (drop at s) → (ds : List ℕ) → offset_presented (take 12 (drop at s)) ≡ done ds → length ds ≡ n → 12 ≡ width → Held s at n width
    by enough ds shown long wide =
        let d = presented_digits (take 12 (drop at s)) ds shown in
        let most : n ≤ 12 = omega (arith, d.0, length-take-le 12 (drop at s) enough) in
        let part : take (length ds) (take 12 (drop at s)) ≡ take n (drop at s) = ap (λ (k : ℕ). take k (take 12 (drop at s))) long ∙ take-take n 12 (drop at s) most in
        record {
          twelve = sym wide;
          inside = omega (arith, length-drop at s);
          short = most;
          digits = ap (all_of Digit) (sym part) ∙ d.1;
          presented = shown ∙ ap done (sym d.2 ∙ ap (map value_of) part);
        }
