-- The reader of validation data is exact.
-- Assumes nothing.
use Prim.Native.Nat.{ℕ, suc, ◌≤◌, ◌<◌}
use native.Mathlib.Omega.{arith}
use mathlib.Core.Path.{◌≡◌, refl, sym, ap, ◌∙◌}
use mathlib.Core.List.{List, [], ◌∷◌, ◌++◌, map, append_assoc, append-nil}
use mathlib.Core.Bool.{Bool, true, false, cond, ◌&&◌}
use lib.ListN.{length, get_or, take, drop, length-append, length-drop, take-append-drop, get_or-eq_default}
use lib.Seq.{take_at, length-take-le, split_at, take-append_seam, get_or-append_seam}
use lib.Dec.{leb, eqb}
use borrow.Author.Tests.{le-leb, leb-true, leb-false, eqb-true, eq-eqb, ne_eqb}
use Rattle.nibbles.specs.Nibbles.{leading}
use Rattle.nibbles.proofs.Lists.{and_left, and_right}
use Rattle.nibbles.proofs.Runs.{leading_take}
use Rattle.alphabet.specs.Alphabet.{admits, all_of, value_of}
use Rattle.alphabet.specs.declared.Class.TheVariants.{CapitalHex}
use Rattle.numbers.specs.Numbers.{done, and_then, unless}
use Rattle.numbers.specs.declared.Refusal.TheVariants.{Field15}
use Rattle.numbers.proofs.Laws.{then_done, passed}
use Rattle.pins.specs.Pins.{last_of}
use Rattle.offsettexts.proofs.Fill.{leading_all}
use Rattle.validation.specs.Validation.{hex_end, is_template, is_whole, width_of, shape_of, formed, is_validation, shaped, validation_row}
use Rattle.validation.proofs.Laws.{led_by_p}
use Rattle.validation.specs.declared.Shape.{Shape}
use Rattle.validation.specs.declared.Shape.TheVariants.{Template, Whole, Neither}
use Rattle.validationfield.specs.ValidationField.{validation_field}
use Rattle.texts.specs.Exact.{Opens, Exact}
use Rattle.texts.proofs.Runs.{all_append, all_both, fronts}
use Rattle.texts.proofs.Closing.{apart_of}
use Rattle.texts.proofs.Readers.{mark_first}
use Rattle.texts_data.specs.DataTexts.{Validation, with_n, with_p, validation_text, IsValidation, validation_nibbles}
use Rattle.texts_data.specs.DataWritings.{shape, validations}

-- ---- what is written is read back

-- the reader, told its width and its tests
found : (cs : List ℕ) (n : ℕ) (x : Shape) → width_of cs ≡ n → n ≤ length cs → is_validation (take n cs) ≡ true → shape_of (take n cs) ≡ x → validation_field cs ≡ done (x, n)
unfolding validation_field
found cs n x w l v s = rw (w, le-leb n (length cs) l, v, s)

-- P and sixteen
whole_valid : (cs : List ℕ) → length cs ≡ 16 → all_of CapitalHex cs ≡ true → (is_validation (0x50 ∷ cs) ≡ true) × (shape_of (0x50 ∷ cs) ≡ Whole)
unfolding shape_of
whole_valid cs l h = (rw (eq-eqb (suc (length cs)) 17 (omega arith), h), rw (eq-eqb (suc (length cs)) 17 (omega arith), h))

-- hex characters, an N, and hex characters again: those before the N are all that lead
lead_front : (front back : List ℕ) → all_of CapitalHex front ≡ true → leading (admits CapitalHex) (front ++ (0x4E ∷ back)) ≡ front
unfolding leading all_of
lead_front [] back h = refl
lead_front (c ∷ front) back h =
    rw (and_left (admits CapitalHex c) (all_of CapitalHex front) h, lead_front front back (and_right (admits CapitalHex c) (all_of CapitalHex front) h))

past_front : (front : List ℕ) (x : ℕ) (back : List ℕ) → drop (suc (length front)) (front ++ (x ∷ back)) ≡ back
past_front [] x back = refl
past_front (c ∷ front) x back = past_front front x back

not_p : (c : ℕ) → admits CapitalHex c ≡ true → c ≡ 0x50 → ⊥
not_p c h e = let f : admits CapitalHex 0x50 ≡ true = ap (admits CapitalHex) (sym e) ∙ h in let z : ◌≡◌ {A = ℕ} 0 1 = cc in omega arith

first_other : (front back rest : List ℕ) → all_of CapitalHex front ≡ true → eqb (get_or ((front ++ (0x4E ∷ back)) ++ rest) 0 0) 0x50 ≡ false
unfolding all_of
first_other [] back rest h = refl
first_other (c ∷ front) back rest h = ne_eqb c 0x50 (not_p c (and_left (admits CapitalHex c) (all_of CapitalHex front) h))

first_led : (front back : List ℕ) → all_of CapitalHex front ≡ true → eqb (get_or (front ++ (0x4E ∷ back)) 0 0) 0x50 ≡ false
first_led front back h = ap (λ (l : List ℕ). eqb (get_or l 0 0) 0x50) (sym (append-nil (front ++ (0x4E ∷ back)))) ∙ first_other front back [] h

-- data that begin with another character are judged as twelve
shape_template : (t : List ℕ) → eqb (get_or t 0 0) 0x50 ≡ false → is_template t ≡ true → shape_of t ≡ Template (hex_end t)
unfolding shape_of
shape_template t h v = rw (h, v)

template_valid : (front back : List ℕ) → length (front ++ (0x4E ∷ back)) ≡ 12 → all_of CapitalHex front ≡ true → all_of CapitalHex back ≡ true
    → (is_template (front ++ (0x4E ∷ back)) ≡ true) × (hex_end (front ++ (0x4E ∷ back)) ≡ length front)
template_valid front back l f b =
    let t = front ++ (0x4E ∷ back) in
    let end : hex_end t ≡ length front = ap length (lead_front front back f) in
    (rw (eq-eqb (length t) 12 l, end, get_or-append_seam front 0x4E back 0, past_front front 0x4E back) b, end)

data_back : (p : Validation) (rest : List ℕ) → IsValidation p → validation_field (validation_text p ++ rest) ≡ done (shape p, length (validation_text p))
unfolding shape_of
data_back (with_p cs) rest g =
    let v = whole_valid cs g.0 g.1 in
    let t : take 17 (0x50 ∷ (cs ++ rest)) ≡ 0x50 ∷ cs = ap (λ (x : List ℕ). 0x50 ∷ x) (take_at cs rest 16 g.0) in
    found (0x50 ∷ (cs ++ rest)) 17 Whole refl (omega (arith, length-append cs rest, g.0)) (ap is_validation t ∙ v.0) (ap shape_of t ∙ v.1)
    ∙ ap (λ (k : ℕ). done (Whole, k)) (omega (arith, g.0))
data_back (with_n front back) rest g =
    let t = front ++ (0x4E ∷ back) in
    let h = all_both CapitalHex front back g.1 in
    let long : length t ≡ 12 = length-append front (0x4E ∷ back) ∙ omega (arith, g.0, length-append front back) in
    let v = template_valid front back long h.0 h.1 in
    let e : take 12 (t ++ rest) ≡ t = take_at t rest 12 long in
    let s : shape_of t ≡ Template (length front) = shape_template t (first_led front back h.0) v.0 ∙ ap Template v.1 in
    found (t ++ rest) 12 (Template (length front)) (rw (first_other front back rest h.0)) (omega (arith, length-append t rest, long)) (ap is_validation e ∙ ap formed s) (ap shape_of e ∙ s)
    ∙ ap (λ (k : ℕ). done (Template (length front), k)) (sym long)

-- ---- nothing else is read

-- where a character stands, there is one
inside : (t : List ℕ) (k c : ℕ) → get_or t k 0 ≡ suc c → k < length t
inside t k c n = by (leb (suc k) (length t)) refl
  where
    by : (b : Bool) → leb (suc k) (length t) ≡ b → k < length t
    by true e = leb-true (suc k) (length t) e
    by false e =
        let past : length t ≤ k = omega (arith, leb-false (suc k) (length t) e) in
        absurd (let z : ◌≡◌ {A = ℕ} 0 (suc c) = sym (get_or-eq_default t 0 past) ∙ n in omega arith)

template_parts : (t : List ℕ) → is_template t ≡ true
    → (front : List ℕ) × (back : List ℕ) × (t ≡ front ++ (0x4E ∷ back)) × (length front ≡ hex_end t) × IsValidation (with_n front back)
template_parts t h =
    let k = hex_end t in
    let long : length t ≡ 12 = eqb-true (length t) 12 (and_left (eqb (length t) 12) (eqb (get_or t k 0) 0x4E && all_of CapitalHex (drop (suc k) t)) h) in
    let more = and_right (eqb (length t) 12) (eqb (get_or t k 0) 0x4E && all_of CapitalHex (drop (suc k) t)) h in
    let n : get_or t k 0 ≡ 0x4E = eqb-true (get_or t k 0) 0x4E (and_left (eqb (get_or t k 0) 0x4E) (all_of CapitalHex (drop (suc k) t)) more) in
    let within : k < length t = inside t k 0x4D n in
    let front = take k t in
    let back = drop (suc k) t in
    let fl : length front ≡ k = length-take-le k t (omega arith) in
    let led : all_of CapitalHex front ≡ true = ap (all_of CapitalHex) (sym (leading_take (admits CapitalHex) t)) ∙ leading_all CapitalHex t in (
      front,
      back,
      split_at t k 0 within ∙ ap (λ (x : ℕ). front ++ (x ∷ back)) n,
      fl,
      (
        length-append front back ∙ omega (arith, fl, length-drop (suc k) t),
        all_append CapitalHex front back ∙ rw led (and_right (eqb (get_or t k 0) 0x4E) (all_of CapitalHex back) more),
      ),
    )

first_same : (n : ℕ) (cs : List ℕ) → get_or (take (suc n) cs) 0 0 ≡ get_or cs 0 0
first_same n [] = refl
first_same n (c ∷ cs) = refl

-- what has a shape has passed its test
whole_formed : (cs : List ℕ) → is_validation (0x50 ∷ cs) ≡ true → is_whole (0x50 ∷ cs) ≡ true
unfolding shape_of
whole_formed cs e = go (is_whole (0x50 ∷ cs)) refl e
  where
    go : (b : Bool) → is_whole (0x50 ∷ cs) ≡ b → formed (cond b Whole Neither) ≡ true → is_whole (0x50 ∷ cs) ≡ true
    go true h f = h
    go false h f = absurd (let z : ◌≡◌ {A = ℕ} 0 1 = cc in omega arith)

template_formed : (t : List ℕ) → eqb (get_or t 0 0) 0x50 ≡ false → is_validation t ≡ true → is_template t ≡ true
unfolding shape_of
template_formed t other e = go (is_template t) refl (rw other at e)
  where
    go : (b : Bool) → is_template t ≡ b → formed (cond b (Template (hex_end t)) Neither) ≡ true → is_template t ≡ true
    go true h f = h
    go false h f = absurd (let z : ◌≡◌ {A = ℕ} 0 1 = cc in omega arith)

-- the reader's tests, at its width
at_width : (cs : List ℕ) (n : ℕ) (a : Shape) (m : ℕ) → and_then {B = Shape × ℕ} (unless Field15 (leb n (length cs)) n) (λ k. unless Field15 (is_validation (take k cs)) (shape_of (take k cs), k)) ≡ done (a, m)
    → (n ≤ length cs) × (is_validation (take n cs) ≡ true) × (shape_of (take n cs) ≡ a) × (n ≡ m)
at_width cs n a m e =
    let t = then_done (unless Field15 (leb n (length cs)) n) (λ (k : ℕ). unless Field15 (is_validation (take k cs)) (shape_of (take k cs), k)) (a, m) e in
    let p = passed Field15 (leb n (length cs)) n t.0 t.1 in
    let w = passed {A = Shape × ℕ} Field15 (is_validation (take t.0 cs)) (shape_of (take t.0 cs), t.0) (a, m) t.2 in
    (leb-true n (length cs) p.0, rw p.1 w.0, rw p.1 (ap (λ (r : Shape × ℕ). r.0) w.1), p.1 ∙ ap (λ (r : Shape × ℕ). r.1) w.1)

by_mark : (cs : List ℕ) (a : Shape) (m : ℕ) (b : Bool) → eqb (get_or cs 0 0) 0x50 ≡ b
    → and_then {B = Shape × ℕ} (unless Field15 (leb (cond b 17 12) (length cs)) (cond b 17 12)) (λ k. unless Field15 (is_validation (take k cs)) (shape_of (take k cs), k)) ≡ done (a, m)
    → Opens validations cs m a
by_mark cs a m true h e =
    let f = at_width cs 17 a m e in
    let ds = drop 1 cs in
    let all : cs ≡ 0x50 ∷ ds = mark_first 0x50 cs (led_by_p cs ∙ h) in
    let t : take 17 cs ≡ 0x50 ∷ take 16 ds = ap (take 17) all in
    let v : is_whole (0x50 ∷ take 16 ds) ≡ true = whole_formed (take 16 ds) (ap is_validation (sym t) ∙ f.1) in
    let l : length (take 16 ds) ≡ 16 = length-take-le 16 ds (omega (arith, f.0, length-drop 1 cs)) in
    let c = and_right (eqb (suc (length (take 16 ds))) 17) (all_of CapitalHex (take 16 ds)) v in
    record {
      part = with_p (take 16 ds);
      rest = drop 16 ds;
      good = (l, c);
      whole = all ∙ ap (λ (x : List ℕ). 0x50 ∷ x) (sym (take-append-drop 16 ds));
      count = omega (arith, f.3, l);
      same = sym f.2 ∙ ap shape_of t ∙ (whole_valid (take 16 ds) l c).1;
    }
by_mark cs a m false h e =
    let f = at_width cs 12 a m e in
    let t = take 12 cs in
    let other : eqb (get_or t 0 0) 0x50 ≡ false = ap (λ (c : ℕ). eqb c 0x50) (first_same 11 cs) ∙ h in
    let v : is_template t ≡ true = template_formed t other f.1 in
    let p = template_parts t v in
    let long : length t ≡ 12 = length-take-le 12 cs f.0 in
    record {
      part = with_n p.0 p.1;
      rest = drop 12 cs;
      good = p.4;
      whole = sym (take-append-drop 12 cs) ∙ ap (λ (x : List ℕ). x ++ drop 12 cs) p.2;
      count = sym f.3 ∙ sym long ∙ ap length p.2;
      same = sym f.2 ∙ shape_template t other v ∙ ap Template (sym p.3);
    }

data_only : (cs : List ℕ) (a : Shape) (m : ℕ) → validation_field cs ≡ done (a, m) → Opens validations cs m a
unfolding validation_field
data_only cs a m e = by_mark cs a m (eqb (get_or cs 0 0) 0x50) refl e

-- ---- no two parts write the same

data_told : (p q : Validation) → validation_text p ≡ validation_text q → shape p ≡ shape q → p ≡ q
data_told (with_n a b) (with_n c d) t v =
    let l : length a ≡ length c = cc in
    let f = fronts (length c) a c (0x4E ∷ b) (0x4E ∷ d) l refl t in
    let x = f.0 in
    let y : b ≡ d = cc f.1 in
    cc
data_told (with_n a b) (with_p ds) t v = absurd (let z : ◌≡◌ {A = ℕ} 0 1 = cc in omega arith)
data_told (with_p cs) (with_n c d) t v = absurd (let z : ◌≡◌ {A = ℕ} 0 1 = cc in omega arith)
data_told (with_p cs) (with_p ds) t v = ap with_p (let z : cs ≡ ds = cc in z)

pub data_exact : Exact validation_field validations
data_exact = record {
  back = data_back;
  only = data_only;
  apart = apart_of validation_field validations data_back (λ p q _ _ _ _ t v. data_told p q t v);
}

-- ---- what they stand for

pub row_of_parts : (account : List ℕ) (v : Validation) → IsValidation v → validation_row account (validation_text v) ≡ done (validation_nibbles account v)
unfolding validation_row
row_of_parts account (with_p cs) g = ap (shaped account (0x50 ∷ cs)) (whole_valid cs g.0 g.1).1
row_of_parts account (with_n front back) g =
    let t = front ++ (0x4E ∷ back) in
    let h = all_both CapitalHex front back g.1 in
    let long : length t ≡ 12 = length-append front (0x4E ∷ back) ∙ omega (arith, g.0, length-append front back) in
    let v = template_valid front back long h.0 h.1 in
    rw (shape_template t (first_led front back h.0) v.0, v.1, take-append_seam front (0x4E ∷ back), past_front front 0x4E back)
    (ap done (append_assoc (map value_of front) (last_of 5 account) (map value_of back)))
