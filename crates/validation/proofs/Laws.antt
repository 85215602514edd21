-- What validation data that pass tell of their nibbles.
-- Assumes nothing.
use Prim.Native.Nat.{ℕ, zero, suc, ◌+◌, ◌-◌, ◌*◌, ◌^◌, ◌≤◌, ◌<◌, zero-le, suc-le-suc}
use native.Mathlib.Omega.{arith}
use native.Mathlib.Numerals.{add-one}
use mathlib.Core.Path.{◌≡◌, refl, sym, ap, ap₂, ◌∙◌, subst}
use mathlib.Core.List.{List, [], ◌∷◌, ◌++◌, map, append_assoc}
use mathlib.Core.Bool.{Bool, true, false, ◌&&◌, cond}
use lib.ListN.{length, get_or, take, drop, length-map, length-append, length-drop}
use lib.Seq.{slice, take_all, length-take-le}
use lib.Dec.{leb, eqb, lit≤}
use borrow.Author.Tests.{leb-true, eqb-true, eqb-false, eq-eqb, ne_eqb}
use Rattle.nibbles.specs.Nibbles.{row, word, packs}
use Rattle.nibbles.proofs.Lists.{Below, and_left, and_right, map_below, below_drop, below_append}
use Rattle.nibbles.proofs.Rows.{row_length, row_below, row_take, word_lt, word_under, word_append}
use Rattle.alphabet.specs.Alphabet.{all_of, begins, value_of}
use Rattle.alphabet.proofs.Laws.{value_below}
use Rattle.alphabet.specs.declared.Class.TheVariants.{CapitalHex}
use Rattle.numbers.specs.Numbers.{Outcome, done, refused, and_then, unless}
use Rattle.numbers.proofs.Laws.{passed, then_done, value_of_lem}
use Rattle.numbers.specs.declared.Refusal.TheVariants.{Room901}
use Rattle.pins.specs.Pins.{last_of, account_of}
use Rattle.pins.specs.Answers.{row_of}
use Rattle.pins.proofs.Laws.{account_done}
use Rattle.answers.specs.Answers.{block_of}
use Rattle.answers.proofs.Laws.{Sixteen, sixteen_nibs}
use Rattle.validation.specs.Validation.{letter_p, letter_n, hex_end, is_template, is_whole, shape_of, shape_width, formed, is_validation, replaced, shaped, validation_row, validation_block}
use Rattle.validation.specs.declared.Shape.{Shape}
use Rattle.validation.specs.declared.Shape.TheVariants.{Template, Whole, Neither}

-- a place where something stands
here : (cs : List ℕ) (p n : ℕ) → get_or cs p 0 ≡ suc n → p < length cs
here [] p n e = absurd (omega arith)
here (c ∷ cs) zero n e = suc-le-suc zero-le
here (c ∷ cs) (suc p) n e = suc-le-suc (here cs p n e)

values_length : (cs : List ℕ) → length (map value_of cs) ≡ length cs
values_length cs = length-map cs value_of

values_below : (cs : List ℕ) → Below 16 (map value_of cs)
values_below = map_below 16 value_of value_below

-- ---- a row of sixteen

whole_sixteen : (cs : List ℕ) → length cs ≡ 17 → Sixteen (map value_of (drop 1 cs))
whole_sixteen cs l = record { long = values_length (drop 1 cs) ∙ length-drop 1 cs ∙ omega arith; nibbles = values_below (drop 1 cs) }

-- what a template's test tells: twelve characters, and the N is one of them
template_place : (cs : List ℕ) → is_template cs ≡ true → (length cs ≡ 12) × (hex_end cs < 12)
template_place cs e =
    let p = hex_end cs in
    let rest = all_of CapitalHex (drop (suc p) cs) in
    let more = eqb (get_or cs p 0) letter_n && rest in
    let l = eqb-true (length cs) 12 (and_left (eqb (length cs) 12) more e) in
    let n = eqb-true (get_or cs p 0) letter_n (and_left (eqb (get_or cs p 0) letter_n) rest (and_right (eqb (length cs) 12) more e)) in
    let h = here cs p 0x4D n in
    (l, omega arith)

replaced_long : (ds cs : List ℕ) (at : ℕ) → length ds ≡ 12 → length cs ≡ 12 → at < 12 → length (replaced ds at cs) ≡ 16
replaced_long ds cs at d l h =
    let front = map value_of (take at cs) in
    let back = map value_of (drop (suc at) cs) in
    let f : length front ≡ at = values_length (take at cs) ∙ length-take-le at cs (omega arith) in
    let k : length back ≡ 12 - suc at = values_length (drop (suc at) cs) ∙ length-drop (suc at) cs ∙ ap (λ (n : ℕ). n - suc at) l in
    let m : length (last_of 5 ds) ≡ 5 = length-drop (length ds - 5) ds ∙ omega arith in
    length-append (front ++ last_of 5 ds) back ∙ (let a = length-append front (last_of 5 ds) in omega arith)

replaced_sixteen : (ds cs : List ℕ) (at : ℕ) → length ds ≡ 12 → Below 16 ds → length cs ≡ 12 → at < 12 → Sixteen (replaced ds at cs)
replaced_sixteen ds cs at d b l h =
    let front = map value_of (take at cs) in
    let back = map value_of (drop (suc at) cs) in
    record {
      long = replaced_long ds cs at d l h;
      nibbles = below_append 16 (front ++ last_of 5 ds) back (below_append 16 front (last_of 5 ds) (values_below (take at cs)) (below_drop 16 (length ds - 5) ds b)) (values_below (drop (suc at) cs));
    }

-- ---- what validation data are

-- a P at the beginning is the first character
pub led_by_p : (cs : List ℕ) → begins (letter_p ∷ []) cs ≡ eqb (get_or cs 0 0) letter_p
unfolding begins
led_by_p [] = refl
led_by_p (c ∷ cs) = go (eqb c letter_p) refl
  where
    go : (b : Bool) → eqb c letter_p ≡ b → (eqb letter_p c && true) ≡ b
    go true e = rw (eq-eqb letter_p c (sym (eqb-true c letter_p e)))
    go false e = rw (ne_eqb letter_p c (λ h. eqb-false c letter_p e (sym h)))

-- what each shape tells of the characters' number
abbrev Measured : List ℕ → Shape → Type 0
Measured cs (Template at) = (length cs ≡ 12) × (at < 12)
Measured cs Whole = length cs ≡ 17
Measured cs Neither = Unit {0}

measured : (cs : List ℕ) → Measured cs (shape_of cs)
unfolding shape_of
measured cs = go (eqb (get_or cs 0 0) letter_p) (is_whole cs) (is_template cs) refl refl
  where
    go : (led whole template : Bool) → is_whole cs ≡ whole → is_template cs ≡ template → Measured cs (cond led (cond whole Whole Neither) (cond template (Template (hex_end cs)) Neither))
    go true true template w t = eqb-true (length cs) 17 (and_left (eqb (length cs) 17) (all_of CapitalHex (drop 1 cs)) w)
    go true false template w t = tt
    go false whole true w t = template_place cs t
    go false whole false w t = tt

-- the N stands among twelve characters
pub shape_twelve : (cs : List ℕ) (at : ℕ) → shape_of cs ≡ Template at → (length cs ≡ 12) × (at < 12)
shape_twelve cs at e = subst (Measured cs) e (measured cs)

-- the P stands before sixteen
pub shape_seventeen : (cs : List ℕ) → shape_of cs ≡ Whole → length cs ≡ 17
shape_seventeen cs e = subst (Measured cs) e (measured cs)

-- validation data are as long as their shape is wide
pub shape_long : (cs : List ℕ) → is_validation cs ≡ true → shape_width (shape_of cs) ≡ length cs
shape_long cs e = go (shape_of cs) (measured cs) e
  where
    go : (s : Shape) → Measured cs s → formed s ≡ true → shape_width s ≡ length cs
    go (Template at) m f = sym m.0
    go Whole m f = sym m
    go Neither m f = absurd (let z : ◌≡◌ {A = ℕ} 0 1 = cc in omega arith)

-- ---- the row that validation data stand for

-- it is one of sixteen nibbles
pub row_sixteen : (ds cs ns : List ℕ) → length ds ≡ 12 → Below 16 ds → validation_row ds cs ≡ done ns → Sixteen ns
unfolding validation_row
row_sixteen ds cs ns d b e = go (shape_of cs) (measured cs) e
  where
    go : (s : Shape) → Measured cs s → shaped ds cs s ≡ done ns → Sixteen ns
    go (Template at) m h = subst Sixteen (value_of_lem h) (replaced_sixteen ds cs at d b m.0 m.1)
    go Whole m h = subst Sixteen (value_of_lem h) (whole_sixteen cs m)
    go Neither m h = absurd (let z : ◌≡◌ {A = ℕ} 0 1 = cc in omega arith)

-- validation data have a row, of sixteen for an account of twelve
pub row_of_valid : (account cs : List ℕ) → is_validation cs ≡ true → (ns : List ℕ) × (validation_row account cs ≡ done ns) × (length account ≡ 12 → length ns ≡ 16)
unfolding validation_row
row_of_valid account cs e = go (shape_of cs) (measured cs) e
  where
    go : (s : Shape) → Measured cs s → formed s ≡ true → (ns : List ℕ) × (shaped account cs s ≡ done ns) × (length account ≡ 12 → length ns ≡ 16)
    go (Template at) m f = (replaced account at cs, refl, λ d. replaced_long account cs at d m.0 m.1)
    go Whole m f = (map value_of (drop 1 cs), refl, λ d. (whole_sixteen cs m).long)
    go Neither m f = absurd (let z : ◌≡◌ {A = ℕ} 0 1 = cc in omega arith)

-- ---- the call

-- a row that is held is that of its bytes
pub row_block : (o : Outcome (List ℕ)) → ((ns : List ℕ) → o ≡ done ns → Sixteen ns) → row_of o ≡ block_of (and_then o (λ ns. done (packs ns)))
row_block (done ns) s = ap (λ (xs : List ℕ). row_of (done xs)) (sym (sixteen_nibs ns (s ns refl)))
row_block (refused q) s = refl

-- the call's block is the bytes of a row of sixteen
pub call_block : (validation account : List ℕ) (room : ℕ) (bs : List ℕ) → validation_block validation account room ≡ done bs → (8 ≤ room) × ((ns : List ℕ) × Sixteen ns × (bs ≡ packs ns))
unfolding validation_block
call_block validation account room bs e =
    let r = then_done (unless Room901 (leb 8 room) room) _ bs e in
    let k = then_done (account_of account) _ bs r.2 in
    let v = then_done (validation_row k.0 validation) _ bs k.2 in
    let d = account_done account k.0 k.1 in (
      leb-true 8 room (passed Room901 (leb 8 room) room r.0 r.1).0,
      (v.0, row_sixteen k.0 validation v.0 d.0 d.1 v.1, sym (value_of_lem v.2)),
    )

-- ---- validation data, test by test

-- what stands behind a place, as code that cuts a slice there finds it
pub behind : (k : ℕ) (s : List ℕ) → take (length s - k) (drop k s) ≡ drop k s
behind k s = take_all (length s - k) (drop k s) (rw (length-drop k s) (omega arith))

-- nothing there is neither
pub shape_none : (cs : List ℕ) → length cs ≡ 0 → shape_of cs ≡ Neither
unfolding shape_of
shape_none [] e = refl
shape_none (c ∷ cs) e = absurd (omega arith)

-- P and another number of characters
pub whole_other : (s : List ℕ) → (length s ≡ 17 → ⊥) → is_whole s ≡ false
whole_other s h = rw (ne_eqb (length s) 17 h)

-- what stands behind the P decides
pub whole_rest : (s : List ℕ) → length s ≡ 17 → is_whole s ≡ all_of CapitalHex (slice 1 (length s) s)
whole_rest s long =
    rw (eq-eqb (length s) 17 long) (ap (λ (cs : List ℕ). all_of CapitalHex (drop 1 cs)) (sym (take_all (length s) s (omega arith))))

module _ (s : List ℕ) (at : ℕ) (end : at ≡ hex_end s) (long : length s ≡ 12) where
  -- the hex characters do not end at an N
  pub template_other : (get_or s at 0 ≡ letter_n → ⊥) → is_template s ≡ false
  template_other h = rw (eq-eqb (length s) 12 long, ← end, ne_eqb (get_or s at 0) letter_n h)

  -- or do not end
  pub template_end : 12 ≤ at → is_template s ≡ false
  template_end h = template_other (λ e. let l = here s at 0x4D e in omega arith)

  -- what stands behind the N decides
  pub template_rest : get_or s at 0 ≡ letter_n → is_template s ≡ all_of CapitalHex (slice (at + 1) 12 s)
  template_rest h =
      rw (eq-eqb (length s) 12 long, ← end, eq-eqb (get_or s at 0) letter_n h, add-one at)
      (ap (λ (cs : List ℕ). all_of CapitalHex (drop (suc at) cs)) (sym (take_all 12 s (omega arith))))

-- ---- the digits in the place of N

module _ (account : ℕ) (s : List ℕ) (at : ℕ) (long : length s ≡ 12) (low : at < 12) where
  abbrev front_row : List ℕ
  front_row = map value_of (take at s)

  abbrev five_last : List ℕ
  five_last = last_of 5 (row 12 account)

  abbrev back_row : List ℕ
  back_row = map value_of (drop (suc at) s)

  front_length : length front_row ≡ at
  front_length = values_length (take at s) ∙ length-take-le at s (omega arith)

  last_length : length five_last ≡ 5
  last_length = length-drop (length (row 12 account) - 5) (row 12 account) ∙ ap (λ (n : ℕ). n - (n - 5)) (row_length 12 account)

  last_below : Below 16 five_last
  last_below = below_drop 16 (length (row 12 account) - 5) (row 12 account) (row_below 12 account)

  back_length : length back_row ≡ 11 - at
  back_length = values_length (drop (suc at) s) ∙ length-drop (suc at) s ∙ omega arith

  tail_length : length (five_last ++ back_row) ≡ 16 - at
  tail_length = length-append five_last back_row ∙ (let a = last_length in let b = back_length in omega arith)

  -- the three parts are as long as they may be
  pub front_under : (f : ℕ) → f ≡ word front_row → f < 16 ^ at
  front_under f e = rw e (subst (λ (n : ℕ). word front_row < 16 ^ n) front_length (word_lt front_row (values_below (take at s))))

  pub last_five : (l : ℕ) → l ≡ word (slice 7 12 (row 16 account)) → l ≡ word five_last
  last_five l e = e ∙ ap (λ (xs : List ℕ). word (drop 7 xs)) (row_take 12 16 account (lit≤ tt))
      ∙ ap (λ (n : ℕ). word (drop (n - 5) (row 12 account))) (sym (row_length 12 account))

  pub last_under : (l : ℕ) → l ≡ word (slice 7 12 (row 16 account)) → l < 16 ^ 5
  last_under l e = rw (last_five l e) (subst (λ (n : ℕ). word five_last < 16 ^ n) last_length (word_lt five_last last_below))

  pub back_values : (b : ℕ) → b ≡ word (map value_of (take (length s - (at + 1)) (drop (at + 1) s))) → b ≡ word back_row
  back_values b e = e ∙ ap (λ (cs : List ℕ). word (map value_of cs)) (behind (at + 1) s) ∙ ap (λ (k : ℕ). word (map value_of (drop k s))) (add-one at)

  pub back_under : (b : ℕ) → b ≡ word (map value_of (take (length s - (at + 1)) (drop (at + 1) s))) → b < 16 ^ 11
  back_under b e = rw (back_values b e) (word_under 11 back_row (values_below (drop (suc at) s)) (let l = back_length in omega arith))

  -- the digits with what stands behind them
  pub tail_joined :
      (l b t : ℕ) → l ≡ word (slice 7 12 (row 16 account)) → b ≡ word (map value_of (take (length s - (at + 1)) (drop (at + 1) s)))
      → t ≡ b * 16 ^ 5 + l → t ≡ word (five_last ++ back_row)
  tail_joined l b t p q e =
      e ∙ ap₂ (λ (x y : ℕ). x * 16 ^ 5 + y) (back_values b q) (last_five l p)
      ∙ sym (word_append five_last back_row ∙ ap (λ (n : ℕ). word back_row * 16 ^ n + word five_last) last_length)

  pub tail_under : (t : ℕ) → t ≡ word (five_last ++ back_row) → t < 16 ^ (16 - at)
  tail_under t e =
      rw e (subst (λ (n : ℕ). word (five_last ++ back_row) < 16 ^ n) tail_length
      (word_lt (five_last ++ back_row) (below_append 16 five_last back_row last_below (values_below (drop (suc at) s)))))

  -- and with what stands before
  pub all_joined :
      (f t r : ℕ) → f ≡ word front_row → t ≡ word (five_last ++ back_row) → r ≡ t * 16 ^ at + f → r ≡ word (front_row ++ five_last ++ back_row)
  all_joined f t r p q e =
      e ∙ ap₂ (λ (x y : ℕ). x * 16 ^ at + y) q p
      ∙ sym (ap word (append_assoc front_row five_last back_row) ∙ word_append front_row (five_last ++ back_row)
      ∙ ap (λ (n : ℕ). word (five_last ++ back_row) * 16 ^ n + word front_row) front_length)
