-- Laws of reading and writing that the functions and their callers cite.
-- Assumes nothing.
use Prim.Native.Nat.{ℕ, zero, suc, ◌+◌, ◌-◌, ◌*◌, ◌/◌, ◌^◌, ◌≤◌, ◌<◌}
use native.Mathlib.Omega.{arith}
use native.Mathlib.Nat.{mod-eq_of_lt, mod-lt, lt_of_lt_of_le, pow-le-pow_right}
use mathlib.Core.Path.{◌≡◌, refl, sym, ap, ap₂, ◌∙◌, subst}
use mathlib.Core.List.{List, [], ◌∷◌, ◌++◌, map}
use mathlib.Core.Bool.{Bool, true, false, ◌&&◌}
use lib.ListN.{length, get_or, drop, length-map, length-append, length-drop}
use lib.Seq.{slice, take_all, length-slice}
use lib.Dec.{lit<, lit≤}
use lib.Bits.{xor_lt}
use borrow.Author.Tests.{le-leb, eqb-true}
use Rattle.nibbles.specs.Nibbles.{row, word, xors, within, every, leading}
use Rattle.nibbles.proofs.Lists.{Below, below_weaken, and_left, and_right, map_at, below_drop, below_append}
use Rattle.nibbles.proofs.Rows.{row_length, row_below, row_part, row_word, word_row, word_none, word_lt, word_append}
use Rattle.nibbles.proofs.Runs.{leading_take, inside_high, every_leading, run_whole, run_broken, below_every}
use Rattle.numbers.specs.Numbers.{done, refused, and_then}
use Rattle.numbers.specs.declared.Refusal.TheVariants.{Block20, Length24}
use Rattle.formats.specs.Formats.{lead_of, lead_width, leads, filled, fill_of, least_fill, fits, veiled}
use Rattle.formats.specs.declared.Format.{Format}
use Rattle.formats.specs.declared.Format.TheVariants.{F01, F03, F05, F34, F35, F47}
use Rattle.formats.specs.declared.Lead.{Lead}
use Rattle.formats.specs.declared.Lead.TheVariants.{Bare, Control}
use Rattle.formats.specs.declared.Fill.{Fill}
use Rattle.formats.specs.declared.Fill.TheVariants.{F, AToF, Any}
use Rattle.pins.specs.Pins.{digit, pin_length}
use Rattle.pins.specs.Answers.{pin_of}
use Rattle.pins.specs.declared.Pin.{Pin}
use Rattle.numbers.proofs.Laws.{passed, then_done}
use Rattle.pins.proofs.Laws.{Pinned, pinned, pin_under, pin_row}
use Rattle.answers.specs.Answers.{digits_of}
use Rattle.answers.proofs.Laws.{Sixteen, sixteen_word}
use Rattle.blocks.specs.Blocks.{veil, before_f, counted, contents, read_row, clear_row, write_row}
use Rattle.blocks.specs.Answers.{Proper}

-- what passes a test passes it behind a place
every_drop : (p : ℕ → Bool) (k : ℕ) (xs : List ℕ) → every p xs ≡ true → every p (drop k xs) ≡ true
unfolding every
every_drop p zero xs e = e
every_drop p (suc k) [] e = e
every_drop p (suc k) (x ∷ xs) e = every_drop p k xs (and_right (p x) (every p xs) e)

pub lead_short : (l : Lead) → lead_width l ≤ 2
lead_short Bare = omega arith
lead_short (Control c) = omega arith

pub filled_below : (k : Fill) (n : ℕ) → n < 16 → filled k n < 16
filled_below F n h = lit< tt
filled_below AToF n h = let m = mod-lt n {m = 6} (lit< tt) in omega arith
filled_below Any n h = h

-- the word of a proper PIN's digits is the word it holds
pub digits_word : (p : Pin) → Proper p → word (digits_of p) ≡ p.digits
digits_word p h = word_row p.length p.digits ∙ mod-eq_of_lt h.clean

-- twelve digits leave room for a lead
pub proper_small : (p : Pin) → Proper p → p.digits < 16 ^ 12
proper_small p h = lt_of_lt_of_le h.clean (pow-le-pow_right (lit< tt) h.short)

-- what stands before the first F is a part of the row
pub before_part : (w : ℕ) → before_f (row 16 w) ≡ slice 0 (length (before_f (row 16 w))) (row 16 w)
before_part w = leading_take (within 0 14) (row 16 w)

pub whole_row : (w : ℕ) → slice 0 16 (row 16 w) ≡ row 16 w
whole_row w = take_all 16 (row 16 w) (rw (row_length 16 w) (lit≤ tt))

module _ (f : Format) (w n from : ℕ) (here : from ≡ lead_width (lead_of f)) (small : n ≤ 12) where
  -- where the digits and the fill stand in the row
  pub digits_end : from + n ≤ 16
  digits_end = let s = lead_short (lead_of f) in omega arith

  pub wrong_digits : from + length (leading digit (slice from (from + n) (row 16 w))) < from + n → contents f (row 16 w) n ≡ refused Block20
  unfolding contents
  wrong_digits h =
      rw (← here, run_broken digit (row 16 w) from (from + n) (omega arith) (rw (row_length 16 w) digits_end) h)

  pub wrong_fill :
      from + n ≤ from + length (leading digit (slice from (from + n) (row 16 w)))
      → from + n + length (leading (fits (fill_of f)) (slice (from + n) 16 (row 16 w))) < 16
      → contents f (row 16 w) n ≡ refused Block20
  unfolding contents
  wrong_fill h k =
      rw (
        ← here,
        run_whole digit (row 16 w) from (from + n) (omega arith) (rw (row_length 16 w) digits_end) h,
        run_broken (fits (fill_of f)) (row 16 w) (from + n) 16 digits_end (rw (row_length 16 w) (lit≤ tt)) k,
      )

  pub right_contents :
      from + n ≤ from + length (leading digit (slice from (from + n) (row 16 w)))
      → 16 ≤ from + n + length (leading (fits (fill_of f)) (slice (from + n) 16 (row 16 w)))
      → contents f (row 16 w) n ≡ done (slice from (from + n) (row 16 w))
  unfolding contents
  right_contents h k =
      rw (
        ← here,
        run_whole digit (row 16 w) from (from + n) (omega arith) (rw (row_length 16 w) digits_end) h,
        run_whole (fits (fill_of f)) (row 16 w) (from + n) 16 digits_end (rw (row_length 16 w) (lit≤ tt)) k,
      )

-- ---- the fill, place by place

pub least_small : (k : Fill) → least_fill k ≤ 15
least_small F = lit≤ tt
least_small AToF = lit≤ tt
least_small Any = lit≤ tt

-- nothing but F from a place on is fill to the end, whatever the least is
module _ (w from least : ℕ) (short : from ≤ 16) (small : least ≤ 15) (same : w / 16 ^ from ≡ 0xFFFFFFFFFFFFFFFF / 16 ^ from) where
  rest_same : slice from 16 (row 16 w) ≡ slice from 16 (row 16 0xFFFFFFFFFFFFFFFF)
  rest_same =
      let s : from + (16 - from) ≡ 16 = omega arith in
      ap (λ (k : ℕ). slice from k (row 16 w)) (sym s) ∙ row_part 16 from (16 - from) w (omega arith) ∙ ap (row (16 - from)) same
      ∙ sym (row_part 16 from (16 - from) 0xFFFFFFFFFFFFFFFF (omega arith)) ∙ ap (λ (k : ℕ). slice from k (row 16 0xFFFFFFFFFFFFFFFF)) s

  every_rest : every (within least 15) (slice from 16 (row 16 0xFFFFFFFFFFFFFFFF)) ≡ true
  unfolding row every
  every_rest = every_drop (within least 15) from (row 16 0xFFFFFFFFFFFFFFFF) (rw (le-leb least 15 small))

  pub fill_whole : 16 ≡ from + length (leading (within least 15) (slice from 16 (row 16 w)))
  fill_whole =
      let all = ap (every (within least 15)) rest_same ∙ every_rest in
      let long = eqb-true (length (leading (within least 15) (slice from 16 (row 16 w)))) (length (slice from 16 (row 16 w))) (sym (every_leading (within least 15) (slice from 16 (row 16 w))) ∙ all) in
      let wide = length-slice from 16 (row 16 w) (rw (row_length 16 w) (lit≤ tt)) in
      omega arith

filled_each : (k : Fill) (ns : List ℕ) → Below 16 ns → Below 16 (map (filled k) ns)
filled_each k [] b = tt
filled_each k (n ∷ ns) b = (filled_below k n b.0, filled_each k ns b.1)

module _ (k : Fill) (fill : ℕ) where
  abbrev pub filled_row : List ℕ
  filled_row = map (filled k) (row 16 fill)

  pub filled_length : length filled_row ≡ 16
  filled_length = length-map (row 16 fill) (filled k) ∙ row_length 16 fill

  pub filled_row_below : Below 16 filled_row
  filled_row_below = filled_each k (row 16 fill) (row_below 16 fill)

  pub filled_at : (i : ℕ) → i < 16 → filled k (get_or (row 16 fill) i 0) ≡ get_or filled_row i 0
  filled_at i h = sym (map_at (filled k) (row 16 fill) i 0 0 (rw (row_length 16 fill) h))

  pub filled_none : 0 ≡ word (drop 16 filled_row)
  filled_none = word_none filled_row ∙ ap (λ (n : ℕ). word (drop n filled_row)) filled_length

  -- the fill from a place on, and no more
  pub filled_from : (from : ℕ) → drop from filled_row ≡ map (filled k) (drop from (row 16 fill))
  filled_from from = drop_map (filled k) from (row 16 fill)
    where
      drop_map : (g : ℕ → ℕ) (n : ℕ) (xs : List ℕ) → drop n (map g xs) ≡ map g (drop n xs)
      drop_map g zero xs = refl
      drop_map g (suc n) [] = refl
      drop_map g (suc n) (x ∷ xs) = drop_map g n xs

-- ---- reading, from the clear row on

pub read_clear :
    (f : Format) (with ns clear : List ℕ) → clear ≡ veil (veiled f) with ns
    → read_row f with ns ≡ and_then (counted (lead_of f) clear) (λ n. and_then (pin_length n) (contents f clear))
unfolding read_row
read_clear f with ns clear e = ap (λ (c : List ℕ). and_then (counted (lead_of f) c) (λ n. and_then (pin_length n) (contents f c))) (sym e)

-- ---- writing, to the clear row

-- every control is a nibble
leads_below : (f : Format) (n : ℕ) → n < 16 → Below 16 (leads (lead_of f) n)
leads_below F01 n h = (lit< tt, (h, tt))
leads_below F03 n h = tt
leads_below F05 n h = (lit< tt, (h, tt))
leads_below F34 n h = (lit< tt, (h, tt))
leads_below F35 n h = (lit< tt, (h, tt))
leads_below F47 n h = (lit< tt, (h, tt))

leads_length : (l : Lead) (n : ℕ) → length (leads l n) ≡ lead_width l
leads_length Bare n = refl
leads_length (Control c) n = refl

module _ (f : Format) (p : Pin) (proper : Proper p) (fill from : ℕ) (here : from ≡ lead_width (lead_of f) + p.length) where
  abbrev pub head_row : List ℕ
  head_row = leads (lead_of f) p.length ++ digits_of p

  abbrev pub tail_row : List ℕ
  tail_row = map (filled (fill_of f)) (drop from (row 16 fill))

  pub from_small : from ≤ 14
  from_small = let s = lead_short (lead_of f) in omega (arith, proper.short)

  pub head_length : length head_row ≡ from
  head_length =
      length-append (leads (lead_of f) p.length) (digits_of p)
      ∙ ap₂ (λ (a b : ℕ). a + b) (leads_length (lead_of f) p.length) (row_length p.length p.digits) ∙ sym here

  pub head_below : Below 16 head_row
  head_below = below_append 16 (leads (lead_of f) p.length) (digits_of p) (leads_below f p.length (omega (arith, proper.short))) (row_below p.length p.digits)

  pub tail_length : length tail_row ≡ 16 - from
  tail_length =
      length-map (drop from (row 16 fill)) (filled (fill_of f)) ∙ length-drop from (row 16 fill)
      ∙ ap (λ (n : ℕ). n - from) (row_length 16 fill)

  pub tail_below : Below 16 tail_row
  tail_below = filled_each (fill_of f) (drop from (row 16 fill)) (below_drop 16 from (row 16 fill) (row_below 16 fill))

  pub head_under : word head_row < 16 ^ from
  head_under = subst (λ (n : ℕ). word head_row < 16 ^ n) head_length (word_lt head_row head_below)

  pub tail_under : word tail_row < 16 ^ (16 - from)
  tail_under = subst (λ (n : ℕ). word tail_row < 16 ^ n) tail_length (word_lt tail_row tail_below)

  whole : length (head_row ++ tail_row) ≡ 16
  whole = length-append head_row tail_row ∙ (let h = head_length in let t = tail_length in let s = from_small in omega arith)

  pub joined : row 16 (word tail_row * 16 ^ from + word head_row) ≡ clear_row f (digits_of p) (row 16 fill)
  joined =
      ap (row 16) (sym (word_append head_row tail_row ∙ ap (λ (n : ℕ). word tail_row * 16 ^ n + word head_row) head_length))
      ∙ ap (λ (n : ℕ). row n (word (head_row ++ tail_row))) (sym whole)
      ∙ row_word (head_row ++ tail_row) (below_append 16 head_row tail_row head_below tail_below)
      ∙ ap₂ (λ (n k : ℕ). leads (lead_of f) n ++ digits_of p ++ map (filled (fill_of f)) (drop k (row 16 fill)))
      (sym (row_length p.length p.digits))
      (here ∙ ap (λ (n : ℕ). lead_width (lead_of f) + n) (sym (row_length p.length p.digits)))

-- ---- what a block that was read tells

xors_length : (xs ys : List ℕ) → length xs ≡ length ys → length (xors xs ys) ≡ length xs
unfolding xors
xors_length [] ys e = refl
xors_length (x ∷ xs) [] e = absurd (omega arith)
xors_length (x ∷ xs) (y ∷ ys) e = ap suc (xors_length xs ys (omega arith))

veil_length : (on : Bool) (with ns : List ℕ) → length with ≡ 16 → length ns ≡ 16 → length (veil on with ns) ≡ 16
veil_length true with ns h k = xors_length ns with (k ∙ sym h) ∙ k
veil_length false with ns h k = k

pub read_pinned : (f : Format) (with ns ds : List ℕ) → length with ≡ 16 → length ns ≡ 16 → read_row f with ns ≡ done ds → Pinned ds
unfolding read_row contents
read_pinned f with ns ds h k e =
    let clear = veil (veiled f) with ns in
    let from = lead_width (lead_of f) in
    let t = then_done (counted (lead_of f) clear) (λ n. and_then (pin_length n) (contents f clear)) ds e in
    let u = then_done (pin_length t.0) (contents f clear) ds t.2 in
    let n = passed Length24 (within 4 12 t.0) t.0 u.0 u.1 in
    let part = slice from (from + u.0) clear in
    let p = passed Block20 (every digit part && every (fits (fill_of f)) (slice (from + u.0) 16 clear)) part ds u.2 in
    let small : u.0 ≤ 12 = rw n.1 at (inside_high 4 12 t.0 n.0) in
    let s = lead_short (lead_of f) in
    let long : length ds ≡ u.0 = ap length (sym p.1) ∙ length-slice from (from + u.0) clear (rw (veil_length (veiled f) with ns h k) (omega arith)) ∙ omega arith in
    pinned ds (rw (long, ← n.1) n.0) (rw (← p.1) (and_left _ _ p.0))

-- ---- what is written is a row of sixteen nibbles

xors_below : (xs ys : List ℕ) → Below 16 xs → Below 16 ys → Below 16 (xors xs ys)
unfolding xors
xors_below [] ys b c = tt
xors_below (x ∷ xs) [] b c = tt
xors_below (x ∷ xs) (y ∷ ys) b c = (xor_lt 4 x y b.0 c.0, xors_below xs ys b.1 c.1)

veil_below : (on : Bool) (with ns : List ℕ) → Below 16 with → Below 16 ns → Below 16 (veil on with ns)
veil_below true with ns b c = xors_below ns with c b
veil_below false with ns b c = c

pub written_row : (f : Format) (with ds fill : List ℕ) → Sixteen with → Pinned ds → Sixteen fill → Sixteen (write_row f with ds fill)
unfolding write_row
written_row f with ds fill w p s =
    let from = lead_width (lead_of f) + length ds in
    let rest = map (filled (fill_of f)) (drop from fill) in
    let front = leads (lead_of f) (length ds) ++ ds in
    let head : length front ≡ from = length-append (leads (lead_of f) (length ds)) ds ∙ ap (λ (n : ℕ). n + length ds) (leads_length (lead_of f) (length ds)) in
    let tail : length rest ≡ 16 - from = length-map (drop from fill) (filled (fill_of f)) ∙ length-drop from fill ∙ ap (λ (n : ℕ). n - from) s.long in
    let short = lead_short (lead_of f) in
    let whole : length (clear_row f ds fill) ≡ 16 = length-append front rest ∙ omega (arith, p.short) in
    record {
      long = veil_length (veiled f) with (clear_row f ds fill) w.long whole;
      nibbles = veil_below (veiled f) with (clear_row f ds fill) w.nibbles
          (below_append 16 front rest (below_append 16 (leads (lead_of f) (length ds)) ds (leads_below f (length ds) (omega (arith, p.short))) (below_weaken 10 16 ds (lit≤ tt) p.digits))
          (filled_each (fill_of f) (drop from fill) (below_drop 16 from fill s.nibbles)));
    }

-- a PIN that was judged is proper
pub proper : (ds : List ℕ) → Pinned ds → Proper (pin_of ds)
proper ds p =
    record {
      long = p.long;
      short = p.short;
      digits = ap (every digit) (pin_row ds p) ∙ below_every 9 ds p.digits;
      clean = pin_under ds p;
    }

-- under the veil or not, the word holds the row
pub veil_held : (on : Bool) (a b w : ℕ) → w ≡ word (veil on (row 16 a) (row 16 b)) → row 16 w ≡ veil on (row 16 a) (row 16 b)
veil_held on a b w e =
    ap (row 16) e
    ∙ sixteen_word (veil on (row 16 a) (row 16 b))
    (record {
      long = veil_length on (row 16 a) (row 16 b) (row_length 16 a) (row_length 16 b);
      nibbles = veil_below on (row 16 a) (row 16 b) (row_below 16 a) (row_below 16 b);
    })
