-- The natural PIN, place by place.
-- Assumes nothing.
use Prim.Native.Nat.{ℕ, ◌≤◌, ◌<◌}
use native.Mathlib.Omega.{arith}
use mathlib.Core.Path.{◌≡◌, refl, sym, ap, ap₂, ◌∙◌}
use mathlib.Core.List.{List, map}
use mathlib.Core.Bool.{Bool}
use lib.ListN.{length, get_or, take, length-map}
use lib.Seq.{length-take-le, take_all, get_or-take}
use lib.Dec.{lit<, leb, eqb}
use borrow.Author.Tests.{eqb-true, leb-true}
use Rattle.nibbles.specs.Nibbles.{row, within, word}
use Rattle.nibbles.proofs.Lists.{Below, map_at, map_below, below_at, below_take}
use Rattle.nibbles.proofs.Rows.{row_length, row_at_lt}
use Rattle.nibbles.proofs.Runs.{inside_low, inside_high}
use Rattle.alphabet.specs.Alphabet.{all_of, value_of}
use Rattle.naturals.specs.Naturals.{decimal, natural_of, table_sized, table_of, natural_pin}
use Rattle.alphabet.specs.declared.Class.TheVariants.{Digit}
use Rattle.alphabet.proofs.Laws.{value_below}
use Rattle.numbers.specs.Numbers.{done, unless}
use Rattle.numbers.specs.declared.Refusal.TheVariants.{Field15, Length24, Table25, Room901}
use Rattle.numbers.proofs.Laws.{passed, then_done, value_of_lem}
use Rattle.pins.specs.Pins.{pin_length, sized}
use Rattle.pins.proofs.Laws.{block_row}
use Rattle.answers.proofs.Laws.{Digital}

-- ---- the natural PIN

-- of any rows
pub natural_long : (n : ℕ) (ts es : List ℕ) → n ≤ length es → length (natural_of n ts es) ≡ n
natural_long n ts es h = length-take-le n (map (decimal ts) es) (rw (length-map es (decimal ts)) h)

natural_under : (m n : ℕ) (ts es : List ℕ) → 0 < m → Below m ts → Below m (natural_of n ts es)
natural_under m n ts es p b = below_take m n (map (decimal ts) es) (map_below m (decimal ts) (λ x. below_at m ts x p b) es)

pub natural_digits : (n : ℕ) (ts es : List ℕ) → Below 10 ts → Below 10 (natural_of n ts es)
natural_digits n ts es = natural_under 10 n ts es (lit< tt)

-- through the characters of a table, of a block of sixteen nibbles in a word
module _ (n : ℕ) (table : List ℕ) (enciphered : ℕ) (small : n ≤ 16) where
  abbrev pub naturalRow : List ℕ
  naturalRow = natural_of n (map value_of table) (row 16 enciphered)

  pub natural_length : length naturalRow ≡ n
  natural_length = natural_long n (map value_of table) (row 16 enciphered) (rw (row_length 16 enciphered) small)

  pub natural_below : Below 16 naturalRow
  natural_below = natural_under 16 n (map value_of table) (row 16 enciphered) (lit< tt) (map_below 16 value_of value_below table)

  pub natural_at : length table ≡ 16 → (i : ℕ) → i < n → get_or naturalRow i 0 ≡ value_of (get_or table (get_or (row 16 enciphered) i 0) 0)
  natural_at whole i h =
      get_or-take n (map (decimal (map value_of table)) (row 16 enciphered)) i 0 h
      ∙ map_at (decimal (map value_of table)) (row 16 enciphered) i 0 0 (rw (row_length 16 enciphered) (omega arith))
      ∙ map_at value_of table (get_or (row 16 enciphered) i 0) 0 0 (rw whole (row_at_lt enciphered i))

-- ---- the table

-- sixteen characters were judged, and they are all of the table
pub table_judged : (cs : List ℕ) → length cs ≡ 16 → (good : Bool) → good ≡ all_of Digit (take 16 cs) → all_of Digit cs ≡ good
table_judged cs whole good e = ap (all_of Digit) (sym (take_all 16 cs (omega arith))) ∙ sym e

-- what the call that makes a natural PIN has judged
pub natural_done : (n : ℕ) (table enciphered : List ℕ) (room : ℕ) (ds : List ℕ) → natural_pin n table enciphered room ≡ done ds
    → (ts es : List ℕ) × (table_of table ≡ done ts) × (sized 8 enciphered ≡ done es) × (length table ≡ 16) × (4 ≤ n) × (n ≤ 12) × (12 ≤ room) × (natural_of n ts es ≡ ds)
unfolding natural_pin
natural_done n table enciphered room ds e =
    let r = then_done (unless Room901 (leb 12 room) room) _ ds e in
    let t = then_done (table_sized table) _ ds r.2 in
    let s = then_done (sized 8 enciphered) _ ds t.2 in
    let ts = then_done (table_of table) _ ds s.2 in
    let k = then_done (pin_length n) _ ds ts.2 in
    let p = passed Length24 (within 4 12 n) n k.0 k.1 in (
      ts.0,
      s.0,
      ts.1,
      s.1,
      eqb-true _ _ (passed Field15 (eqb (length table) 16) table t.0 t.1).0,
      inside_low 4 12 n p.0,
      inside_high 4 12 n p.0,
      leb-true 12 room (passed Room901 (leb 12 room) room r.0 r.1).0,
      ap (λ (j : ℕ). natural_of j ts.0 s.0) p.1 ∙ value_of_lem k.2,
    )

pub natural_digital : (n : ℕ) (table enciphered : List ℕ) (room : ℕ) → Below 256 enciphered → Digital (natural_pin n table enciphered room) room
natural_digital n table enciphered room b ds e =
    let t = natural_done n table enciphered room ds e in
    let values = (passed Table25 (all_of Digit table) (map value_of table) t.0 t.2).1 in
    let er = block_row enciphered t.1 (word t.1) t.3 b refl in
    let whole : natural_of n (map value_of table) (row 16 (word t.1)) ≡ ds = ap₂ (natural_of n) values er ∙ t.8 in
    let small = t.6 in
    let room_for = t.7 in
    let long = ap length (sym whole) ∙ natural_length n table (word t.1) (omega arith) in
    (omega arith, omega arith, rw (← whole) (natural_below n table (word t.1) (omega arith)))
