-- Laws of bytes and their nibbles, each over every length.
-- Assumes nothing.
use Prim.Native.Nat.{ℕ, zero, suc, ◌+◌, ◌*◌, ◌/◌, ◌%◌, ◌^◌, ◌≤◌, ◌<◌}
use native.Mathlib.Nat.{mod-lt, not-suc-le-zero, le_of_suc-le-suc, div-add-mod', mul_assoc, pow-suc, pow-le-pow_right, lt_of_lt_of_le}
use native.Mathlib.Omega.{arith}
use native.Mathlib.Numerals.{add-one}
use mathlib.Core.Path.{◌≡◌, refl, sym, ap, ap₂, ◌∙◌}
use mathlib.Core.List.{List, [], ◌∷◌}
use lib.ListN.{length, get_or, take}
use lib.Seq.{length-take-le, take_all}
use lib.Dec.{lit<}
use lib.Arith.{digits_div, digits_mod, digits_lt}
use lib.Bits.{bit_and, and_block, and_mask}
use lib.Pow.{pow-add, shl_exact}
use mir.Syntax.{w64}
use Rattle.std.specs.Int.{from_le_bytes, to_le_bytes}
use Rattle.std.proofs.lemmas.Nat.{le_bytes_8}
use mir.Val.{Fits}
use mir.Syntax.{w8}
use Rattle.nibbles.specs.Nibbles.{nibs, packs, word, row}
use Rattle.nibbles.proofs.Lists.{Below, below_each, below_at, below_take}
use Rattle.nibbles.proofs.Rows.{word_fits, word_back, row_length, row_below}

-- what owning a slice of bytes tells of it
pub bytes_below : (bs : List ℕ) → ((i : ℕ) → Fits w8 (get_or bs i 0)) → Below 256 bs
bytes_below bs h = below_each 256 bs (λ i. (h i).fits)

pub nibs_length : (bs : List ℕ) → length (nibs bs) ≡ length bs + length bs
unfolding nibs
nibs_length [] = refl
nibs_length (b ∷ bs) = let h = nibs_length bs in omega arith

pub nibs_below : (bs : List ℕ) → Below 256 bs → Below 16 (nibs bs)
unfolding nibs
nibs_below [] b = tt
nibs_below (x ∷ bs) b = (let h = b.0 in omega arith, (mod-lt x (lit< tt), nibs_below bs b.1))

pub nibs_fits : (bs : List ℕ) → Below 256 bs → length bs ≤ 8 → word (nibs bs) < 2 ^ 64
nibs_fits bs b h = word_fits (nibs bs) (nibs_below bs b) (rw (nibs_length bs) (omega arith))

-- ---- bytes gathered in a word, the first lowest

unfoldable pub gathered : List ℕ → ℕ
gathered [] = 0
gathered (b ∷ bs) = gathered bs * 256 + b

-- one byte more behind
gathered_suc : (bs : List ℕ) (i : ℕ) → i < length bs → gathered (take (suc i) bs) ≡ gathered (take i bs) + get_or bs i 0 * 2 ^ (8 * i)
unfolding gathered
gathered_suc [] i h = absurd (not-suc-le-zero h)
gathered_suc (b ∷ bs) zero h = omega arith
gathered_suc (b ∷ bs) (suc i) h =
    let ih = gathered_suc bs i (le_of_suc-le-suc h) in
    let far : get_or bs i 0 * 2 ^ (8 * suc i) ≡ get_or bs i 0 * 2 ^ (8 * i) * 256 =
    ap (λ (k : ℕ). get_or bs i 0 * 2 ^ k) (next i) ∙ ap (λ (x : ℕ). get_or bs i 0 * x) (pow-add 2 (8 * i) 8) ∙ sym (mul_assoc (get_or bs i 0) (2 ^ (8 * i)) 256) in
    omega arith
  where
    next : (k : ℕ) → 8 * suc k ≡ 8 * k + 8
    next k = omega arith

gathered_under : (bs : List ℕ) → Below 256 bs → gathered bs < 256 ^ length bs
unfolding gathered
gathered_under [] b = lit< tt
gathered_under (x ∷ bs) b = rw (pow-suc 256 (length bs)) (digits_lt (gathered_under bs b.1) b.0)

module _ (bs : List ℕ) (i w : ℕ) (here : i < length bs) (few : length bs ≤ 8) (b : Below 256 bs) (e : w ≡ gathered (take i bs)) where
  -- the bytes before i, with the one at i behind them
  pub gathered_next : w + get_or bs i 0 * 2 ^ (8 * i) % 2 ^ 64 ≡ gathered (take (i + 1) bs)
  gathered_next =
      ap₂ (λ (x y : ℕ). x + y) e (shl_exact 8 (8 * i) 64 (below_at 256 bs i (lit< tt) b) (omega arith)) ∙ sym (gathered_suc bs i here)
      ∙ ap (λ (k : ℕ). gathered (take k bs)) (sym (add-one i))

  pub gathered_room : w + get_or bs i 0 * 2 ^ (8 * i) % 2 ^ 64 < 2 ^ 64
  gathered_room =
      let long = length-take-le (i + 1) bs (omega arith) in
      let short : length (take (i + 1) bs) ≤ 8 = omega arith in
      rw gathered_next (lt_of_lt_of_le (gathered_under (take (i + 1) bs) (below_take 256 (i + 1) bs b)) (pow-le-pow_right (lit< tt) short))

-- the low nibble of each of k bytes
unfoldable pub lows : ℕ → ℕ
lows zero = 0
lows (suc k) = lows k * 256 + 15

-- the two nibbles of a word's lowest byte change places, and those above it do
lowest : (k w x : ℕ) → x < 256 → bit_and (w * 256 + x) (lows (suc k)) * 16 + bit_and ((w * 256 + x) / 16) (lows (suc k)) ≡ (bit_and w (lows k) * 16 + bit_and (w / 16) (lows k)) * 256 + (x % 16 * 16 + x / 16)
unfolding lows
lowest k w x small =
    let low = and_block 8 w (lows k) x 15 small (lit< tt) ∙ ap (λ (y : ℕ). bit_and w (lows k) * 256 + y) (and_mask x 4) in
    let split : (w * 256 + x) / 16 ≡ w / 16 * 256 + (w % 16 * 16 + x / 16) = omega arith in
    let high =
    ap (λ (y : ℕ). bit_and y (lows k * 256 + 15)) split ∙ and_block 8 (w / 16) (lows k) (w % 16 * 16 + x / 16) 15 (omega arith) (lit< tt)
    ∙ ap (λ (y : ℕ). bit_and (w / 16) (lows k) * 256 + y) (and_mask (w % 16 * 16 + x / 16) 4) in
    omega (arith, low, high, small)

-- so bytes that were gathered become the word of their nibbles
pub exchanged : (k : ℕ) (bs : List ℕ) → Below 256 bs → length bs ≤ k → bit_and (gathered bs) (lows k) * 16 + bit_and (gathered bs / 16) (lows k) ≡ word (nibs bs)
unfolding word nibs gathered lows
exchanged k [] b h = refl
exchanged zero (x ∷ bs) b h = absurd (omega arith)
exchanged (suc k) (x ∷ bs) b h = omega (arith, exchanged k bs b.1 (le_of_suc-le-suc h), lowest k (gathered bs) x b.0)

-- and the word of nibbles those that pack them
pub exchanged_back : (k : ℕ) (ns : List ℕ) → Below 16 ns → length ns ≡ k + k → bit_and (word ns) (lows k) * 16 + bit_and (word ns / 16) (lows k) ≡ gathered (packs ns)
unfolding word packs gathered lows
exchanged_back zero [] b h = refl
exchanged_back (suc k) [] b h = absurd (omega arith)
exchanged_back k (a ∷ []) b h = absurd (omega arith)
exchanged_back zero (a ∷ l ∷ ns) b h = absurd (omega arith)
exchanged_back (suc k) (a ∷ l ∷ ns) b h =
    let ih = exchanged_back k ns b.1.1 (omega arith) in
    let first = b.0 in
    let second = b.1.0 in
    let step = lowest k (word ns) (l * 16 + a) (omega arith) in
    let whole : (word ns * 16 + l) * 16 + a ≡ word ns * 256 + (l * 16 + a) = omega arith in
    rw whole (omega (arith, ih, step))

-- ---- nibbles packed into bytes

pub packs_length : (k : ℕ) (ns : List ℕ) → length ns ≡ k + k → length (packs ns) ≡ k
unfolding packs
packs_length k [] e = omega arith
packs_length k (h ∷ []) e = absurd (omega arith)
packs_length zero (h ∷ l ∷ ns) e = absurd (omega arith)
packs_length (suc k) (h ∷ l ∷ ns) e = ap suc (packs_length k ns (omega arith))

pub packs_below : (ns : List ℕ) → Below 16 ns → Below 256 (packs ns)
unfolding packs
packs_below [] b = tt
packs_below (a ∷ []) b = tt
packs_below (a ∷ l ∷ ns) b = (let first = b.0 in let second = b.1.0 in omega arith, packs_below ns b.1.1)

pub packs_nibs : (bs : List ℕ) → packs (nibs bs) ≡ bs
unfolding nibs packs
packs_nibs [] = refl
packs_nibs (b ∷ bs) = ap₂ (λ (x : ℕ) (xs : List ℕ). x ∷ xs) (div-add-mod' b 16) (packs_nibs bs)

-- a row of an even number of nibbles is that of its bytes
pub nibs_packs : (k : ℕ) (ns : List ℕ) → length ns ≡ k + k → Below 16 ns → nibs (packs ns) ≡ ns
unfolding nibs packs
nibs_packs k [] e b = refl
nibs_packs k (h ∷ []) e b = absurd (omega arith)
nibs_packs zero (h ∷ l ∷ ns) e b = absurd (omega arith)
nibs_packs (suc k) (h ∷ l ∷ ns) e b =
    ap₂ (λ (x : ℕ) (xs : List ℕ). x ∷ xs) (digits_div h b.1.0)
    (ap₂ (λ (x : ℕ) (xs : List ℕ). x ∷ xs) (digits_mod h b.1.0) (nibs_packs k ns (omega arith) b.1.1))

-- ---- the library's bytes of a number
from_gathered : (bs : List ℕ) → length bs ≡ 8 → gathered bs ≡ from_le_bytes w64 bs
unfolding gathered
from_gathered bs h =
    let all = ap gathered (take_all 8 bs (omega arith)) in
    let first = gathered_suc bs 0 (omega arith) in
    let second = gathered_suc bs 1 (omega arith) in
    let third = gathered_suc bs 2 (omega arith) in
    let fourth = gathered_suc bs 3 (omega arith) in
    let fifth = gathered_suc bs 4 (omega arith) in
    let sixth = gathered_suc bs 5 (omega arith) in
    let seventh = gathered_suc bs 6 (omega arith) in
    let eighth = gathered_suc bs 7 (omega arith) in
    omega arith

-- the library's bytes of the word of nibbles, exchanged, are those that pack them
pub packed : (w : ℕ) → w < 2 ^ 64 → to_le_bytes w64 (bit_and w (lows 8) * 16 + bit_and (w / 16) (lows 8)) ≡ packs (row 16 w)
packed w fits =
    let bs = packs (row 16 w) in
    let long = packs_length 8 (row 16 w) (row_length 16 w) in
    let back = exchanged_back 8 (row 16 w) (row_below 16 w) (row_length 16 w) in
    let same : bit_and (word (row 16 w)) (lows 8) * 16 + bit_and (word (row 16 w) / 16) (lows 8) ≡ bit_and w (lows 8) * 16 + bit_and (w / 16) (lows 8) = ap (λ (x : ℕ). bit_and x (lows 8) * 16 + bit_and (x / 16) (lows 8)) (word_back w fits) in
    le_bytes_8 bs _ long (λ i. below_at 256 bs i (lit< tt) (packs_below (row 16 w) (row_below 16 w))) (sym same ∙ back ∙ from_gathered bs long)
