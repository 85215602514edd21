-- Laws of rows of nibbles and the words that hold them, each over every length.
-- Assumes nothing.
use Prim.Native.Nat.{ℕ, zero, suc, ◌+◌, ◌-◌, ◌*◌, ◌/◌, ◌%◌, ◌^◌, ◌≤◌, ◌<◌}
use native.Mathlib.Nat.{mod-lt, mod-eq_of_lt, pow-suc, le_of_suc-le-suc, not-suc-le-zero, div-div-eq-div-mul, div-add-mod', pow-le-pow_right, lt_of_lt_of_le, mul_comm, mul_assoc, one-mul, zero-add, suc-add}
use native.Mathlib.Omega.{arith}
use mathlib.Core.Path.{◌≡◌, refl, sym, ap, ap₂, ◌∙◌, subst}
use mathlib.Core.List.{List, [], ◌∷◌, ◌++◌}
use lib.ListN.{length, get_or, take, drop, length-drop}
use lib.Seq.{drop-cons, slice, drop-length}
use lib.Dec.{lit<}
use lib.Pow.{pow-add, shl_exact}
use lib.Arith.{digits_div, digits_mod, digits_lt, mod-mul, bin_ind}
use lib.Bits.{bit_xor, xor_shr, xor_mod, xor_zero_l, xor_self, xor_step, differ}
use Rattle.nibbles.specs.Nibbles.{xors, word, row}
use Rattle.nibbles.proofs.Lists.{Below, below_at, below_drop}

pub row_length : (k w : ℕ) → length (row k w) ≡ k
unfolding row
row_length zero w = refl
row_length (suc k) w = ap suc (row_length k (w / 16))

pub row_below : (k w : ℕ) → Below 16 (row k w)
unfolding row
row_below zero w = tt
row_below (suc k) w = (mod-lt w (lit< tt), row_below k (w / 16))

pub row_word : (ns : List ℕ) → Below 16 ns → row (length ns) (word ns) ≡ ns
unfolding row word
row_word [] b = refl
row_word (n ∷ ns) b =
    ap₂ (λ (x : ℕ) (xs : List ℕ). x ∷ xs) (digits_mod (word ns) b.0)
    (ap (row (length ns)) (digits_div (word ns) b.0) ∙ row_word ns b.1)

pub sixteens : (k : ℕ) → 0 < 16 ^ k
sixteens zero = lit< tt
sixteens (suc k) = rw (pow-suc 16 k) (let h = sixteens k in omega arith)

pub word_row : (k w : ℕ) → word (row k w) ≡ w % 16 ^ k
unfolding row word
word_row zero w = omega arith
word_row (suc k) w = rw (word_row k (w / 16), pow-suc 16 k) (sym (mod-mul w (sixteens k) (lit< tt)))

-- a row of k nibbles is below 16 to the k
pub word_lt : (ns : List ℕ) → Below 16 ns → word ns < 16 ^ length ns
unfolding word
word_lt [] b = lit< tt
word_lt (n ∷ ns) b = rw (pow-suc 16 (length ns)) (digits_lt (word_lt ns b.1) b.0)

-- so does a shorter row
pub word_under : (k : ℕ) (ns : List ℕ) → Below 16 ns → length ns ≤ k → word ns < 16 ^ k
word_under k ns b h = lt_of_lt_of_le (word_lt ns b) (pow-le-pow_right (lit< tt) h)

-- a row of at most sixteen nibbles fits a word of 64 bits
pub word_fits : (ns : List ℕ) → Below 16 ns → length ns ≤ 16 → word ns < 2 ^ 64
word_fits ns b h = word_under 16 ns b h

-- a word of 64 bits is the word of its row
pub word_back : (w : ℕ) → w < 2 ^ 64 → word (row 16 w) ≡ w
word_back w h = word_row 16 w ∙ mod-eq_of_lt h

-- rows of one length are the same exactly where their words are
pub same_word : (xs ys : List ℕ) → Below 16 xs → Below 16 ys → length xs ≡ length ys → word xs ≡ word ys → xs ≡ ys
same_word xs ys b c l e = sym (row_word xs b) ∙ ap₂ row l e ∙ row_word ys c

-- ---- a part of a row

pub row_take : (n k w : ℕ) → n ≤ k → take n (row k w) ≡ row n w
unfolding row
row_take zero k w h = refl
row_take (suc n) zero w h = absurd (not-suc-le-zero h)
row_take (suc n) (suc k) w h = ap (λ (xs : List ℕ). w % 16 ∷ xs) (row_take n k (w / 16) (le_of_suc-le-suc h))

over_one_more : (j w : ℕ) → w / 16 / 16 ^ j ≡ w / 16 ^ suc j
over_one_more j w = div-div-eq-div-mul w 16 (16 ^ j) ∙ ap (λ (x : ℕ). w / x) (mul_comm 16 (16 ^ j) ∙ sym (pow-suc 16 j))

pub row_drop : (j k w : ℕ) → drop j (row (j + k) w) ≡ row k (w / 16 ^ j)
unfolding row
row_drop zero k w = rw (zero-add k) (ap (row k) (omega arith))
row_drop (suc j) k w = rw (suc-add j k) (row_drop j k (w / 16) ∙ ap (row k) (over_one_more j w))

-- the n nibbles from a place on are those of the word shifted there
pub row_part : (k from n w : ℕ) → from + n ≤ k → slice from (from + n) (row k w) ≡ row n (w / 16 ^ from)
row_part k from n w h = ap (drop from) (row_take (from + n) k w h) ∙ row_drop from n w

pub row_at : (k w i : ℕ) → i < k → get_or (row k w) i 0 ≡ w / 16 ^ i % 16
unfolding row
row_at zero w i h = absurd (not-suc-le-zero h)
row_at (suc k) w zero h = ap (λ (x : ℕ). x % 16) (omega arith)
row_at (suc k) w (suc i) h = row_at k (w / 16) i (le_of_suc-le-suc h) ∙ ap (λ (x : ℕ). x % 16) (over_one_more i w)

pub row_at_lt : (w i : ℕ) → get_or (row 16 w) i 0 < 16
row_at_lt w i = below_at 16 (row 16 w) i (lit< tt) (row_below 16 w)

pub row_at_less : (n w i : ℕ) → i < n → n ≤ 16 → get_or (row 16 w) i 0 ≡ get_or (row n w) i 0
row_at_less n w i p q = row_at 16 w i (omega arith) ∙ sym (row_at n w i p)

-- ---- rows one behind the other

pub word_append : (xs ys : List ℕ) → word (xs ++ ys) ≡ word ys * 16 ^ length xs + word xs
unfolding word
word_append [] ys = omega arith
word_append (x ∷ xs) ys = rw (word_append xs ys, pow-suc 16 (length xs), ← mul_assoc (word ys) (16 ^ length xs) 16) (omega arith)

-- a shift by four places for each nibble
pub sixteen_power : (i : ℕ) → 2 ^ (4 * i) ≡ 16 ^ i
sixteen_power zero = refl
sixteen_power (suc i) = ap (λ (k : ℕ). 2 ^ k) (omega arith) ∙ pow-add 2 (4 * i) 4 ∙ ap (λ (x : ℕ). x * 16) (sixteen_power i) ∙ sym (pow-suc 16 i)

pub one_shifted : (n : ℕ) → n < 16 → (1 * 2 ^ (4 * n)) % 2 ^ 64 ≡ 16 ^ n
one_shifted n h = shl_exact 1 (4 * n) 64 (lit< tt) (omega arith) ∙ one-mul (2 ^ (4 * n)) ∙ sixteen_power n

pub word_join : (head n tail : ℕ) → n < 16 → tail < 16 ^ (16 - n) → (tail * 2 ^ (4 * n)) % 2 ^ 64 ≡ tail * 16 ^ n
word_join head n tail h t =
    shl_exact (4 * (16 - n)) (4 * n) 64 (rw (sixteen_power (16 - n)) t) (omega arith) ∙ ap (λ (x : ℕ). tail * x) (sixteen_power n)

pub word_join_fits : (head n tail : ℕ) → n < 16 → head < 16 ^ n → tail < 16 ^ (16 - n) → tail * 16 ^ n + head < 2 ^ 64
word_join_fits head n tail h p q =
    let s : 16 - n + n ≡ 16 = omega arith in
    subst (λ (x : ℕ). tail * 16 ^ n + head < x) (sym (pow-add 16 (16 - n) n) ∙ ap (λ (k : ℕ). 16 ^ k) s) (digits_lt q p)

module _ (xs : List ℕ) (i w : ℕ) (some : 0 < i) (here : i ≤ length xs) (e : w ≡ word (drop i xs)) where
  -- a row from its place i on, with the nibble before it in front
  pub word_next : w * 16 + get_or xs (i - 1) 0 ≡ word (drop (i - 1) xs)
  unfolding word
  word_next =
      let s : suc (i - 1) ≡ i = omega arith in
      sym (ap word (drop-cons xs (i - 1) 0 (omega arith)) ∙ ap (λ (k : ℕ). word (drop k xs) * 16 + get_or xs (i - 1) 0) s
      ∙ ap (λ (x : ℕ). x * 16 + get_or xs (i - 1) 0) (sym e))

  pub word_room : Below 16 xs → length xs ≤ 16 → w * 16 + get_or xs (i - 1) 0 < 2 ^ 64
  word_room b h = rw word_next (word_fits (drop (i - 1) xs) (below_drop 16 (i - 1) xs b) (rw (length-drop (i - 1) xs) (omega arith)))

pub word_none : (xs : List ℕ) → 0 ≡ word (drop (length xs) xs)
unfolding word
word_none xs = rw (drop-length xs) refl

-- ---- XOR

pub row_xor : (k a b : ℕ) → row k (bit_xor a b) ≡ xors (row k a) (row k b)
unfolding row xors
row_xor zero a b = refl
row_xor (suc k) a b =
    ap₂ (λ (x : ℕ) (xs : List ℕ). x ∷ xs) (xor_mod a b 4) (ap (row k) (xor_shr a b 4) ∙ row_xor k (a / 16) (b / 16))

differ_lt : (x y : ℕ) → x < 2 → y < 2 → differ x y < 2
differ_lt zero y h k = k
differ_lt (suc x) zero h k = h
differ_lt (suc zero) (suc zero) h k = lit< tt
differ_lt (suc (suc x)) (suc y) h k = absurd (omega arith)
differ_lt (suc zero) (suc (suc y)) h k = absurd (omega arith)

differ_twice : (x y : ℕ) → x < 2 → y < 2 → differ (differ x y) y ≡ x
differ_twice zero zero h k = refl
differ_twice zero (suc zero) h k = refl
differ_twice (suc zero) zero h k = refl
differ_twice (suc zero) (suc zero) h k = refl
differ_twice zero (suc (suc y)) h k = absurd (omega arith)
differ_twice (suc zero) (suc (suc y)) h k = absurd (omega arith)
differ_twice (suc (suc x)) zero h k = absurd (omega arith)
differ_twice (suc (suc x)) (suc y) h k = absurd (omega arith)

pub xor_twice : (a b : ℕ) → bit_xor (bit_xor a b) b ≡ a
xor_twice =
    bin_ind (λ (n : ℕ). (b : ℕ) → bit_xor (bit_xor n b) b ≡ n) (λ b. ap (λ (x : ℕ). bit_xor x b) (xor_zero_l b) ∙ xor_self b)
    (λ n ih b.
    let x : ℕ = bit_xor (n / 2) (b / 2) in
    let d : ℕ = differ (n % 2) (b % 2) in
    let small : d < 2 = differ_lt (n % 2) (b % 2) (mod-lt n (lit< tt)) (mod-lt b (lit< tt)) in
    ap (λ (y : ℕ). bit_xor y b) (xor_step n b) ∙ xor_step (x * 2 + d) b
    ∙ ap₂ (λ (y z : ℕ). y * 2 + z) (ap (λ (y : ℕ). bit_xor y (b / 2)) (digits_div x small) ∙ ih (b / 2))
    (ap (λ (y : ℕ). differ y (b % 2)) (digits_mod x small) ∙ differ_twice (n % 2) (b % 2) (mod-lt n (lit< tt)) (mod-lt b (lit< tt)))
    ∙ div-add-mod' n 2)

pub xors_twice : (xs ys : List ℕ) → length xs ≡ length ys → xors (xors xs ys) ys ≡ xs
unfolding xors
xors_twice [] ys e = refl
xors_twice (x ∷ xs) [] e = absurd (omega arith)
xors_twice (x ∷ xs) (y ∷ ys) e = ap₂ (λ (n : ℕ) (ns : List ℕ). n ∷ ns) (xor_twice x y) (xors_twice xs ys (omega arith))
