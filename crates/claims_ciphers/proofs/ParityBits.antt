-- Parity bits do not enter the ciphers: permuted choice 1 leaves them out of each key.
-- Assumes nothing.
use Prim.Native.Nat.{ℕ, zero, suc, ◌+◌, ◌*◌, ◌/◌, ◌%◌, ◌^◌, ◌<◌, ◌≤◌, min}
use native.Mathlib.Omega.{arith}
use mathlib.Core.Path.{◌≡◌, refl, ◌∙◌, ap, ap₂, sym}
use mathlib.Core.Bool.{Bool, true, false, ◌||◌, false≢true}
use mathlib.Core.List.{List, [], ◌∷◌, map}
use lib.Dec.{eqb, leb}
use lib.ListN.{length, take, drop, replicate, length-map, length-drop, length-replicate}
use lib.Seq.{length-take-le}
use lib.Bits.{bit_and, and_step, and_block}
use borrow.Author.Tests.{eqb-true}
use Rattle.nibbles.proofs.Lists.{Below, below_drop, below_take}
use Rattle.nibbles.proofs.Runs.{every_below}
use Rattle.numbers.specs.Numbers.{done, and_then, unless}
use Rattle.numbers.specs.declared.Refusal.TheVariants.{Field15, Room901}
use Rattle.fips46.specs.Fips46.{KS}
use Rattle.fips46.proofs.ParityBits.{KS-alike}
use Rattle.words.specs.Words.{spelled, in_bytes}
use Rattle.words.proofs.Words.{spelled_lt}
use Rattle.ciphers.specs.Ciphers.{key_at, is_lab_key, des_block, triple_block}
use Rattle.ciphers.specs.declared.Way.{Way}
use Rattle.ciphers.specs.declared.Way.TheVariants.{Encipher}
use Rattle.ciphers.proofs.Laws.{once_is_des}
use Rattle.ciphercalls.specs.CipherCalls.{ciphered, des_call, triple_call, zeros, check_value, key_check}
use Rattle.claims_ciphers.specs.ParityBits.{SameButParity, DesBlind, TripleBlind, CallsBlind}
use Rattle.claims_ciphers.proofs.Keys.{third_of_16, third_of_24, ciphers_alike}

-- ---- bytes and the word that they spell

abbrev halves : List ℕ → List ℕ
halves bs = map (λ b. b / 2) bs

-- the last bit of a byte is not in it once it is masked
byte_alike : (a b : ℕ) → a / 2 ≡ b / 2 → bit_and a 254 ≡ bit_and b 254
byte_alike a b e = and_step a 254 ∙ ap₂ (λ (x y : ℕ). bit_and x 127 * 2 + y) e last ∙ sym (and_step b 254)
  where
    last : min (a % 2) 0 ≡ min (b % 2) 0
    last = omega arith

-- n bytes of seven ones
abbrev ones : ℕ → ℕ
ones n = spelled (replicate n 254)

ones_below : (n : ℕ) → Below 256 (replicate n 254)
ones_below zero = tt
ones_below (suc n) = (omega arith, ones_below n)

ones_lt : (n : ℕ) → ones n < 2 ^ (8 * n)
ones_lt n = rw (length-replicate {A = ℕ} n 254) at (spelled_lt (replicate n 254) (ones_below n))

ones_next : (n : ℕ) → ones (suc n) ≡ 254 * 2 ^ (8 * n) + ones n
unfolding spelled
ones_next n = ap (λ (k : ℕ). 254 * 2 ^ (8 * k) + ones n) (length-replicate n 254)

word_next : (x : ℕ) (xs : List ℕ) → Below 256 xs → bit_and (spelled (x ∷ xs)) (ones (length (x ∷ xs))) ≡ bit_and x 254 * 2 ^ (8 * length xs) + bit_and (spelled xs) (ones (length xs))
unfolding spelled
word_next x xs h = ap (bit_and (x * 2 ^ (8 * length xs) + spelled xs)) (ones_next (length xs)) ∙ and_block (8 * length xs) x 254 (spelled xs) (ones (length xs)) (spelled_lt xs h) (ones_lt (length xs))

word_alike : (a b : List ℕ) → Below 256 a → Below 256 b → halves a ≡ halves b → bit_and (spelled a) (ones (length a)) ≡ bit_and (spelled b) (ones (length b))
word_alike [] [] p q e = refl
word_alike [] (y ∷ ys) p q e = absurd (let z : ◌≡◌ {A = ℕ} 0 1 = cc in omega arith)
word_alike (x ∷ xs) [] p q e = absurd (let z : ◌≡◌ {A = ℕ} 0 1 = cc in omega arith)
word_alike (x ∷ xs) (y ∷ ys) p q e =
    let first : x / 2 ≡ y / 2 = cc in
    let rest : halves xs ≡ halves ys = cc in
    let long : length xs ≡ length ys = sym (length-map xs (λ b. b / 2)) ∙ ap length rest ∙ length-map ys (λ b. b / 2) in
    word_next x xs p.1
    ∙ ap₂ (λ (m w : ℕ). m * 2 ^ (8 * length xs) + w) (byte_alike x y first) (word_alike xs ys p.1 q.1 rest)
    ∙ ap (λ (n : ℕ). bit_and y 254 * 2 ^ (8 * n) + bit_and (spelled ys) (ones (length ys))) long
    ∙ sym (word_next y ys q.1)

-- ---- keys of eight bytes, and those of a lab key

key_alike : (a b : List ℕ) → length a ≡ 8 → Below 256 a → Below 256 b → halves a ≡ halves b → KS (spelled a) ≡ KS (spelled b)
unfolding spelled
key_alike a b l p q e =
    let m : length b ≡ 8 = sym (length-map b (λ x. x / 2)) ∙ ap length (sym e) ∙ length-map a (λ x. x / 2) ∙ l in
    let fits : spelled a < 2 ^ (8 * length a) = spelled_lt a p in
    let fits' : spelled b < 2 ^ (8 * length b) = spelled_lt b q in
    let same : bit_and (spelled a) (ones (length a)) ≡ bit_and (spelled b) (ones (length b)) = word_alike a b p q e in
    KS-alike (spelled a) (spelled b) (rw l at fits) (rw m at fits') (rw (l, m) at same)

-- a part of each
map_take : (f : ℕ → ℕ) (n : ℕ) (xs : List ℕ) → map f (take n xs) ≡ take n (map f xs)
map_take f zero xs = refl
map_take f (suc n) [] = refl
map_take f (suc n) (x ∷ xs) = ap (λ (ys : List ℕ). f x ∷ ys) (map_take f n xs)

map_drop : (f : ℕ → ℕ) (n : ℕ) (xs : List ℕ) → map f (drop n xs) ≡ drop n (map f xs)
map_drop f zero xs = refl
map_drop f (suc n) [] = refl
map_drop f (suc n) (x ∷ xs) = map_drop f n xs

module _ (key key' : List ℕ) (same : SameButParity key key') where
  long : length key ≡ length key'
  long = sym (length-map key (λ b. b / 2)) ∙ ap length same.2 ∙ length-map key' (λ b. b / 2)

  part_alike : (at : ℕ) → at + 8 ≤ length key → KS (key_at key at) ≡ KS (key_at key' at)
  part_alike at h =
      key_alike (take 8 (drop at key)) (take 8 (drop at key')) (length-take-le 8 (drop at key) (simp length-drop (omega arith)))
      (below_take 256 8 (drop at key) (below_drop 256 at key (every_below 255 key same.0)))
      (below_take 256 8 (drop at key') (below_drop 256 at key' (every_below 255 key' same.1)))
      (map_take (λ b. b / 2) 8 (drop at key) ∙ ap (take 8) (map_drop (λ b. b / 2) at key ∙ ap (drop at) same.2 ∙ sym (map_drop (λ b. b / 2) at key')) ∙ sym (map_take (λ b. b / 2) 8 (drop at key')))

  des_alike : (way : Way) (block : List ℕ) → length key ≡ 8 → des_block way key block ≡ des_block way key' block
  des_alike way block l =
      let e : KS (spelled key) ≡ KS (spelled key') = key_alike key key' l (every_below 255 key same.0) (every_below 255 key' same.1) same.2 in
      ap (in_bytes 8) (sym (once_is_des way key block (KS (spelled key)) (spelled block) refl refl) ∙ once_is_des way key' block (KS (spelled key)) (spelled block) e refl)

  triple_alike : (way : Way) (block : List ℕ) → is_lab_key key ≡ true → triple_block way key block ≡ triple_block way key' block
  triple_alike way block h = by (eqb (length key) 16) refl h
    where
      by : (b : Bool) → eqb (length key) 16 ≡ b → (b || eqb (length key) 24) ≡ true → triple_block way key block ≡ triple_block way key' block
      by true e t =
          let l : length key ≡ 16 = eqb-true (length key) 16 e in
          ciphers_alike way key key' block 0 0 (third_of_16 key l) (third_of_16 key' (sym long ∙ l)) (part_alike 0 (omega arith)) (part_alike 8 (omega arith)) (part_alike 0 (omega arith))
      by false e t =
          let l : length key ≡ 24 = eqb-true (length key) 24 t in
          ciphers_alike way key key' block 16 16 (third_of_24 key l) (third_of_24 key' (sym long ∙ l)) (part_alike 0 (omega arith)) (part_alike 8 (omega arith)) (part_alike 16 (omega arith))

pub des_blind : DesBlind
des_blind way key key' block l same = des_alike key key' same way block l

pub triple_blind : TripleBlind
triple_blind way key key' block h same = (triple_alike key key' same way block h, ap (take 3) (triple_alike key key' same Encipher zeros h))

-- ---- the calls: keys of the same length pass the same tests

cipher_blind : (is_key : List ℕ → Bool) (cipher : List ℕ → List ℕ → List ℕ) (key key' block : List ℕ) (room : ℕ) → is_key key ≡ is_key key' → (is_key key ≡ true → cipher key block ≡ cipher key' block)
    → ciphered is_key cipher key block room ≡ ciphered is_key cipher key' block room
cipher_blind is_key cipher key key' block room same alike = by (leb 8 room) (is_key key) refl (is_key key') same (eqb (length block) 8)
  where
    by : (r k : Bool) → is_key key ≡ k → (k' : Bool) → k ≡ k' → (b : Bool)
        → and_then (and_then (unless Room901 r room) (λ _. unless Field15 k key)) (λ x. and_then (unless Field15 b block) (λ y. done (cipher x y)))
        ≡ and_then (and_then (unless Room901 r room) (λ _. unless Field15 k' key')) (λ x. and_then (unless Field15 b block) (λ y. done (cipher x y)))
    by false k t k' e b = refl
    by true false t false e b = refl
    by true false t true e b = absurd (false≢true e)
    by true true t false e b = absurd (false≢true (sym e))
    by true true t true e false = refl
    by true true t true e true = ap done (alike t)

check_blind : (key key' : List ℕ) (room : ℕ) → is_lab_key key ≡ is_lab_key key' → (is_lab_key key ≡ true → check_value key ≡ check_value key') → key_check key room ≡ key_check key' room
unfolding key_check
check_blind key key' room same alike = by (leb 3 room) (is_lab_key key) refl (is_lab_key key') same
  where
    by : (r k : Bool) → is_lab_key key ≡ k → (k' : Bool) → k ≡ k'
        → and_then (and_then (unless Room901 r room) (λ _. unless Field15 k key)) (λ x. done (check_value x))
        ≡ and_then (and_then (unless Room901 r room) (λ _. unless Field15 k' key')) (λ x. done (check_value x))
    by false k t k' e = refl
    by true false t false e = refl
    by true false t true e = absurd (false≢true e)
    by true true t false e = absurd (false≢true (sym e))
    by true true t true e = ap done (alike t)

pub calls_blind : CallsBlind
unfolding des_call triple_call
calls_blind way key key' block room same =
    let l : length key ≡ length key' = long key key' same in
    let lab : is_lab_key key ≡ is_lab_key key' = ap (λ (n : ℕ). eqb n 16 || eqb n 24) l in (
      cipher_blind (λ k. eqb (length k) 8) (des_block way) key key' block room (ap (λ (n : ℕ). eqb n 8) l) (λ t. des_alike key key' same way block (eqb-true (length key) 8 t)),
      cipher_blind is_lab_key (triple_block way) key key' block room lab (triple_alike key key' same way block),
      check_blind key key' room lab (λ t. ap (take 3) (triple_alike key key' same Encipher zeros t)),
    )
