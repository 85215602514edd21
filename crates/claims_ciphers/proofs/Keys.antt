-- Triple DES by what DES makes under each key.
-- Assumes nothing.
use Prim.Native.Nat.{ℕ}
use native.Mathlib.Omega.{arith}
use mathlib.Core.Path.{◌≡◌, refl, ◌∙◌, ap, sym}
use mathlib.Core.Bool.{cond}
use mathlib.Core.List.{List, ◌++◌, append_assoc, reverse}
use lib.Dec.{ltb}
use lib.ListN.{length, take, drop, length-append, length-drop}
use lib.Seq.{take_all, take_at, drop_at, drop-drop, take-append-le, drop-append-le, length-take-le}
use Rattle.fips46.specs.Fips46.{KS, computed}
use Rattle.fips46.proofs.Undo.{computed_lt}
use Rattle.words.specs.Words.{spelled, in_bytes}
use Rattle.ciphers.specs.Ciphers.{key_at, third_at, des_block, triple_word, triple_block, computed_thrice}
use Rattle.ciphers.specs.declared.Way.{Way}
use Rattle.ciphers.specs.declared.Way.TheVariants.{Encipher, Decipher}
use Rattle.ciphers.proofs.Laws.{thrice_is_triple}
use Rattle.claims_ciphers.specs.Keys.{three, OneAfterTheOther, FirstAgain, TwoAlike, OneKey}
use Rattle.claims_ciphers.proofs.Undone.{word_back, made_block, des_undone}

-- ---- where the third key stands

pub third_of_16 : (key : List ℕ) → length key ≡ 16 → third_at key ≡ 0
third_of_16 key h = ap (λ (n : ℕ). cond (ltb n 24) 0 16) h

pub third_of_24 : (key : List ℕ) → length key ≡ 24 → third_at key ≡ 16
third_of_24 key h = ap (λ (n : ℕ). cond (ltb n 24) 0 16) h

-- keys whose three parts have the same subkeys, wherever the third stands, cipher alike
pub ciphers_alike : (way : Way) (key key' block : List ℕ) (n n' : ℕ) → third_at key ≡ n → third_at key' ≡ n'
    → KS (key_at key 0) ≡ KS (key_at key' 0) → KS (key_at key 8) ≡ KS (key_at key' 8) → KS (key_at key n) ≡ KS (key_at key' n')
    → triple_block way key block ≡ triple_block way key' block
ciphers_alike way key key' block n n' at at' e1 e2 e3 =
    let k1 : List ℕ = KS (key_at key 0) in
    let k2 : List ℕ = KS (key_at key 8) in
    let k3 : List ℕ = KS (key_at key n) in
    ap (in_bytes 8)
    (sym (thrice_is_triple way key block k1 k2 k3 n (spelled block) at refl refl refl refl)
    ∙ thrice_is_triple way key' block k1 k2 k3 n' (spelled block) at' e1 e2 e3 refl)

-- ---- three keys of eight bytes

module _ (k1 k2 k3 : List ℕ) (l1 : length k1 ≡ 8) (l2 : length k2 ≡ 8) (l3 : length k3 ≡ 8) where
  key_of_24 : length (three k1 k2 k3) ≡ 24
  key_of_24 = simp (length-append) (omega arith)

  first : take 8 (three k1 k2 k3) ≡ k1
  first = take_at k1 (k2 ++ k3) 8 l1

  second : take 8 (drop 8 (three k1 k2 k3)) ≡ k2
  second = ap (take 8) (drop_at k1 (k2 ++ k3) 8 l1) ∙ take_at k2 k3 8 l2

  third : take 8 (drop 16 (three k1 k2 k3)) ≡ k3
  third = ap (take 8) (sym (drop-drop 8 8 (three k1 k2 k3)) ∙ ap (drop 8) (drop_at k1 (k2 ++ k3) 8 l1) ∙ drop_at k2 k3 8 l2) ∙ take_all 8 k3 (omega arith)

  -- the computation by their subkeys
  by_subkeys : (way : Way) (block : List ℕ) → triple_word way (three k1 k2 k3) block ≡ computed_thrice way (KS (spelled k1)) (KS (spelled k2)) (KS (spelled k3)) (spelled block)
  by_subkeys way block =
      sym (thrice_is_triple way (three k1 k2 k3) block (KS (spelled k1)) (KS (spelled k2)) (KS (spelled k3)) 16 (spelled block)
      (third_of_24 (three k1 k2 k3) key_of_24)
      (ap (λ (k : List ℕ). KS (spelled k)) (sym first))
      (ap (λ (k : List ℕ). KS (spelled k)) (sym second))
      (ap (λ (k : List ℕ). KS (spelled k)) (sym third))
      refl)

-- between two computations a word goes through its bytes
on_end : (ks₁ ks₂ ks₃ : List ℕ) (w : ℕ)
    → in_bytes 8 (computed ks₃ (computed ks₂ (computed ks₁ w))) ≡ in_bytes 8 (computed ks₃ (spelled (in_bytes 8 (computed ks₂ (spelled (in_bytes 8 (computed ks₁ w)))))))
on_end ks₁ ks₂ ks₃ w =
    sym (ap (λ (x : ℕ). in_bytes 8 (computed ks₃ (spelled (in_bytes 8 (computed ks₂ x))))) (word_back (computed ks₁ w) (computed_lt ks₁ w))
    ∙ ap (λ (x : ℕ). in_bytes 8 (computed ks₃ x)) (word_back (computed ks₂ (computed ks₁ w)) (computed_lt ks₂ (computed ks₁ w))))

pub one_after_the_other : OneAfterTheOther
one_after_the_other k1 k2 k3 block l1 l2 l3 =
    let s1 : List ℕ = KS (spelled k1) in
    let s2 : List ℕ = KS (spelled k2) in
    let s3 : List ℕ = KS (spelled k3) in (
      ap (in_bytes 8) (by_subkeys k1 k2 k3 l1 l2 l3 Encipher block) ∙ on_end s1 (reverse s2) s3 (spelled block),
      ap (in_bytes 8) (by_subkeys k1 k2 k3 l1 l2 l3 Decipher block) ∙ on_end (reverse s3) s2 (reverse s1) (spelled block),
    )

-- ---- two keys

pub first_again : FirstAgain
first_again way key block l =
    let again : List ℕ = key ++ take 8 key in
    let eight : length (take 8 key) ≡ 8 = length-take-le 8 key (omega arith) in
    let long : length again ≡ 24 = simp (length-append, eight) (omega arith) in
    let at-0 : take 8 again ≡ take 8 key = take-append-le 8 key (take 8 key) (omega arith) in
    let at_8 : take 8 (drop 8 again) ≡ take 8 (drop 8 key) =
    ap (take 8) (drop-append-le 8 key (take 8 key) (omega arith)) ∙ take-append-le 8 (drop 8 key) (take 8 key) (simp length-drop (omega arith)) in
    let at-16 : take 8 (drop 16 again) ≡ take 8 key = ap (take 8) (drop_at key (take 8 key) 16 l) ∙ take_all 8 (take 8 key) (omega arith) in
    ciphers_alike way key again block 0 16 (third_of_16 key l) (third_of_24 again long)
    (ap (λ (k : List ℕ). KS (spelled k)) (sym at-0)) (ap (λ (k : List ℕ). KS (spelled k)) (sym at_8)) (ap (λ (k : List ℕ). KS (spelled k)) (sym at-16))

-- ---- keys that are alike

pub two_alike : TwoAlike
two_alike Encipher k1 k2 block l1 l2 is = (
  (one_after_the_other k1 k1 k2 block l1 l1 l2).0 ∙ ap (des_block Encipher k2) (des_undone Encipher k1 block is),
  (one_after_the_other k1 k2 k2 block l1 l2 l2).0 ∙ des_undone Decipher k2 (des_block Encipher k1 block) (made_block _),
)
two_alike Decipher k1 k2 block l1 l2 is = (
  (one_after_the_other k1 k1 k2 block l1 l1 l2).1 ∙ des_undone Encipher k1 (des_block Decipher k2 block) (made_block _),
  (one_after_the_other k1 k2 k2 block l1 l2 l2).1 ∙ ap (des_block Decipher k1) (des_undone Decipher k2 block is),
)

pub one_key : OneKey
one_key way key block l is = (
  (two_alike way key key block l l is).0,
  first_again way (key ++ key) block (simp length-append (omega arith))
      ∙ ap (λ (k : List ℕ). triple_block way k block) (ap (λ (k : List ℕ). (key ++ key) ++ k) (take_at key key 8 l) ∙ append_assoc key key key)
      ∙ (two_alike way key key block l l is).0,
)
