-- What the code's subkeys come to.
-- Assumes nothing.
use Prim.Native.Nat.{ℕ}
use mathlib.Core.Path.{◌≡◌, refl, ◌∙◌, ap, sym}
use mathlib.Core.List.{List}
use Rattle.words.specs.Words.{spelled}
use Rattle.fips46.specs.Fips46.{KS}
use Rattle.ciphers.specs.declared.Way.{Way}
use Rattle.ciphers.specs.declared.Way.TheVariants.{Encipher, Decipher}
use Rattle.ciphers.specs.Ciphers.{key_at, third_at, des_word, triple_word, computed_once, computed_thrice}

-- one computation by the subkeys of a key
pub once_is_des : (way : Way) (key block ks : List ℕ) (w : ℕ) → ks ≡ KS (spelled key) → w ≡ spelled block → computed_once way ks w ≡ des_word way key block
once_is_des way key block ks w e ew =
    ap (λ (k : List ℕ). computed_once way k w) e ∙ ap (λ (x : ℕ). computed_once way (KS (spelled key)) x) ew ∙ either way
  where
    either : (v : Way) → computed_once v (KS (spelled key)) (spelled block) ≡ des_word v key block
    either Encipher = refl
    either Decipher = refl

-- three computations by the subkeys of the three keys, whose third stands at place n
module _ (way : Way) (key block k1 k2 k3 : List ℕ) (n w : ℕ) where
  pub thrice_is_triple : third_at key ≡ n → k1 ≡ KS (key_at key 0) → k2 ≡ KS (key_at key 8) → k3 ≡ KS (key_at key n) → w ≡ spelled block
      → computed_thrice way k1 k2 k3 w ≡ triple_word way key block
  thrice_is_triple e e1 e2 e3 ew =
      ap (λ (k : List ℕ). computed_thrice way k k2 k3 w) e1
      ∙ ap (λ (k : List ℕ). computed_thrice way (KS (key_at key 0)) k k3 w) e2
      ∙ ap (λ (k : List ℕ). computed_thrice way (KS (key_at key 0)) (KS (key_at key 8)) k w) (e3 ∙ ap (λ (m : ℕ). KS (key_at key m)) (sym e))
      ∙ ap (λ (x : ℕ). computed_thrice way (KS (key_at key 0)) (KS (key_at key 8)) (KS (key_at key (third_at key))) x) ew
      ∙ either way
    where
      either : (v : Way) → computed_thrice v (KS (key_at key 0)) (KS (key_at key 8)) (KS (key_at key (third_at key))) (spelled block) ≡ triple_word v key block
      either Encipher = refl
      either Decipher = refl
