-- The two parts of an offset's characters: digits at the beginning, and a fill of nothing but F.
-- Assumes nothing.
use Prim.Native.Nat.{ℕ, zero, suc}
use native.Mathlib.Omega.{arith}
use mathlib.Core.Path.{◌≡◌, refl, ap₂}
use mathlib.Core.List.{List, [], ◌∷◌}
use mathlib.Core.Bool.{Bool, true, false, cond}
use lib.ListN.{length, replicate}
use Rattle.nibbles.specs.Nibbles.{within, every, leading}
use Rattle.nibbles.proofs.Lists.{and_left, and_right}
use Rattle.nibbles.proofs.Runs.{inside_low, inside_high}
use Rattle.alphabet.specs.Alphabet.{admits, all_of}
use Rattle.alphabet.specs.declared.Class.{Class}

-- the characters of a class at the beginning are of the class
pub leading_all : (k : Class) (cs : List ℕ) → all_of k (leading (admits k) cs) ≡ true
unfolding leading all_of
leading_all k [] = refl
leading_all k (c ∷ cs) = go (leading_all k cs) (admits k c) refl
  where
    go : all_of k (leading (admits k) cs) ≡ true → (b : Bool) → admits k c ≡ b → all_of k (cond b (c ∷ leading (admits k) cs) []) ≡ true
    go h true e = rw e h
    go h false e = refl

-- so many F are F
pub filled : (k : ℕ) → every (within 0x46 0x46) (replicate k 0x46) ≡ true
unfolding every
filled zero = refl
filled (suc k) = filled k

-- and what is F is so many
pub only_f : (cs : List ℕ) → every (within 0x46 0x46) cs ≡ true → cs ≡ replicate (length cs) 0x46
unfolding every
only_f [] e = refl
only_f (c ∷ cs) e =
    let w = and_left (within 0x46 0x46 c) (every (within 0x46 0x46) cs) e in
    ap₂ (λ (x : ℕ) (xs : List ℕ). x ∷ xs) (omega (arith, inside_low 0x46 0x46 c w, inside_high 0x46 0x46 c w))
    (only_f cs (and_right (within 0x46 0x46 c) (every (within 0x46 0x46) cs) e))
