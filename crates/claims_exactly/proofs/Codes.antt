-- The codes of the commands, told by their two bytes.
-- Assumes nothing.
use Prim.Native.Nat.{ℕ}
use mathlib.Core.Path.{◌≡◌, refl, subst}
use mathlib.Core.List.{List, ◌++◌}
use mathlib.Core.Bool.{Bool, true, false, cond}
use Rattle.alphabet.specs.Alphabet.{begins}
use Rattle.frame.specs.Frame.{bk, da, ea, code_of}
use Rattle.frame.specs.declared.Code.{Code}
use Rattle.frame.specs.declared.Code.TheVariants.{Bk, Da, Ea, Other}

-- the bytes that a code is told by; another one has none
abbrev Told : List ℕ → Code → Type 0
Told cs Bk = begins bk cs ≡ true
Told cs Da = begins da cs ≡ true
Told cs Ea = begins ea cs ≡ true
Told cs Other = Unit {0}

pub code_told : (cs : List ℕ) (c : Code) → code_of cs ≡ c → Told cs c
code_told cs c e = subst (Told cs) e (by (begins bk cs) (begins da cs) (begins ea cs) refl refl refl)
  where
    by : (x y z : Bool) → begins bk cs ≡ x → begins da cs ≡ y → begins ea cs ≡ z → Told cs (cond x Bk (cond y Da (cond z Ea Other)))
    by true y z p q r = p
    by false true z p q r = q
    by false false true p q r = r
    by false false false p q r = tt

pub bk_coded : (cs : List ℕ) → code_of (bk ++ cs) ≡ Bk
unfolding begins
bk_coded cs = refl

pub da_coded : (cs : List ℕ) → code_of (da ++ cs) ≡ Da
unfolding begins
da_coded cs = refl

pub ea_coded : (cs : List ℕ) → code_of (ea ++ cs) ≡ Ea
unfolding begins
ea_coded cs = refl
