-- Laws of fixed texts that stand ahead.
-- Assumes nothing.
use Prim.Native.Nat.{ℕ, ◌-◌, ◌≤◌}
use native.Mathlib.Omega.{arith}
use mathlib.Core.Path.{◌≡◌, refl, ap}
use mathlib.Core.List.{List, [], ◌∷◌}
use mathlib.Core.Bool.{Bool, true, false, ◌&&◌}
use lib.ListN.{length, take, drop, length-drop}
use lib.Dec.{eqb}
use Rattle.alphabet.specs.Alphabet.{begins}

-- both hold, so the second does
and_second : (a b : Bool) → (a && b) ≡ true → b ≡ true
and_second true b h = h
and_second false b h = absurd (let z : ◌≡◌ {A = ℕ} 0 1 = cc in omega arith)

-- a text that begins a list is no longer than it
pub begins_long : (ts cs : List ℕ) → begins ts cs ≡ true → length ts ≤ length cs
unfolding begins
begins_long [] cs h = omega arith
begins_long (t ∷ ts) [] h = absurd (let z : ◌≡◌ {A = ℕ} 0 1 = cc in omega arith)
begins_long (t ∷ ts) (c ∷ cs) h = let l = begins_long ts cs (and_second (eqb t c) (begins ts cs) h) in omega arith

-- a text that stands at a place ends with the list or before
pub begins_room : (ts s : List ℕ) (at : ℕ) → begins ts (drop at s) ≡ true → length ts ≤ length s - at
begins_room ts s at h = rw length-drop at (begins_long ts (drop at s) h)

-- whether a text begins a list depends only on as many characters as the text has
pub begins_first : (ts cs : List ℕ) → begins ts (take (length ts) cs) ≡ begins ts cs
unfolding begins
begins_first [] cs = refl
begins_first (t ∷ ts) [] = refl
begins_first (t ∷ ts) (c ∷ cs) = ap (λ (b : Bool). eqb t c && b) (begins_first ts cs)
