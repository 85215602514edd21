-- Where the parts of a key block's use stand, and what they come to.
-- Assumes nothing.
use Prim.Native.Nat.{ℕ, ◌+◌}
use native.Mathlib.Omega.{arith}
use mathlib.Core.Path.{◌≡◌, refl, sym, ◌∙◌}
use mathlib.Core.List.{List}
use mathlib.Core.Bool.{Bool, true, false, ◌&&◌}
use lib.ListN.{get_or, drop}
use lib.Seq.{drop-drop, get_or-drop}
use lib.Dec.{eqb}
use Rattle.uses.specs.Uses.{usages_in, begins_one, algorithm_t, modes_in, is_one, permits}
use Rattle.uses.specs.declared.Use.{Use}

-- where the parts of a key block's use stand in the command
pub permits_at : (for : Use) (s : List ℕ) (at : ℕ)
    → (begins_one (usages_in for.usages) (drop (at + 5) s) && (eqb (get_or s (at + 7) 0) algorithm_t && is_one (modes_in for.modes) (get_or s (at + 8) 0))) ≡ permits for (drop at s)
unfolding permits
permits_at for s at = rw (drop-drop 5 at s, get_or-drop at s 7 0, get_or-drop at s 8 0)

-- where the first of two holds, the second decides
pub and_on : (a b : Bool) → a ≡ true → b ≡ (a && b)
and_on a b h = rw h

-- where the first two of three hold, the third decides
pub and_third : (x a b d : Bool) → x ≡ (a && b) → x ≡ true → d ≡ (a && (b && d))
and_third x a b d e h = go a b (sym e ∙ h)
  where
    go : (a b : Bool) → (a && b) ≡ true → d ≡ (a && (b && d))
    go true true k = refl
    go true false k = absurd (let z : ◌≡◌ {A = ℕ} 0 1 = cc in omega arith)
    go false b k = absurd (let z : ◌≡◌ {A = ℕ} 0 1 = cc in omega arith)
