-- What the table's cells have in common, format by format and fill by fill.
-- Assumes nothing.
use Prim.Native.Nat.{ℕ, ◌+◌, ◌-◌, ◌%◌, ◌<◌}
use native.Mathlib.Omega.{arith}
use mathlib.Core.Path.{◌≡◌, refl, ap₂}
use mathlib.Core.List.{List, [], ◌∷◌, map}
use mathlib.Core.Bool.{true}
use lib.ListN.{length}
use Rattle.nibbles.specs.Nibbles.{within, every}
use Rattle.nibbles.proofs.Lists.{and_left, and_right}
use Rattle.nibbles.proofs.Runs.{inside, inside_high, inside_low}
use Rattle.formats.specs.Formats.{lead_of, fill_of, fits, filled}
use Rattle.formats.specs.declared.Format.{Format}
use Rattle.formats.specs.declared.Format.TheVariants.{F01, F03, F05, F34, F35, F47}
use Rattle.formats.specs.declared.Fill.{Fill}
use Rattle.formats.specs.declared.Fill.TheVariants.{F, AToF, Any}
use Rattle.claims_blocks.proofs.Rows.{Ends}

-- a fill nibble that is written is read as one
pub filled_fits : (k : Fill) (n : ℕ) → within 0 15 n ≡ true → fits k (filled k n) ≡ true
filled_fits F n h = refl
filled_fits AToF n h = inside 10 15 (10 + n % 6) (omega arith) (omega arith)
filled_fits Any n h = h

-- where nothing leads, F is written behind the digits
pub fill_ends : (f : Format) (ns : List ℕ) → 0 < length ns → Ends (lead_of f) (map (filled (fill_of f)) ns)
fill_ends f [] h = absurd (omega arith)
fill_ends F01 (n ∷ ns) h = tt
fill_ends F03 (n ∷ ns) h = refl
fill_ends F05 (n ∷ ns) h = tt
fill_ends F34 (n ∷ ns) h = tt
fill_ends F35 (n ∷ ns) h = tt
fill_ends F47 (n ∷ ns) h = tt

-- a nibble of the fill that is written as this fill nibble
abbrev pub unfilled : Fill → ℕ → ℕ
unfilled F n = n
unfilled AToF n = n - 10
unfilled Any n = n

filled_again : (k : Fill) (n : ℕ) → fits k n ≡ true → filled k (unfilled k n) ≡ n
filled_again F n h = omega (arith, inside_low 15 15 n h, inside_high 15 15 n h)
filled_again AToF n h = omega (arith, inside_low 10 15 n h, inside_high 10 15 n h)
filled_again Any n h = refl

pub unfilled_nibble : (k : Fill) (n : ℕ) → within 0 15 n ≡ true → within 0 15 (unfilled k n) ≡ true
unfilled_nibble F n h = h
unfilled_nibble AToF n h = inside 0 15 (n - 10) (omega arith) (omega (arith, inside_high 0 15 n h))
unfilled_nibble Any n h = h

-- fill that is read is written again
pub refilled : (k : Fill) (ns : List ℕ) → every (fits k) ns ≡ true → map (filled k) (map (unfilled k) ns) ≡ ns
unfolding every
refilled k [] h = refl
refilled k (n ∷ ns) h =
    ap₂ (λ (x : ℕ) (xs : List ℕ). x ∷ xs) (filled_again k n (and_left (fits k n) (every (fits k) ns) h))
    (refilled k ns (and_right (fits k n) (every (fits k) ns) h))
