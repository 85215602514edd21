-- Each row of each box holds every value once: from the test over the 512 numbers.
-- Assumes nothing.
use Prim.Native.Nat.{ℕ, zero, suc, ◌<◌}
use native.Mathlib.Nat.{zero-add}
use native.Mathlib.Omega.{arith}
use mathlib.Core.Path.{◌≡◌, refl, ◌∙◌, ap, ap₂, sym}
use mathlib.Core.Bool.{Bool, true, false}
use mathlib.Core.List.{List, [], ◌∷◌}
use lib.Dec.{eqb}
use lib.ListN.{length, get_or}
use borrow.Author.Tests.{eqb-true, eqb-false}
use Rattle.fips46.specs.Fips46.{row_of, i_of, j_of, S}
use Rattle.fips46.specs.Rows.{count}
use Rattle.fips46.proofs.Rows.{row_long, row_once}
use Rattle.claims_ciphers.specs.Rows.{six_bits, RowsHoldEach}

-- ---- what is counted once stands at one place

none : (v : ℕ) (row : List ℕ) → count v row ≡ 0 → (k : ℕ) → k < length row → get_or row k 0 ≡ v → ⊥
none v [] c k h e = omega arith
none v (x ∷ xs) c k h e = by (eqb x v) refl (λ c j l f. none v xs c j l f) k h e
  where
    by : (b : Bool) → eqb x v ≡ b → (count v xs ≡ 0 → (j : ℕ) → j < length xs → get_or xs j 0 ≡ v → ⊥)
        → (j : ℕ) → j < length (x ∷ xs) → get_or (x ∷ xs) j 0 ≡ v → ⊥
    by true t behind j h e = let z = rw t at c in omega arith
    by false t behind zero h e = eqb-false x v t e
    by false t behind (suc j) h e = behind (simp (t, zero-add) at c) j (omega arith) e

record Once (v : ℕ) (row : List ℕ) : Type 0 where
  pub place : ℕ
  pub inside : place < length row
  pub holds : get_or row place 0 ≡ v
  pub alone : (k : ℕ) → k < length row → get_or row k 0 ≡ v → k ≡ place

once : (v : ℕ) (row : List ℕ) → count v row ≡ 1 → Once v row
once v [] c = absurd (omega arith)
once v (x ∷ xs) c = by (eqb x v) refl (λ d. once v xs d)
  where
    behind : count v xs ≡ 0 → (k : ℕ) → k < length (x ∷ xs) → get_or (x ∷ xs) k 0 ≡ v → k ≡ 0
    behind c zero h e = refl
    behind c (suc k) h e = absurd (none v xs c k (omega arith) e)

    further : (x ≡ v → ⊥) → (o : Once v xs) (k : ℕ) → k < length (x ∷ xs) → get_or (x ∷ xs) k 0 ≡ v → k ≡ suc o.place
    further n o zero h e = absurd (n e)
    further n o (suc k) h e = ap suc (o.alone k (omega arith) e)

    by : (b : Bool) → eqb x v ≡ b → (count v xs ≡ 1 → Once v xs) → Once v (x ∷ xs)
    by true t rest =
        let z : count v xs ≡ 0 = (let y = rw t at c in omega arith) in
        record { place = 0; inside = omega arith; holds = eqb-true x v t; alone = behind z }
    by false t rest =
        let o : Once v xs = rest (simp (t, zero-add) at c) in
        record { place = suc o.place; inside = (let h = o.inside in omega arith); holds = o.holds; alone = further (eqb-false x v t) o }

-- ---- a box's row

row_bits : (i j : ℕ) → i < 4 → j < 16 → i_of (six_bits i j) ≡ i
row_bits zero j hi hj = omega arith
row_bits (suc zero) j hi hj = omega arith
row_bits (suc (suc zero)) j hi hj = omega arith
row_bits (suc (suc (suc zero))) j hi hj = omega arith
row_bits (suc (suc (suc (suc i)))) j hi hj = absurd (omega arith)

at_six_bits : (n i j : ℕ) → i < 4 → j < 16 → S n (six_bits i j) ≡ get_or (row_of n i) j 0
unfolding S
at_six_bits n i j hi hj =
    let column : j_of (six_bits i j) ≡ j = omega arith in
    ap₂ (λ (r c : ℕ). get_or (row_of n r) c 0) (row_bits i j hi hj) column

pub rows_hold_each : RowsHoldEach
rows_hold_each n i v h k hi hv =
    let o : Once v (row_of n i) = once v (row_of n i) (row_once n i h k hi v hv) in
    let long : length (row_of n i) ≡ 16 = row_long n i h k hi in
    let inside : o.place < 16 = (let p = o.inside in omega arith) in
    record {
      column = o.place;
      inside = inside;
      holds = at_six_bits n i o.place hi inside ∙ o.holds;
      alone = λ j hj e. o.alone j (omega arith) (sym (at_six_bits n i j hi hj) ∙ e);
    }
