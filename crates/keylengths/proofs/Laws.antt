-- What the reader of a key block's version and length answers, and what an answer tells of the characters ahead.
-- Assumes nothing.
use Prim.Native.Nat.{ℕ, ◌+◌, ◌*◌, ◌≤◌}
use native.Mathlib.Nat.{add-zero}
use native.Mathlib.Omega.{arith}
use mathlib.Core.Path.{◌≡◌, sym, ap}
use mathlib.Core.List.{List}
use mathlib.Core.Bool.{Bool, true, false, ◌&&◌}
use lib.ListN.{length, get_or, drop}
use lib.Seq.{get_or-drop}
use lib.Dec.{leb}
use borrow.Author.Tests.{le-leb}
use Rattle.nibbles.specs.Nibbles.{within}
use Rattle.nibbles.proofs.Runs.{inside, inside_low, inside_high}
use Rattle.alphabet.specs.Alphabet.{value_of}
use Rattle.alphabet.specs.declared.Class.TheVariants.{Digit}
use Rattle.numbers.specs.Numbers.{done, unless}
use Rattle.numbers.proofs.Laws.{then_done, passed}
use Rattle.numbers.specs.declared.Refusal.TheVariants.{Field15, Key26}
use Rattle.fields.specs.Fields.{run}
use Rattle.fields.proofs.Laws.{run_found, run_read, found_err}
use Rattle.keylengths.specs.KeyLengths.{said_length, block_length}

-- the length that the characters ahead say
pub said_ahead : (s : List ℕ) (at : ℕ)
    → said_length (drop at s) ≡ (value_of (get_or s (at + 1) 0) * 10 + value_of (get_or s (at + 2) 0)) * 100 + (value_of (get_or s (at + 3) 0) * 10 + value_of (get_or s (at + 4) 0))
said_ahead s at = rw (get_or-drop at s 1 0, get_or-drop at s 2 0, get_or-drop at s 3 0, get_or-drop at s 4 0)

-- the version ahead
pub version_ahead : (s : List ℕ) (at : ℕ) → value_of (get_or (drop at s) 0 0) ≡ value_of (get_or s at 0)
version_ahead s at = rw (get_or-drop at s 0 0, add-zero at)

-- what the version and the length go by
pub ruleset length_parts = (version_ahead, run_read, found_err)

module _ (cs : List ℕ) where
  module _ (r : ℕ × ℕ) (e : run Digit Field15 Key26 5 cs ≡ done r) where
    -- the length is there
    pub length_whole : value_of (get_or cs 0 0) ≤ 1 → 16 ≤ said_length cs → said_length cs ≤ 512 → block_length cs ≡ done (said_length cs, 5)
    unfolding block_length
    length_whole v l h = rw (e, le-leb (value_of (get_or cs 0 0)) 1 v, inside 16 512 (said_length cs) l h)

  -- a length that was found is within the limits, and its five characters are there
  pub length_found : (v m : ℕ) → block_length cs ≡ done (v, m) → (v ≡ said_length cs) × (m ≡ 5) × (5 ≤ length cs) × (16 ≤ v) × (v ≤ 512)
  unfolding block_length
  length_found v m e =
      let n = said_length cs in
      let right = leb (value_of (get_or cs 0 0)) 1 && within 16 512 n in
      let t = then_done (run Digit Field15 Key26 5 cs) (λ _. unless Key26 right (n, 5)) (v, m) e in
      let w = passed {A = ℕ × ℕ} Key26 right (n, 5) (v, m) t.2 in
      let f = run_found Digit Field15 Key26 5 cs t.0.0 t.0.1 t.1 in
      let same : n ≡ v = ap (λ (r : ℕ × ℕ). r.0) w.1 in
      let sized = and_right (leb (value_of (get_or cs 0 0)) 1) (within 16 512 n) w.0 in
      let l = inside_low 16 512 n sized in
      let h = inside_high 16 512 n sized in
      (sym same, sym (ap (λ (r : ℕ × ℕ). r.1) w.1), f.2, omega arith, omega arith)
    where
      and_right : (a b : Bool) → (a && b) ≡ true → b ≡ true
      and_right true b h = h
      and_right false b h = absurd (let z : ◌≡◌ {A = ℕ} 0 1 = cc in omega arith)
