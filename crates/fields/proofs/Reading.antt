-- What fields that were read say of the command: each was found, and they go on inside it.
-- Assumes nothing.
use Prim.Native.Nat.{ℕ, ◌+◌, ◌≤◌}
use native.Mathlib.Omega.{arith}
use mathlib.Core.Path.{◌≡◌, refl, sym, ap}
use mathlib.Core.List.{List}
use mathlib.Core.Bool.{Bool, true, false, cond}
use lib.ListN.{length, drop, length-drop}
use lib.Dec.{leb}
use borrow.Author.Tests.{leb-true}
use Rattle.alphabet.specs.declared.Class.TheVariants.{Printable}
use Rattle.numbers.specs.Numbers.{done, refused}
use Rattle.numbers.specs.declared.Refusal.TheVariants.{Field15}
use Rattle.numbers.proofs.Laws.{value_of_lem}
use Rattle.fields.specs.Fields.{Found, Stage, read, faulty, field, fielded, onward, ruled, run, marked, behind, trailer, at_most}
use Rattle.fields.proofs.Laws.{run_found}

-- what was found behind a character was found before it
pub behind_done : {A : Type 0} (o : Found A) (a : A) (n : ℕ) → behind 1 o ≡ done (a, n) → (m : ℕ) × (o ≡ done (a, m)) × (n ≡ 1 + m)
behind_done {A} (done (b, m)) a n e = let w = value_of_lem e in (m, ap (λ (x : A). done (x, m)) (ap (λ (r : A × ℕ). r.0) w), sym (ap (λ (r : A × ℕ). r.1) w))
behind_done (refused q) a n e = absurd (let z : ◌≡◌ {A = ℕ} 0 1 = cc in omega arith)

-- ---- fields and stages that were read

fielded_read : {A B : Type 0} (k at : ℕ) (o : Found A) (next : A → ℕ → Stage B) (b : B) (past : ℕ) → fielded k at o next ≡ read b past → (a : A) × (n : ℕ) × (o ≡ done (a, n)) × (next a (at + n) ≡ read b past)
fielded_read k at (done r) next b past e = (r.0, r.1, refl, e)
fielded_read k at (refused q) next b past e = absurd (let z : ◌≡◌ {A = ℕ} 0 1 = cc in omega arith)

-- a chain that was read passed its first field
pub field_read : {A B : Type 0} (k : ℕ) (reader : List ℕ → Found A) (s : List ℕ) (at : ℕ) (next : A → ℕ → Stage B) (b : B) (past : ℕ) → field k reader s at next ≡ read b past → (a : A) × (n : ℕ) × (reader (drop at s) ≡ done (a, n)) × (next a (at + n) ≡ read b past)
field_read k reader s at next b past e = fielded_read k at (reader (drop at s)) next b past e

-- and its first stage
pub onward_read : {A B : Type 0} (stage : Stage A) (next : A → ℕ → Stage B) (b : B) (past : ℕ) → onward stage next ≡ read b past → (a : A) × (at : ℕ) × (stage ≡ read a at) × (next a at ≡ read b past)
onward_read (read a at) next b past e = (a, at, refl, e)
onward_read (faulty f) next b past e = absurd (let z : ◌≡◌ {A = ℕ} 0 1 = cc in omega arith)

-- what was ruled was read
pub ruled_read : {A : Type 0} (stage : Stage A) (a : A) → ruled stage ≡ done a → (past : ℕ) × (stage ≡ read a past)
ruled_read (read b past) a e = (past, ap (λ (x : _). read x past) (value_of_lem e))
ruled_read (faulty f) a e = absurd (let z : ◌≡◌ {A = ℕ} 0 1 = cc in omega arith)

pub read_once : {A : Type 0} {a b : A} {m n : ℕ} → read a m ≡ read b n → (a ≡ b) × (m ≡ n)
read_once e = (cc, cc)

-- what is read goes on inside the command
pub inside : (s : List ℕ) (at n : ℕ) → 1 ≤ n → n ≤ length (drop at s) → at + n ≤ length s
inside s at n h l = omega (arith, length-drop at s)

pub inside_from : (s : List ℕ) (at n : ℕ) → at ≤ length s → n ≤ length (drop at s) → at + n ≤ length s
inside_from s at n h l = omega (arith, length-drop at s)

-- a trailer has its mark and at most 32 characters
pub trailer_33 : (cs : List ℕ) (v n : ℕ) → trailer cs ≡ done (v, n) → n ≤ 33
unfolding trailer
trailer_33 cs v n e = by_mark (marked 0x19 cs) e where
  short : (m : ℕ) → at_most 32 m ≤ 32
  short m = by_test (leb m 32) refl where
    by_test : (b : Bool) → leb m 32 ≡ b → cond b m 32 ≤ 32
    by_test true h = leb-true m 32 h
    by_test false h = omega arith

  by_mark : (there : Bool) → cond there (behind 1 (run Printable Field15 Field15 (at_most 32 (length (drop 1 cs))) (drop 1 cs))) (done (0, 0)) ≡ done (v, n) → n ≤ 33
  by_mark true h =
      let r = behind_done (run Printable Field15 Field15 (at_most 32 (length (drop 1 cs))) (drop 1 cs)) v n h in
      let found = run_found Printable Field15 Field15 (at_most 32 (length (drop 1 cs))) (drop 1 cs) v r.0 r.1 in
      let s = short (length (drop 1 cs)) in
      omega (arith, r.2, found.1)
  by_mark false h = let z : 0 ≡ n = ap (λ (x : ℕ × ℕ). x.1) (value_of_lem h) in omega arith
