-- An offset that a finish came to is as long as it should be.
-- Assumes nothing.
use Prim.Native.Nat.{ℕ, ◌-◌, ◌≤◌}
use native.Mathlib.Omega.{arith}
use mathlib.Core.Path.{◌≡◌, subst}
use mathlib.Core.List.{List}
use mathlib.Core.Bool.{Bool, not}
use lib.ListN.{length, length-map, length-drop}
use Rattle.nibbles.proofs.Lists.{Below}
use Rattle.numbers.specs.Numbers.{done}
use Rattle.numbers.specs.declared.Refusal.TheVariants.{Weak86}
use Rattle.numbers.proofs.Laws.{then_done, passed, value_of_lem}
use Rattle.pins.specs.Pins.{last_of}
use Rattle.ibm3624.specs.Ibm3624.{covers, covered, offset_of, modulo_ten}
use Rattle.ibm3624.proofs.Laws.{differences_length, reduced_below}
use Rattle.offsets.specs.Offsets.{offset_for}
use Rattle.weak.specs.Weak.{is_on, weak_pins}
use Rattle.pairing.specs.Pairing.{pair_at}
use Rattle.pairing.proofs.Laws as pairing
use Rattle.bkfinish.specs.BkFinish.{bk_finish}
use Rattle.bkfields.specs.Answers.{Placed}
use Rattle.bkfields.specs.declared.Bk.{Bk}

-- an offset that was made of a PIN and a natural PIN of one length is no longer than the PIN, and has digits
offset_within :
    (variable : Bool) (check : ℕ) (pair : List ℕ × List ℕ) (ds : List ℕ) → length pair.1 ≡ length pair.0 → offset_for variable check pair ≡ done ds
    → (length ds ≤ length pair.0) × Below 10 ds
offset_within variable check pair ds alike e =
    let t = then_done (covers variable check (length pair.0)) _ ds e in
    let whole : offset_of t.0 pair.0 pair.1 ≡ ds = value_of_lem t.2 in
    (subst (λ (os : List ℕ). length os ≤ length pair.0) whole (short t.0 pair.0 pair.1 alike), subst (Below 10) whole (reduced_below (covered t.0 pair.0 pair.1)))
  where
    last : (m : ℕ) (ps : List ℕ) → length (last_of m ps) ≡ length ps - (length ps - m)
    last m ps = length-drop (length ps - m) ps

    short : (m : ℕ) (ps qs : List ℕ) → length qs ≡ length ps → length (offset_of m ps qs) ≤ length ps
    short m ps qs l =
        let a = last m ps in
        let b = last m qs in
        let d = differences_length (last_of m ps) (last_of m qs) (omega arith) in
        let n = length-map (covered m ps qs) modulo_ten in
        omega arith

-- a finish that came to an offset: at most twelve digits
pub finish_within :
    (variable : Bool) (s : List ℕ) (p : Bk) (rows : List ℕ × List ℕ) (ds : List ℕ) → Placed s p → length rows.0 ≡ 16 → length rows.1 ≡ 16
    → bk_finish variable s p rows ≡ done ds → (length ds ≤ 12) × Below 10 ds
unfolding bk_finish
finish_within variable s p rows ds inside b c e =
    let n = then_done (pair_at s p.sealed p.offsetting rows) _ ds e in
    let o = then_done (offset_for variable p.offsetting.check n.0) _ ds n.2 in
    let same = (passed Weak86 (not (is_on n.0.0 (weak_pins p.weak s))) o.0 ds o.2).1 in
    let fit = pairing.pair_within s p.offsetting inside.offsetting p.sealed rows b c n.0 n.1 in
    let w = offset_within variable p.offsetting.check n.0 o.0 fit.4 o.1 in
    (subst (λ (os : List ℕ). length os ≤ 12) same (omega (arith, w.0, fit.1)), subst (Below 10) same w.1)
