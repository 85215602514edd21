-- The blocks of key bits, one after the other.
-- Assumes nothing.
use mathlib.Core.Path.{◌≡◌, refl, ◌∙◌, ap, ap₂, sym}
use mathlib.Core.Bool.{Bool, true}
use mathlib.Core.List.{List, [], ◌∷◌, ◌++◌, append-nil}
use Prim.Native.Nat.{ℕ, zero, suc, ◌+◌, ◌*◌, ◌^◌, ◌<◌, ◌≤◌}
use native.Mathlib.Omega.{arith}
use lib.Dec.{leb}
use lib.ListN.{length, get_or, take, drop, set}
use lib.Seq.{take-suc-set, drop-cons, take_all, append_snoc}
use borrow.Author.Tests.{leb-true}
use Rattle.nibbles.specs.Nibbles.{every, within}
use Rattle.nibbles.proofs.Lists.{and_left, and_right}
use Rattle.bits.specs.Select.{select}
use Rattle.bits.proofs.Select.{select_lt}
use Rattle.fips46.specs.Fips46.{PC1, PC2, shifts, rotated, scheduled}

-- ---- the shifts are one or two

every_at : (p : ℕ → Bool) (ns : List ℕ) → every p ns ≡ true → (i : ℕ) → i < length ns → p (get_or ns i 0) ≡ true
unfolding every
every_at p [] t i h = absurd (omega arith)
every_at p (n ∷ ns) t zero h = and_left (p n) (every p ns) t
every_at p (n ∷ ns) t (suc i) h = every_at p ns (and_right (p n) (every p ns) t) i (omega arith)

pub shifts_at : (i : ℕ) → i < 16 → (1 ≤ get_or shifts i 0) × (get_or shifts i 0 ≤ 2)
unfolding shifts every
shifts_at i h =
    let n : ℕ = get_or shifts i 0 in
    let t : within 1 2 n ≡ true = every_at (within 1 2) shifts refl i h in
    (leb-true 1 n (and_left (leb 1 n) (leb n 2) t), leb-true n 2 (and_right (leb 1 n) (leb n 2) t))

pub rotated_lt : (n c : ℕ) → c < 2 ^ 28 → 1 ≤ n → n ≤ 2 → rotated n c < 2 ^ 28
rotated_lt zero c h p q = absurd (omega arith)
rotated_lt (suc zero) c h p q = omega arith
rotated_lt (suc (suc zero)) c h p q = omega arith
rotated_lt (suc (suc (suc n))) c h p q = absurd (omega arith)

pub PC1-lt : (key : ℕ) → select 64 PC1 key < 2 ^ 56
unfolding PC1
PC1-lt key = select_lt 64 PC1 key

-- ---- one more is made, over the code's values: those made and those to come are all

module _ (ns ks all : List ℕ) (i c d n c' d' k : ℕ) where
  pub scheduled_next : i < length ns → i < length ks → take i ks ++ scheduled (drop i ns) c d ≡ all
      → n ≡ get_or ns i 0 → c' ≡ rotated n c → d' ≡ rotated n d → k ≡ select 56 PC2 (c' * 2 ^ 28 + d')
      → take (i + 1) (set ks i k) ++ scheduled (drop (i + 1) ns) c' d' ≡ all
  unfolding scheduled
  scheduled_next hn hk e en ec ed ek =
      let m : ℕ = get_or ns i 0 in
      let fc : c' ≡ rotated m c = ec ∙ ap (λ (x : ℕ). rotated x c) en in
      let fd : d' ≡ rotated m d = ed ∙ ap (λ (x : ℕ). rotated x d) en in
      let rest : List ℕ = scheduled (drop (suc i) ns) (rotated m c) (rotated m d) in
      let s : i + 1 ≡ suc i = omega arith in
      ap₂ (λ (x y : ℕ). take (i + 1) (set ks i k) ++ scheduled (drop (i + 1) ns) x y) fc fd
      ∙ ap (λ (x : ℕ). take x (set ks i k) ++ scheduled (drop x ns) (rotated m c) (rotated m d)) s
      ∙ ap (λ (x : List ℕ). x ++ rest) (take-suc-set ks i k hk)
      ∙ append_snoc (take i ks) k rest
      ∙ ap (λ (x : ℕ). take i ks ++ x ∷ rest) (ek ∙ ap₂ (λ (x y : ℕ). select 56 PC2 (x * 2 ^ 28 + y)) fc fd)
      ∙ ap (λ (x : List ℕ). take i ks ++ scheduled x c d) (sym (drop-cons ns i 0 hn))
      ∙ e

pub scheduled_end : (ks all : List ℕ) (i c d : ℕ) → i ≡ 16 → length ks ≡ 16 → take i ks ++ scheduled (drop i shifts) c d ≡ all → ks ≡ all
unfolding scheduled shifts
scheduled_end ks all i c d ei el e =
    let l : length ks ≤ 16 = omega arith in
    sym (ap (λ (m : ℕ). take m ks ++ scheduled (drop m shifts) c d) ei ∙ append-nil (take 16 ks) ∙ take_all 16 ks l) ∙ e
