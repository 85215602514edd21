-- The boxes joined with P, box by box, are the cipher function: P goes with the exclusive or, and the boxes' four bits do not meet.
-- Assumes nothing.
use Prim.Native.Nat.{ℕ, ◌+◌, ◌*◌, ◌^◌, ◌<◌, ◌≤◌}
use native.Mathlib.Omega.{arith}
use native.Mathlib.Nat.{mul-one}
use mathlib.Core.Path.{◌≡◌, ◌∙◌, ap, ap₂, sym, subst}
use lib.Bits.{bit_xor, xor_shifted}
use Rattle.bits.specs.Select.{select}
use Rattle.bits.proofs.Linear.{itself, selects}
use Rattle.fips46.specs.Fips46.{E, P, S, B, f}
use Rattle.fips46.specs.Rows.{InRow}
use Rattle.sboxes.specs.Permuted.{permuted}
use Rattle.cipherfunction.specs.Windows.{edged, window}
use Rattle.cipherfunction.proofs.Windows.{window_is_B}

-- P of a box's four bits and of those behind them, apart
apart : (k a rest : ℕ) → rest < 2 ^ k → select 32 P (a * 2 ^ k + rest) ≡ bit_xor (select 32 P (a * 2 ^ k)) (select 32 P rest)
apart k a rest h = ap (λ (x : ℕ). select 32 P x) (sym (xor_shifted a k rest h)) ∙ (selects 32 P itself).sums (a * 2 ^ k) rest

spread : (a1 a2 a3 a4 a5 a6 a7 a8 : ℕ) → a2 < 16 → a3 < 16 → a4 < 16 → a5 < 16 → a6 < 16 → a7 < 16 → a8 < 16
    → select 32 P (a1 * 2 ^ 28 + (a2 * 2 ^ 24 + (a3 * 2 ^ 20 + (a4 * 2 ^ 16 + (a5 * 2 ^ 12 + (a6 * 2 ^ 8 + (a7 * 2 ^ 4 + a8)))))))
    ≡ bit_xor (select 32 P (a1 * 2 ^ 28)) (bit_xor (select 32 P (a2 * 2 ^ 24)) (bit_xor (select 32 P (a3 * 2 ^ 20)) (bit_xor (select 32 P (a4 * 2 ^ 16)) (bit_xor (select 32 P (a5 * 2 ^ 12)) (bit_xor (select 32 P (a6 * 2 ^ 8)) (bit_xor (select 32 P (a7 * 2 ^ 4)) (select 32 P (a8 * 2 ^ 0))))))))
spread a1 a2 a3 a4 a5 a6 a7 a8 h2 h3 h4 h5 h6 h7 h8 =
    apart 28 a1 (a2 * 2 ^ 24 + (a3 * 2 ^ 20 + (a4 * 2 ^ 16 + (a5 * 2 ^ 12 + (a6 * 2 ^ 8 + (a7 * 2 ^ 4 + a8)))))) (omega arith)
    ∙ behind (a1 * 2 ^ 28) (apart 24 a2 (a3 * 2 ^ 20 + (a4 * 2 ^ 16 + (a5 * 2 ^ 12 + (a6 * 2 ^ 8 + (a7 * 2 ^ 4 + a8))))) (omega arith)
    ∙ behind (a2 * 2 ^ 24) (apart 20 a3 (a4 * 2 ^ 16 + (a5 * 2 ^ 12 + (a6 * 2 ^ 8 + (a7 * 2 ^ 4 + a8)))) (omega arith)
    ∙ behind (a3 * 2 ^ 20) (apart 16 a4 (a5 * 2 ^ 12 + (a6 * 2 ^ 8 + (a7 * 2 ^ 4 + a8))) (omega arith)
    ∙ behind (a4 * 2 ^ 16) (apart 12 a5 (a6 * 2 ^ 8 + (a7 * 2 ^ 4 + a8)) (omega arith)
    ∙ behind (a5 * 2 ^ 12) (apart 8 a6 (a7 * 2 ^ 4 + a8) (omega arith)
    ∙ behind (a6 * 2 ^ 8) (apart 4 a7 a8 (omega arith)
    ∙ behind (a7 * 2 ^ 4) (ap (λ (x : ℕ). select 32 P x) (sym (mul-one a8)))))))))
  where
    behind : (a : ℕ) {x y : ℕ} → x ≡ y → bit_xor (select 32 P a) x ≡ bit_xor (select 32 P a) y
    behind a e = ap (λ (z : ℕ). bit_xor (select 32 P a) z) e

-- what the code has of box n: the word, and what its row promises of the box's number
abbrev pub Boxed : ℕ → ℕ → ℕ → ℕ → Type 0
Boxed n y k x = (x ≡ permuted n (window n y k)) × InRow n (window n y k)

-- both at the block of "K ⊕ E(R)"
module _ (r k y : ℕ) (b : r < 2 ^ 32) (e : y ≡ edged r) where
  given : (n : ℕ) → 1 ≤ n → n ≤ 8 → window n y k ≡ B n (bit_xor (select 32 E r) k)
  given n h l = ap (λ (z : ℕ). window n z k) e ∙ window_is_B n r k h l b

  word_at : (n x : ℕ) → 1 ≤ n → n ≤ 8 → Boxed n y k x → x ≡ permuted n (B n (bit_xor (select 32 E r) k))
  word_at n x h l p = p.0 ∙ ap (permuted n) (given n h l)

  four_at : (n x : ℕ) → 1 ≤ n → n ≤ 8 → Boxed n y k x → S n (B n (bit_xor (select 32 E r) k)) < 16
  four_at n x h l p = subst (λ (z : ℕ). S n z < 16) (given n h l) p.1.four

  -- the eight words make the cipher function
  pub f_is : (x1 x2 x3 x4 x5 x6 x7 x8 : ℕ) → Boxed 1 y k x1 → Boxed 2 y k x2 → Boxed 3 y k x3 → Boxed 4 y k x4 → Boxed 5 y k x5
      → Boxed 6 y k x6 → Boxed 7 y k x7 → Boxed 8 y k x8
      → bit_xor x1 (bit_xor x2 (bit_xor x3 (bit_xor x4 (bit_xor x5 (bit_xor x6 (bit_xor x7 x8)))))) ≡ f r k
  unfolding f permuted
  f_is x1 x2 x3 x4 x5 x6 x7 x8 p1 p2 p3 p4 p5 p6 p7 p8 =
      let w : ℕ = bit_xor (select 32 E r) k in
      ap₂ bit_xor (word_at 1 x1 (omega arith) (omega arith) p1)
      (ap₂ bit_xor (word_at 2 x2 (omega arith) (omega arith) p2)
      (ap₂ bit_xor (word_at 3 x3 (omega arith) (omega arith) p3)
      (ap₂ bit_xor (word_at 4 x4 (omega arith) (omega arith) p4)
      (ap₂ bit_xor (word_at 5 x5 (omega arith) (omega arith) p5)
      (ap₂ bit_xor (word_at 6 x6 (omega arith) (omega arith) p6)
      (ap₂ bit_xor (word_at 7 x7 (omega arith) (omega arith) p7)
      (word_at 8 x8 (omega arith) (omega arith) p8)))))))
      ∙ sym (spread (S 1 (B 1 w)) (S 2 (B 2 w)) (S 3 (B 3 w)) (S 4 (B 4 w)) (S 5 (B 5 w)) (S 6 (B 6 w)) (S 7 (B 7 w)) (S 8 (B 8 w))
      (four_at 2 x2 (omega arith) (omega arith) p2) (four_at 3 x3 (omega arith) (omega arith) p3) (four_at 4 x4 (omega arith) (omega arith) p4)
      (four_at 5 x5 (omega arith) (omega arith) p5) (four_at 6 x6 (omega arith) (omega arith) p6) (four_at 7 x7 (omega arith) (omega arith) p7)
      (four_at 8 x8 (omega arith) (omega arith) p8))
