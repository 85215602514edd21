-- The parity bits, the last of each byte of a key, are not among those that permuted choice 1 selects: a test at each of the 64 words
-- of one bit.
-- Assumes nothing.
use mathlib.Core.Path.{◌≡◌, refl, ◌∙◌, ap, sym}
use mathlib.Core.Bool.{true}
use Prim.Native.Nat.{ℕ, ◌/◌, ◌%◌, ◌^◌, ◌<◌}
use lib.Bits.{bit_and}
use Rattle.bits.specs.Select.{select}
use Rattle.bits.proofs.Linear.{itself, masked, selects, agree, at_each_bit}
use Rattle.fips46.specs.Fips46.{PC1, shifts, scheduled, KS}

-- all bits but those
abbrev pub others : ℕ
others = 0xFEFEFEFEFEFEFEFE

others_test : at_each_bit (select 64 PC1) (λ x. select 64 PC1 (bit_and x others)) 64 ≡ true
unfolding PC1 at_each_bit select
others_test = refl

chosen_from_others : (key : ℕ) → key < 2 ^ 64 → select 64 PC1 key ≡ select 64 PC1 (bit_and key others)
chosen_from_others = agree (select 64 PC1) (λ x. select 64 PC1 (bit_and x others)) (selects 64 PC1 itself) (selects 64 PC1 (masked others itself)) 64 others_test

-- keys that agree in the other bits have the same blocks of key bits
pub KS-alike : (key key' : ℕ) → key < 2 ^ 64 → key' < 2 ^ 64 → bit_and key others ≡ bit_and key' others → KS key ≡ KS key'
unfolding KS
KS-alike key key' h h' e =
    ap (λ (x : ℕ). scheduled shifts (x / 2 ^ 28) (x % 2 ^ 28))
    (chosen_from_others key h ∙ ap (select 64 PC1) e ∙ sym (chosen_from_others key' h'))
