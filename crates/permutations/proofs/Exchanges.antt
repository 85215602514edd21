-- The exchanges make the permutations: a test at each of the 64 words of one bit.
-- Assumes nothing.
use mathlib.Core.Path.{◌≡◌, refl}
use mathlib.Core.Bool.{true}
use Prim.Native.Nat.{ℕ, ◌^◌, ◌<◌}
use Rattle.bits.specs.Select.{select}
use Rattle.bits.specs.Exchange.{exchanged}
use Rattle.bits.proofs.Linear.{Linear, itself, selects, exchanges, xored, left, right, low, agree, at_each_bit}
use Rattle.fips46.specs.Fips46.{IP, IP⁻¹, PC1}
use Rattle.permutations.specs.Exchanges.{onward, back, flip, arranged}

onward_test : at_each_bit onward (select 64 IP) 64 ≡ true
unfolding onward exchanged at_each_bit select IP
onward_test = refl

back_test : at_each_bit back (select 64 IP⁻¹) 64 ≡ true
unfolding back exchanged at_each_bit select IP⁻¹
back_test = refl

choice_test : at_each_bit (λ w. arranged (flip w)) (select 64 PC1) 64 ≡ true
unfolding arranged flip exchanged at_each_bit select PC1
choice_test = refl

onward_linear : Linear onward
unfolding onward
onward_linear = exchanges 36 0x0F0F0F0F (exchanges 3 0x1111111111111111 (exchanges 15 0x0000AAAA0000AAAA (exchanges 6 0x00CC00CC00CC00CC (exchanges 3 0x0A0A0A0A0A0A0A0A itself))))

back_linear : Linear back
unfolding back
back_linear = exchanges 3 0x0A0A0A0A0A0A0A0A (exchanges 6 0x00CC00CC00CC00CC (exchanges 15 0x0000AAAA0000AAAA (exchanges 3 0x1111111111111111 (exchanges 36 0x0F0F0F0F itself))))

flip_linear : Linear flip
unfolding flip
flip_linear = exchanges 36 0x0F0F0F0F (exchanges 18 0x0000333300003333 (exchanges 9 0x0055005500550055 itself))

choice_linear : Linear (λ w. arranged (flip w))
unfolding arranged
choice_linear =
    xored (xored (xored (xored (xored (left 48 (low 8 flip_linear))
    (left 40 (low 8 (right 8 flip_linear)))) (left 32 (low 8 (right 16 flip_linear)))) (left 28 (low 4 (right 28 flip_linear)))) (left 4 (low 24 (right 32 flip_linear)))) (low 4 (right 24 flip_linear))

pub onward_is_IP : (w : ℕ) → w < 2 ^ 64 → onward w ≡ select 64 IP w
onward_is_IP = agree onward (select 64 IP) onward_linear (selects 64 IP itself) 64 onward_test

pub back_is_IP⁻¹ : (w : ℕ) → w < 2 ^ 64 → back w ≡ select 64 IP⁻¹ w
back_is_IP⁻¹ = agree back (select 64 IP⁻¹) back_linear (selects 64 IP⁻¹ itself) 64 back_test

pub choice_is_PC1 : (w : ℕ) → w < 2 ^ 64 → arranged (flip w) ≡ select 64 PC1 w
choice_is_PC1 = agree (λ w. arranged (flip w)) (select 64 PC1) choice_linear (selects 64 PC1 itself) 64 choice_test
