-- The code's numbers, and what they have for a word.
-- Assumes nothing.
use mathlib.Core.Path.{◌≡◌, refl, ◌∙◌, ap}
use Prim.Native.Nat.{ℕ, ◌^◌, ◌<◌}
use Rattle.bits.specs.Select.{select}
use Rattle.bits.specs.Nibbled.{from, nibbled, looked}
use Rattle.bits.proofs.Linear.{selects, itself}
use Rattle.bits.proofs.Nibbled.{looked_is}
use Rattle.fips46.specs.Fips46.{PC2}
use Rattle.keyschedule.specs.declared.TheConstants.{CHOICES}
use Rattle.keyschedule.specs.Choices.{choices}

-- they are what permuted choice 2 makes of each nibble: all 224 are made anew
pub all_are_choices : CHOICES ≡ choices
unfolding choices nibbled from select PC2
all_are_choices = refl

pub looked_in_choices : (w : ℕ) → w < 2 ^ 56 → looked CHOICES 14 w ≡ select 56 PC2 w
unfolding choices
looked_in_choices w h = ap (λ s. looked s 14 w) all_are_choices ∙ looked_is (select 56 PC2) (selects 56 PC2 itself) 14 w h
