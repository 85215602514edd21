-- An offset's text, place by place.
-- Assumes nothing.
use Prim.Native.Nat.{ℕ, ◌+◌, ◌-◌, ◌≤◌}
use native.Mathlib.Omega.{arith}
use mathlib.Core.Path.{◌≡◌, ap₂, ◌∙◌}
use mathlib.Core.List.{List}
use lib.ListN.{length, take, replicate, length-map, length-append, length-replicate}
use lib.Seq.{take_at}
use Rattle.alphabet.specs.Alphabet.{characters}
use Rattle.offsettexts.specs.OffsetTexts.{offset_text}

-- ---- the offset's text

module _ (ds : List ℕ) (short : length ds ≤ 12) where
  pub text_length : length (offset_text ds) ≡ 12
  text_length =
      length-append (characters ds) (replicate (12 - length ds) 0x46)
      ∙ ap₂ (λ (a b : ℕ). a + b) (length-map ds (λ d. 0x30 + d)) (length-replicate (12 - length ds) 0x46) ∙ omega arith

  pub text_head : take (length ds) (offset_text ds) ≡ characters ds
  text_head = take_at (characters ds) (replicate (12 - length ds) 0x46) (length ds) (length-map ds (λ d. 0x30 + d))
