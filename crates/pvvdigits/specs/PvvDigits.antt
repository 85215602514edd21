-- "Offset, verdict and PVV": the digits of the ABA PVV.
use Rattle.std.specs.Prelude.{ℕ, ◌-◌, List, [], ◌∷◌, ◌++◌, map, Bool, cond, take}
use Rattle.nibbles.specs.Nibbles.{within}
use Rattle.pins.specs.Pins.{digit}

-- those that pass the test, in their order
unfoldable pub those : (ℕ → Bool) → List ℕ → List ℕ
those p [] = []
those p (x ∷ xs) = cond (p x) (x ∷ those p xs) (those p xs)

-- "the first four nibbles 0 to 9 of the enciphered input, from the left; if fewer, the nibbles A to F, again from the left and less
-- ten, complete it"
unfoldable pub pvv_of : List ℕ → List ℕ
pvv_of ns = take 4 (those digit ns ++ map (λ n. n - 10) (those (within 10 15) ns))
