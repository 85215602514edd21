-- Permuted choice 2 as the code holds it.
use Rattle.std.specs.Prelude.{ℕ, List}
use Rattle.bits.specs.Select.{select}
use Rattle.bits.specs.Nibbled.{nibbled}
use Rattle.fips46.specs.Fips46.{PC2}

-- what it makes of each nibble of the 56 bits
unfoldable pub choices : List ℕ
choices = nibbled (select 56 PC2) 14
