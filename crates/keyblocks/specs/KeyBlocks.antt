-- Key blocks, from the version byte on. A reader, over the characters ahead.
use Rattle.std.specs.Prelude.{ℕ, ◌+◌, ◌-◌, List, drop, Option, Some}
use Rattle.alphabet.specs.declared.Class.TheVariants.{Printable}
use Rattle.numbers.specs.Numbers.{done, and_then, unless}
use Rattle.numbers.specs.declared.Refusal.TheVariants.{Field15, Use29}
use Rattle.fields.specs.Fields.{Found, run, number}
use Rattle.uses.specs.Uses.{permits}
use Rattle.uses.specs.declared.Use.{Use}
use Rattle.keylengths.specs.KeyLengths.{block_length}

-- a key block, from its version byte: "then printable characters to that length (else 15)". "Otherwise 29, judged before the LMK id
-- (15)", which is bytes 14-15
unfoldable pub key_block : Use → List ℕ → Found (Option ℕ)
key_block for cs =
    and_then (block_length cs)
    (λ said. and_then (run Printable Field15 Field15 (said.0 - 5) (drop 5 cs))
    (λ rest. and_then (unless Use29 (permits for cs) cs)
    (λ _. and_then (number 0 9 Field15 (drop 14 cs))
    (λ id. done (Some id.0, 5 + rest.1)))))
