-- The version and the length of a key block. A reader, over the characters ahead.
use Rattle.std.specs.Prelude.{ℕ, ◌+◌, ◌*◌, List, ◌&&◌, get_or, leb}
use Rattle.nibbles.specs.Nibbles.{within}
use Rattle.alphabet.specs.Alphabet.{value_of}
use Rattle.alphabet.specs.declared.Class.TheVariants.{Digit}
use Rattle.numbers.specs.Numbers.{and_then, unless}
use Rattle.numbers.specs.declared.Refusal.TheVariants.{Field15, Key26}
use Rattle.fields.specs.Fields.{Found, run, two_digits}

-- the length that a key block says it has, "counted from the version byte"
abbrev pub said_length : List ℕ → ℕ
said_length cs = two_digits 1 cs * 100 + two_digits 3 cs

-- "its five version and length characters come next": "version 0 or 1, four digits of length, 0016 to
-- 0512, counted from the version byte (else 26)"
unfoldable pub block_length : List ℕ → Found ℕ
block_length cs =
    and_then (run Digit Field15 Key26 5 cs)
    (λ _. unless Key26 (leb (value_of (get_or cs 0 0)) 1 && within 16 512 (said_length cs)) (said_length cs, 5))
