-- The offset of a command that presents one: the reader of its field, over the characters ahead.
use Rattle.std.specs.Prelude.{ℕ, List, length, take, leb}
use Rattle.numbers.specs.Numbers.{done, and_then, unless}
use Rattle.numbers.specs.declared.Refusal.TheVariants.{Field15}
use Rattle.offsettexts.specs.OffsetTexts.{offset_presented}
use Rattle.fields.specs.Fields.{Found}

-- "the 12-character offset: 4 to 12 digits, then only F, else 15"; a missing character is judged before a wrong one. Its value is how
-- many digits it has
unfoldable pub offset_field : List ℕ → Found ℕ
offset_field cs =
    and_then (unless Field15 (leb 12 (length cs)) (take 12 cs))
    (λ offset. and_then (offset_presented offset)
    (λ ds. done (length ds, 12)))
