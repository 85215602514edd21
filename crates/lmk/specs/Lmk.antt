-- LMK ids. A reader, over the characters ahead.
use Rattle.std.specs.Prelude.{ℕ, List, Bool, true, false, cond, drop, eqb, Option, Some, None}
use Rattle.numbers.specs.Numbers.{done, and_then}
use Rattle.numbers.specs.declared.Refusal.TheVariants.{Field15}
use Rattle.fields.specs.Fields.{Found, number, marked, behind}

-- `%`
abbrev pub lmk_mark : ℕ
lmk_mark = 0x25

-- "Optional % and LMK id 00 to 09"
unfoldable pub lmk_field : List ℕ → Found (Option ℕ)
lmk_field cs =
    cond (marked lmk_mark cs)
    (behind 1 (and_then (number 0 9 Field15 (drop 1 cs)) (λ id. done (Some id.0, id.1))))
    (done (None, 0))

-- two LMK ids agree where one is not there, or both are the same
abbrev pub agree : Option ℕ → Option ℕ → Bool
agree None b = true
agree (Some m) None = true
agree (Some m) (Some n) = eqb m n

-- whether an LMK id is there
abbrev pub present : Option ℕ → Bool
present None = false
present (Some n) = true
