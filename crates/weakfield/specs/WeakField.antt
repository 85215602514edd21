-- "10. Optional ;, weak count, and when that is not 00 their length 04 to 12 (else 15) and the list".
use Rattle.std.specs.Prelude.{ℕ, ◌+◌, ◌*◌, List, cond, drop, eqb}
use Rattle.alphabet.specs.declared.Class.TheVariants.{Digit}
use Rattle.numbers.specs.Numbers.{done, and_then}
use Rattle.numbers.specs.declared.Refusal.TheVariants.{WeakList03, Field15}
use Rattle.fields.specs.Fields.{Found, run, number, marked, behind}
use Rattle.weak.specs.declared.Weak.{Weak}

-- no weak PINs
abbrev pub none_at : ℕ → Weak
none_at at = record { count = 0; length = 0; list = at }

-- behind the count: nothing where it is 00; else the length, 04 to 12 (15), and as many digits as count times length (03)
unfoldable pub listed : ℕ → ℕ → List ℕ → Found Weak
listed at count cs =
    cond (eqb count 0) (done (none_at at, 0))
    (and_then (number 4 12 Field15 cs)
    (λ each. and_then (run Digit WeakList03 WeakList03 (count * each.0) (drop 2 cs))
    (λ digits. done (record { count = count; length = each.0; list = at + 2 }, 2 + digits.1))))

-- the field that begins at a place: "weak PIN count not two digits" is 03; the mark and the count are three characters
unfoldable pub weak_field : ℕ → ℕ → List ℕ → Found Weak
weak_field mark at cs =
    cond (marked mark cs)
    (and_then (number 0 99 WeakList03 (drop 1 cs)) (λ count. behind 3 (listed (at + 3) count.0 (drop 3 cs))))
    (done (none_at at, 0))
