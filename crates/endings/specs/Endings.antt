-- The end of a command: LMK id, trailer, nothing left over, ids agree. It is told its first field's number, `which`.
use Rattle.std.specs.Prelude.{ℕ, ◌+◌, List, Bool, ◌&&◌, cond, length, leb, Option}
use Rattle.numbers.specs.declared.Refusal.TheVariants.{Field15}
use Rattle.fields.specs.Fields.{Stage, read, faulty, field, trailer}
use Rattle.fields.specs.declared.Fault.{Fault}
use Rattle.lmk.specs.Lmk.{lmk_field, agree, present}
use Rattle.keyfields.specs.declared.Keys.{Keys}

-- "LMK ids present in fields 2, 3 and 11 must all agree"; of DA and EA those in fields 1, 2 and 11
abbrev pub all_agree : Keys → Option ℕ → Bool
all_agree ks own = agree ks.first ks.second && (agree ks.first own && agree ks.second own)

-- the last id that is present: its field's number and place
abbrev pub last_id : Keys → Option ℕ → ℕ → ℕ → Fault
last_id ks own which at =
    cond (present own)
    (record { refusal = Field15; field = which; place = at })
    (record { refusal = Field15; field = ks.field; place = ks.place })

-- "anything left over" is 15: it stands in no field
abbrev pub nothing_over : {A : Type 0} → List ℕ → ℕ → Stage A → Stage A
nothing_over s past next = cond (leb (length s) past) next (faulty (record { refusal = Field15; field = 0; place = past }))

-- "LMK ids present in fields 2, 3 and 11 must all agree, else 15"
abbrev pub ids_agree : {A : Type 0} → Keys → Option ℕ → ℕ → ℕ → Stage A → Stage A
ids_agree ks own which at next = cond (all_agree ks own) next (faulty (last_id ks own which at))

-- what is judged behind the last field: leftovers, then ids
abbrev pub closed : Keys → Option ℕ → ℕ → ℕ → List ℕ → ℕ → ℕ → Stage ℕ
closed ks own which at s mark past = nothing_over s past (ids_agree ks own which at (read mark past))

-- "11. Optional % and LMK id 00 to 09"; "12. Optional byte 19 hex and a trailer". What is read is the place of the trailer's mark: from
-- there on the command is its trailer, with its mark, or nothing
unfoldable pub end : ℕ → Keys → List ℕ → ℕ → Stage ℕ
end which ks s at =
    field which lmk_field s at
    (λ own mark. field (which + 1) trailer s mark
    (λ _ past. closed ks own which at s mark past))
