-- "The BK command, field after field".
use Rattle.std.specs.Prelude.{ℕ, List, Bool}
use Rattle.fields.specs.Fields.{Stage, read, onward}
use Rattle.uses.specs.Uses.{pin_key, pvk}
use Rattle.keyfields.specs.KeyFields.{keys}
use Rattle.sealed.specs.Sealed.{sealed}
use Rattle.offsetting.specs.Offsetting.{offsetting}
use Rattle.weaklist.specs.WeakList.{weak}
use Rattle.endings.specs.Endings.{end}
use Rattle.bkfields.specs.declared.Bk.{Bk}

-- the weak list's mark: "ours is the semicolon"
abbrev pub weak_mark : ℕ
weak_mark = 0x3B

-- the fields behind the command code, from the left
unfoldable pub bk_fields : Bool → List ℕ → ℕ → Stage Bk
bk_fields restricted s at₁ =
    onward (keys 1 pin_key pvk s at₁)
    (λ ks at₄. onward (sealed 4 restricted s at₄)
    (λ block at₆. onward (offsetting 6 s at₆)
    (λ inputs at₁₀. onward (weak 10 weak_mark s at₁₀)
    (λ pins at₁₁. onward (end 11 ks s at₁₁)
    (λ mark past. read (record { sealed = block; offsetting = inputs; weak = pins; trailer = mark }) past)))))
