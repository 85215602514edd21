-- What a command that was read holds: its places lie in it.
-- Assumes nothing.
use Prim.Native.Nat.{ℕ, ◌+◌, ◌≤◌}
use mathlib.Core.Path.{◌≡◌, subst}
use mathlib.Core.List.{List}
use mathlib.Core.Bool.{Bool}
use lib.ListN.{length}
use Rattle.fields.specs.Fields.{read}
use Rattle.fields.proofs.Reading.{onward_read, read_once}
use Rattle.uses.specs.Uses.{pin_key, pvk}
use Rattle.weak.specs.declared.Weak.{Weak}
use Rattle.keyfields.specs.KeyFields.{keys}
use Rattle.sealed.specs.Sealed.{sealed}
use Rattle.offsetting.specs.Offsetting.{offsetting}
use Rattle.weaklist.specs.WeakList.{weak}
use Rattle.keyfields.specs.declared.Keys.{Keys}
use Rattle.sealed.specs.declared.Sealed.{Sealed}
use Rattle.offsetting.specs.declared.Offsetting.{Offsetting}
use Rattle.sealed.proofs.Laws.{sealed_held}
use Rattle.offsetting.proofs.Laws.{offsetting_held}
use Rattle.weaklist.proofs.Laws.{weak_held}
use Rattle.endings.specs.Endings.{end}
use Rattle.endings.proofs.Laws.{end_held}
use Rattle.pairing.proofs.Laws.{held_placed}
use Rattle.bkfields.specs.BkFields.{weak_mark, bk_fields}
use Rattle.bkfields.specs.Answers.{Placed}
use Rattle.bkfields.specs.declared.Bk.{Bk}

-- ---- the places

-- from the stages that have any, in their order
laid :
    (s : List ℕ) (ks : Keys) (block : Sealed) (inputs : Offsetting) (pins : Weak) (mark at₆ at₁₀ at₁₁ past : ℕ)
    → offsetting 6 s at₆ ≡ read inputs at₁₀ → weak 10 weak_mark s at₁₀ ≡ read pins at₁₁ → end 11 ks s at₁₁ ≡ read mark past
    → Placed s (record { sealed = block; offsetting = inputs; weak = pins; trailer = mark })
laid s ks block inputs pins mark at₆ at₁₀ at₁₁ past e₆ e₁₀ e₁₁ =
    let held = offsetting_held 6 s at₆ inputs at₁₀ e₆ in
    let listed = weak_held 10 weak_mark s at₁₀ pins at₁₁ e₁₀ held.onward in
    let ended = end_held 11 ks s at₁₁ mark past e₁₁ listed.1 in
    record {
      offsetting = held_placed s inputs at₁₀ held;
      weak = listed.0;
      trailer = ended.0;
      tail = ended.1;
    }

-- a command that was read has its places in it, its table has digits, and its PIN block lies in it too
whole : (restricted : Bool) (s : List ℕ) (at : ℕ) (p : Bk) (past : ℕ) → bk_fields restricted s at ≡ read p past → Placed s p × (p.sealed.block + 16 ≤ length s)
unfolding bk_fields
whole restricted s at p past e =
    let o₁ = onward_read (keys 1 pin_key pvk s at) _ p past e in
    let o₄ = onward_read (sealed 4 restricted s o₁.1) _ p past o₁.3 in
    let o₆ = onward_read (offsetting 6 s o₄.1) _ p past o₄.3 in
    let o₁₀ = onward_read (weak 10 weak_mark s o₆.1) _ p past o₆.3 in
    let o₁₁ = onward_read (end 11 o₁.0 s o₁₀.1) _ p past o₁₀.3 in
    subst (λ (x : Bk). Placed s x × (x.sealed.block + 16 ≤ length s)) (read_once o₁₁.3).0 (
      laid s o₁.0 o₄.0 o₆.0 o₁₀.0 o₁₁.0 o₄.1 o₆.1 o₁₀.1 o₁₁.1 o₆.2 o₁₀.2 o₁₁.2,
      sealed_held 4 restricted s o₁.1 o₄.0 o₄.1 o₄.2,
    )

pub placed : (restricted : Bool) (s : List ℕ) (at : ℕ) (p : Bk) (past : ℕ) → bk_fields restricted s at ≡ read p past → Placed s p
placed restricted s at p past e = (whole restricted s at p past e).0

pub block_placed : (restricted : Bool) (s : List ℕ) (at : ℕ) (p : Bk) (past : ℕ) → bk_fields restricted s at ≡ read p past → p.sealed.block + 16 ≤ length s
block_placed restricted s at p past e = (whole restricted s at p past e).1
