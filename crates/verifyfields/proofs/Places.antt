-- What a DA or an EA that was read holds: its places lie in it.
-- Assumes nothing.
use Prim.Native.Nat.{ℕ, ◌+◌, ◌≤◌}
use native.Mathlib.Omega.{arith}
use mathlib.Core.Path.{◌≡◌, subst}
use mathlib.Core.List.{List}
use lib.ListN.{length, drop}
use Rattle.numbers.specs.Numbers.{done}
use Rattle.fields.specs.Fields.{read}
use Rattle.fields.proofs.Reading.{field_read, onward_read, read_once}
use Rattle.uses.specs.declared.Use.{Use}
use Rattle.sealed.specs.Sealed.{sealed}
use Rattle.offsetting.specs.Offsetting.{offsetting}
use Rattle.keyfields.specs.declared.Keys.{Keys}
use Rattle.sealed.specs.declared.Sealed.{Sealed}
use Rattle.offsetting.specs.declared.Offsetting.{Offsetting}
use Rattle.sealed.proofs.Laws.{sealed_held}
use Rattle.offsetting.proofs.Laws.{offsetting_held}
use Rattle.offsetfield.specs.OffsetField.{offset_field}
use Rattle.offsetfield.proofs.Laws.{offset_held}
use Rattle.endings.specs.Endings.{end}
use Rattle.endings.proofs.Laws.{end_held}
use Rattle.pairing.proofs.Laws.{held_placed}
use Rattle.verifyfields.specs.VerifyFields.{front, restricted, verify_fields}
use Rattle.verifyfields.specs.Answers.{Placed}
use Rattle.verifyfields.specs.declared.Verification.{Verification}

-- from the fields that have any, in their order
laid :
    (s : List ℕ) (ks : Keys) (block : Sealed) (inputs : Offsetting) (digits mark at₆ at₁₀ width past : ℕ)
    → offsetting 6 s at₆ ≡ read inputs at₁₀ → offset_field (drop at₁₀ s) ≡ done (digits, width) → end 11 ks s (at₁₀ + width) ≡ read mark past
    → Placed s (record { sealed = block; offsetting = inputs; offset = at₁₀; digits = digits; trailer = mark })
laid s ks block inputs digits mark at₆ at₁₀ width past e₆ e₁₀ e₁₁ =
    let shown = offset_held s at₁₀ digits width e₁₀ in
    let ended = end_held 11 ks s (at₁₀ + width) mark past e₁₁ (omega (arith, shown.twelve, shown.inside)) in
    record {
      offsetting = held_placed s inputs at₁₀ (offsetting_held 6 s at₆ inputs at₁₀ e₆);
      offset = omega (arith, shown.short, shown.inside);
      short = shown.short;
      digits = shown.digits;
      trailer = ended.0;
      tail = ended.1;
    }

-- a command that was read has its places in it, and its PIN block lies in it too
whole : (pin_key : Use) (s : List ℕ) (at : ℕ) (v : Verification) (past : ℕ) → verify_fields pin_key s at ≡ read v past → Placed s v × (v.sealed.block + 16 ≤ length s)
unfolding verify_fields
whole pin_key s at v past e =
    let o₁ = onward_read (front pin_key s at) _ v past e in
    let o₄ = onward_read (sealed 4 restricted s o₁.1) _ v past o₁.3 in
    let o₆ = onward_read (offsetting 6 s o₄.1) _ v past o₄.3 in
    let o₁₀ = field_read 10 offset_field s o₆.1 _ v past o₆.3 in
    let o₁₁ = onward_read (end 11 o₁.0 s (o₆.1 + o₁₀.1)) _ v past o₁₀.3 in
    subst (λ (x : Verification). Placed s x × (x.sealed.block + 16 ≤ length s)) (read_once o₁₁.3).0 (
      laid s o₁.0 o₄.0 o₆.0 o₁₀.0 o₁₁.0 o₄.1 o₆.1 o₁₀.1 o₁₁.1 o₆.2 o₁₀.2 o₁₁.2,
      sealed_held 4 restricted s o₁.1 o₄.0 o₄.1 o₄.2,
    )

pub placed : (pin_key : Use) (s : List ℕ) (at : ℕ) (v : Verification) (past : ℕ) → verify_fields pin_key s at ≡ read v past → Placed s v
placed pin_key s at v past e = (whole pin_key s at v past e).0

pub block_placed : (pin_key : Use) (s : List ℕ) (at : ℕ) (v : Verification) (past : ℕ) → verify_fields pin_key s at ≡ read v past → v.sealed.block + 16 ≤ length s
block_placed pin_key s at v past e = (whole pin_key s at v past e).1
