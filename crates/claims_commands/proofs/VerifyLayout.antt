-- DA and EA as they lie around their PIN block, listed once over the use of the PIN key, as BK is.
-- Assumes nothing.
use Prim.Native.Nat.{ℕ}
use native.Mathlib.Omega.{arith}
use mathlib.Core.Path.{refl}
use mathlib.Core.List.{List}
use lib.ListN.{drop}
use Rattle.numbers.specs.declared.Refusal.TheVariants.{Field15}
use Rattle.fields.specs.Fields.{number}
use Rattle.uses.specs.Uses.{verifying_pvk}
use Rattle.uses.specs.declared.Use.{Use}
use Rattle.keys.specs.Keys.{any_letter}
use Rattle.keyfields.specs.declared.Keys.{Keys}
use Rattle.sealed.specs.declared.Sealed.{Sealed}
use Rattle.offsetfield.specs.OffsetField.{offset_field}
use Rattle.verifyfields.specs.VerifyFields.{maximum, front, restricted, verify_fields}
use Rattle.verifyfields.specs.declared.Verification.{Verification}
use Rattle.texts.specs.Exact.{ExactAt}
use Rattle.texts_data.specs.DataWritings.{maxima, offsets}
use Rattle.texts_data.proofs.Maximum.{maximum_exact}
use Rattle.texts_data.proofs.Offsets.{offset_exact}
use Rattle.claims_alike.specs.Alike.{Piece, Layout}
use Rattle.claims_alike.proofs.Pieces.{next, last, field_next, field_last, pair_piece, sealed_piece, inputs_piece, end_piece, whole}
use Rattle.claims_alike.proofs.Sealed.{sealed_passes}

-- what stands before the block: the two keys, and the maximum PIN length
abbrev verify_front : Use → Piece Keys
verify_front pin_key =
    next (pair_piece 1 any_letter pin_key any_letter verifying_pvk)
    (λ ks _. field_last 3 (number maximum maximum Field15) maxima maximum_exact
    (λ _. ks))

-- what stands behind the block and its format
abbrev verify_tail : Keys → Sealed → Piece Verification
verify_tail ks block =
    next (inputs_piece 6)
    (λ inputs at₁₀. field_next 10 offset_field offsets offset_exact
    (λ digits _. last (end_piece 11 ks)
    (λ mark. record { sealed = block; offsetting = inputs; offset = at₁₀; digits = digits; trailer = mark })))

abbrev pub verify_layout : Use → Layout 16 Keys Sealed Verification (List ℕ)
verify_layout pin_key = record {
  front = verify_front pin_key;
  block = sealed_piece 4 restricted;
  tail = verify_tail;
  whatever = λ at p rest rest' g. g;
  start = λ x. x.block;
  passes = sealed_passes 4 restricted;
  place = λ v. v.sealed.block;
  placed = λ ks block at p. refl;
  seen = λ v s. drop v.trailer s;
  looked = λ ks block at p s t from. from (((verify_tail ks block).writing at).value p).trailer (omega arith);
}

pub verify_listed_exact : (pin_key : Use) (s : List ℕ) (at : ℕ) → ExactAt s at (verify_fields pin_key s at) ((whole (verify_layout pin_key)).writing at)
unfolding verify_fields front
verify_listed_exact pin_key = (whole (verify_layout pin_key)).exact
