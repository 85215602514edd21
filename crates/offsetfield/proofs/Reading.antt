-- What the reader of an offset finds, by what was tried.
-- Assumes nothing.
use Prim.Native.Nat.{ℕ, ◌+◌, ◌-◌, ◌≤◌, ◌<◌}
use native.Mathlib.Omega.{arith}
use mathlib.Core.Path.{◌≡◌, ap, ◌∙◌}
use mathlib.Core.List.{List}
use Rattle.std.specs.Prelude.{Ok, Err}
use lib.ListN.{length, take, drop, length-drop}
use borrow.Author.Tests.{le-leb, lt-leb}
use Rattle.numbers.specs.declared.Refusal.{Refusal}
use Rattle.numbers.specs.declared.Refusal.TheVariants.{Field15}
use Rattle.numbers.proofs.Laws.{result_ok, result_err}
use Rattle.pins.specs.Answers.{pin_of, reading_of}
use Rattle.pins.specs.declared.Pin.{Pin}
use Rattle.offsettexts.specs.OffsetTexts.{offset_presented}
use Rattle.fields.specs.Answers.{cursor_at, found_at}
use Rattle.offsetfield.specs.OffsetField.{offset_field}

module _ (s : List ℕ) (at : ℕ) where
  -- there are not twelve characters
  pub offset_short : length s - at < 12 → Err Field15 ≡ found_at at (offset_field (drop at s))
  unfolding offset_field
  offset_short h = rw (lt-leb 12 (length (drop at s)) (omega (arith, length-drop at s)))

  -- the part that is lent
  abbrev lent : List ℕ
  lent = take (at + 12 - at) (drop at s)

  part : take 12 (drop at s) ≡ lent
  part = let k : at + 12 - at ≡ 12 = omega arith in rw k

  module _ (h : 12 ≤ length s - at) where
    -- they are no offset
    pub offset_wrong : (q : Refusal) → Err q ≡ reading_of (offset_presented lent) → Err q ≡ found_at at (offset_field (drop at s))
    unfolding offset_field
    offset_wrong q e =
        let bad = ap offset_presented part ∙ result_err pin_of (offset_presented lent) q e in
        rw (le-leb 12 (length (drop at s)) (omega (arith, length-drop at s)), bad)

    -- they are one
    pub offset_whole : (p : Pin) → Ok p ≡ reading_of (offset_presented lent) → Ok (p.length, cursor_at (at + 12)) ≡ found_at at (offset_field (drop at s))
    unfolding offset_field
    offset_whole p e =
        let g = result_ok pin_of (offset_presented lent) p e in
        let found = ap offset_presented part ∙ g.1 in
        rw (le-leb 12 (length (drop at s)) (omega (arith, length-drop at s)), found) (ap (λ (x : Pin). Ok (x.length, cursor_at (at + 12))) g.2)
