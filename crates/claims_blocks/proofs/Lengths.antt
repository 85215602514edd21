-- The length that a clear row says is the one that is counted, and 24 is for one outside 4 to 12 alone.
-- Assumes nothing.
use Prim.Native.Nat.{ℕ}
use native.Mathlib.Omega.{arith}
use mathlib.Core.Path.{◌≡◌, refl, ap, ◌∙◌}
use mathlib.Core.Logic.{inl, inr}
use mathlib.Core.List.{List, [], ◌∷◌}
use mathlib.Core.Bool.{Bool, true, false, cond}
use lib.ListN.{length, get_or}
use borrow.Author.Tests.{eq-eqb}
use Rattle.nibbles.specs.Nibbles.{within, every, leading}
use Rattle.nibbles.proofs.Lists.{and_left, and_right}
use Rattle.nibbles.proofs.Runs.{inside_high}
use Rattle.numbers.specs.Numbers.{Outcome, done, refused, and_then, unless}
use Rattle.numbers.specs.declared.Refusal.TheVariants.{Block20, Length24}
use Rattle.numbers.proofs.Laws.{passed}
use Rattle.formats.specs.Formats.{fill_of, lead_of, veiled}
use Rattle.pins.specs.Pins.{digit, pin_length}
use Rattle.blocks.specs.Blocks.{veil, before_f, counted, contents, read_row}
use Rattle.formats.specs.declared.Lead.{Lead}
use Rattle.formats.specs.declared.Lead.TheVariants.{Bare, Control}
use Rattle.formats.specs.declared.Fill.{Fill}
use Rattle.claims_blocks.specs.Claims.{IsRow, UpToF, SaysLength, SaysWrongLength, LengthExactly}
use Rattle.claims_blocks.proofs.Judged.{Only}
use Rattle.claims_blocks.proofs.Lists.{every_wider, run_all}
use Rattle.claims_blocks.proofs.Rows.{contents_as, read_as, before_F, past, counts, leading_is, count_20, contents_20}
use Rattle.claims_blocks.proofs.Trips.{veil_row}

says_counted : (l : Lead) (ns : List ℕ) (n : ℕ) → SaysLength l ns n → counted l ns ≡ done n
says_counted (Control c) [] n s = absurd (let z : ◌≡◌ {A = ℕ} 0 2 = ap length s in omega arith)
says_counted (Control c) (a ∷ []) n s = absurd (let z : ◌≡◌ {A = ℕ} 1 2 = ap length s in omega arith)
says_counted (Control c) (a ∷ b ∷ ns) n s = rw (eq-eqb a c (ap (λ (xs : List ℕ). get_or xs 0 0) s)) (ap done (ap (λ (xs : List ℕ). get_or xs 1 0) s))
says_counted Bare ns n (ds, h, size, inl e) = rw (e, run_all (within 0 14) ds (every_wider digit (within 0 14) before_F ds h), h) (ap done size)
says_counted Bare ns n (ds, h, size, inr (rest, e)) = rw e (counts Bare ds (15 ∷ rest) h refl ∙ ap done size)

-- behind what stands before the first F there is an F or nothing
up_to_F : (ns : List ℕ) → every (within 0 15) ns ≡ true → UpToF ns (before_f ns)
unfolding every leading
up_to_F [] h = inl refl
up_to_F (n ∷ ns) h = go (within 0 14 n) refl (up_to_F ns (and_right (within 0 15 n) (every (within 0 15) ns) h))
  where
    go : (t : Bool) → within 0 14 n ≡ t → UpToF ns (before_f ns) → UpToF (n ∷ ns) (cond t (n ∷ before_f ns) [])
    go true e (inl q) = inl (ap (λ (xs : List ℕ). n ∷ xs) q)
    go true e (inr (rest, q)) = inr (rest, ap (λ (xs : List ℕ). n ∷ xs) q)
    go false e s =
        let low = past 14 n e in
        let high = inside_high 0 15 n (and_left (within 0 15 n) (every (within 0 15) ns) h) in
        inr (ns, ap (λ (x : ℕ). x ∷ ns) (omega arith))

counted_says : (l : Lead) (ns : List ℕ) (n : ℕ) → IsRow ns → counted l ns ≡ done n → SaysLength l ns n
counted_says Bare ns n r e = let t = passed Block20 (every digit (before_f ns)) (length (before_f ns)) n e in (before_f ns, t.0, t.1, up_to_F ns r.1)
counted_says (Control c) ns n r e = leading_is (Control c) ns n (omega arith) e

-- what is refused with 20 only is not refused with 24
not_24 : {A : Type 0} (o : Outcome A) → Only (λ q. q ≡ Block20) o → o ≡ refused Length24 → ⊥
not_24 o only e = let same : Length24 ≡ Block20 = only Length24 e in let z : ◌≡◌ {A = ℕ} 0 1 = cc in omega arith

module _ (l : Lead) (k : Fill) (ns : List ℕ) where
  said : IsRow ns → read_as l k ns ≡ refused Length24 → SaysWrongLength l ns
  said r e = by (counted l ns) refl e
    where
      by_length : (n : ℕ) (t : Bool) → counted l ns ≡ done n → within 4 12 n ≡ t → and_then (unless Length24 t n) (contents_as l k ns) ≡ refused Length24 → SaysWrongLength l ns
      by_length n false c w e = (n, counted_says l ns n r c, w)
      by_length n true c w e = absurd (not_24 (contents_as l k ns n) (contents_20 l k ns n) e)

      by : (o : Outcome ℕ) → counted l ns ≡ o → and_then o (λ n. and_then (pin_length n) (contents_as l k ns)) ≡ refused Length24 → SaysWrongLength l ns
      by (done n) c e = by_length n (within 4 12 n) c refl e
      by (refused q) c e = absurd (not_24 (counted l ns) (count_20 l ns) (c ∙ (let same : q ≡ Length24 = cc in ap refused same)))

  wrong : SaysWrongLength l ns → read_as l k ns ≡ refused Length24
  wrong (n, s, w) = rw (says_counted l ns n s, w)

pub length_exactly : LengthExactly
unfolding read_row contents
length_exactly f with ns w r =
    let clear = veil (veiled f) with ns in
    (said (lead_of f) (fill_of f) clear (veil_row (veiled f) with ns w r), wrong (lead_of f) (fill_of f) clear)
