-- The verdict return by return, and what a presented offset holds.
-- Assumes nothing.
use Prim.Native.Nat.{ℕ, ◌<◌, ◌^◌}
use native.Mathlib.Omega.{arith}
use native.Mathlib.Nat.{mod-eq_of_lt}
use mathlib.Core.Path.{◌≡◌, refl, sym, ap, ap₂, ◌∙◌, subst}
use mathlib.Core.List.{List, map, []}
use mathlib.Core.Bool.{Bool, ◌&&◌}
use lib.ListN.{length, take, drop}
use lib.Dec.{leb, eqb, lit≤}
use borrow.Author.Tests.{eq-eqb, ne_eqb}
use Rattle.alphabet.proofs.Laws.{value_below}
use Rattle.pins.specs.declared.Pin.{Pin}
use Rattle.std.specs.Prelude.{Ok}
use Rattle.pins.specs.Answers.{pin_of, reading_of}
use Rattle.pins.specs.Pins.{account_of, account_field, sized}
use Rattle.pins.proofs.Laws.{through, then_alike}
use Rattle.codes.specs.Codes.{code_of, format_of}
use Rattle.blocks.specs.Blocks.{read_row}
use Rattle.answers.specs.Answers.{digits_of}
use Rattle.nibbles.specs.Nibbles.{row, word, within, every, same}
use Rattle.nibbles.proofs.Lists.{Below, below_weaken, same_refl, same_false, map_below}
use Rattle.nibbles.proofs.Rows.{row_word, row_length, word_row, word_lt}
use Rattle.numbers.specs.Numbers.{Outcome, done, refused, and_then, unless}
use Rattle.numbers.specs.declared.Refusal.{Refusal}
use Rattle.numbers.specs.declared.Refusal.TheVariants.{Field15, Check81, Unverified01}
use Rattle.numbers.proofs.Laws.{passed, then_done, value_of_lem, result_ok}
use Rattle.alphabet.specs.Alphabet.{value_of}
use Rattle.naturals.specs.Naturals.{table_sized, table_of}
use Rattle.ibm3624.specs.Ibm3624.{check_length, covered, offset_of, covers}
use Rattle.offsettexts.specs.OffsetTexts.{digit_end, offset_presented}
use Rattle.ibm3624.proofs.Laws.{offset_many, reduced_below}
use Rattle.offsets.specs.Offsets.{given, pin_with_natural, pin_and_natural, offset_for}
use Rattle.offsets.specs.Answers.{pair_in}
use Rattle.offsets.specs.declared.Compared.{Compared}
use Rattle.offsets.proofs.Laws.{covers_within}
use Rattle.verdicts.specs.Verdicts.{verdict_on, offset_verdict}

-- ---- the verdict, return by return

-- where no offset can be made, no verdict can be given
pub verdict_long : (variable : Bool) (check : ℕ) (os : List ℕ) (p : List ℕ × List ℕ) (q : Refusal) → offset_for variable check p ≡ refused q → verdict_on variable check os p ≡ refused q
verdict_long variable check os p q e = go (covers variable check (length p.0)) refl e
  where
    go : (o : Outcome ℕ) → covers variable check (length p.0) ≡ o → and_then o (λ m. done (offset_of m p.0 p.1)) ≡ refused q → verdict_on variable check os p ≡ refused q
    go (done m) c h = absurd (let z : ◌≡◌ {A = ℕ} 0 1 = cc in omega arith)
    go (refused r) c h = rw c h

module _ (variable : Bool) (check : ℕ) (p : Compared) (presented : Pin) (clean : presented.digits < 16 ^ presented.length) (ds : List ℕ) (made : offset_for variable check (pair_in p) ≡ done ds) where
  -- the offset that was made has as many digits as it covers
  covering : (m : ℕ) × (covers variable check (length (pair_in p).0) ≡ done m) × (offset_of m (pair_in p).0 (pair_in p).1 ≡ ds) × (length ds ≡ m)
  covering =
      let t = then_done (covers variable check (length (pair_in p).0)) _ ds made in
      let w = covers_within variable check (length (pair_in p).0) t.0 t.1 in
      let one-length = row_length p.length p.natural ∙ sym (row_length p.length p.pin) in
      let whole = value_of_lem t.2 in
      (t.0, t.1, whole, ap length (sym whole) ∙ offset_many t.0 (pair_in p).0 (pair_in p).1 w one-length)

  shown : length (digits_of presented) ≡ presented.length
  shown = row_length presented.length presented.digits

  pub verdict_other_length : (presented.length ≡ length ds → ⊥) → verdict_on variable check (digits_of presented) (pair_in p) ≡ refused Check81
  verdict_other_length h =
      let c = covering in
      rw (c.1, ne_eqb (length (digits_of presented)) c.0 (λ e. h (sym shown ∙ e ∙ sym c.3)))

  pub verdict_other : presented.length ≡ length ds → (presented.digits ≡ word ds → ⊥) → verdict_on variable check (digits_of presented) (pair_in p) ≡ refused Unverified01
  verdict_other l h =
      let c = covering in
      rw (
        c.1,
        eq-eqb (length (digits_of presented)) c.0 (shown ∙ l ∙ c.3),
        c.2,
        same_false (digits_of presented) ds (λ e. h (sym (word_row presented.length presented.digits ∙ mod-eq_of_lt clean) ∙ ap word e)),
      )

  pub verdict_same : presented.length ≡ length ds → presented.digits ≡ word ds → verdict_on variable check (digits_of presented) (pair_in p) ≡ done []
  verdict_same l d =
      let c = covering in
      let below : Below 16 ds = subst (Below 16) c.2 (below_weaken 10 16 (offset_of c.0 (pair_in p).0 (pair_in p).1) (lit≤ tt) (reduced_below (covered c.0 (pair_in p).0 (pair_in p).1))) in
      let e : digits_of presented ≡ ds = ap₂ row l d ∙ row_word ds below in
      rw (c.1, eq-eqb (length (digits_of presented)) c.0 (shown ∙ l ∙ c.3), c.2, e, same_refl ds)

-- ---- a presented offset

presented_below : (cs ds : List ℕ) → offset_presented cs ≡ done ds → Below 16 ds
presented_below cs ds e =
    let p = passed Field15 (eqb (length cs) 12 && (leb 4 (digit_end cs) && every (within 0x46 0x46) (drop (digit_end cs) cs))) (map value_of (take (digit_end cs) cs)) ds e in
    subst (Below 16) p.1 (map_below 16 value_of value_below (take (digit_end cs) cs))

-- one that was read: its length holds its digits
pub presented_held : (cs : List ℕ) (x : Pin) → Ok x ≡ reading_of (offset_presented cs) → (os : List ℕ) × (offset_presented cs ≡ done os) × (x.digits < 16 ^ x.length) × (digits_of x ≡ os)
presented_held cs x e =
    let s = result_ok pin_of (offset_presented cs) x e in
    let b = presented_below cs s.0 s.1 in
    (s.0, s.1, subst (λ (y : Pin). y.digits < 16 ^ y.length) (sym s.2) (word_lt s.0 b), ap digits_of s.2 ∙ row_word s.0 b)

-- ---- the call's chain in parts

-- what is given at 15, the presented offset, the PIN with its natural PIN, the verdict
pub verdict_parts : (variable : Bool) (code check : ℕ) (block account table enciphered offset : List ℕ)
    → offset_verdict variable code check block account table enciphered offset
    ≡ and_then (given code check block account table enciphered) (λ g. and_then (offset_presented offset) (λ os. and_then (pin_and_natural code table g) (verdict_on variable check os)))
unfolding offset_verdict given pin_and_natural pin_with_natural
verdict_parts variable code check block account table enciphered offset =
    sym (through (check_length check) _ behind _
    (λ _. through (sized 8 block) _ behind _
    (λ ns. through (account_of account) _ behind _
    (λ digits. through (table_sized table) _ behind _
    (λ _. through (sized 8 enciphered) _ behind _
    (λ es. then_alike (offset_presented offset) _ _
    (λ os. through (format_of (code_of code)) _ (verdict_on variable check os) _
    (λ f. through (table_of table) _ (verdict_on variable check os) _
    (λ ts. through (read_row f (account_field digits) ns) _ (verdict_on variable check os) _ (λ pin. refl))))))))))
  where
    behind : List ℕ × List ℕ × List ℕ → Outcome (List ℕ)
    behind g = and_then (offset_presented offset) (λ os. and_then (pin_and_natural code table g) (verdict_on variable check os))

-- ---- a verdict 00

-- what it has judged, and that it writes nothing
module _ (variable : Bool) (code check : ℕ) (block account table enciphered offset ws : List ℕ) (e : offset_verdict variable code check block account table enciphered offset ≡ done ws) where
  pub verdict_done : (g : List ℕ × List ℕ × List ℕ) × (os : List ℕ) × (p : List ℕ × List ℕ) × (m : ℕ) × (given code check block account table enciphered ≡ done g)
      × (offset_presented offset ≡ done os) × (pin_and_natural code table g ≡ done p) × (covers variable check (length p.0) ≡ done m)
      × (unless Unverified01 (same os (offset_of m p.0 p.1)) [] ≡ done ws)
  verdict_done =
      let g = then_done (given code check block account table enciphered) _ ws (sym (verdict_parts variable code check block account table enciphered offset) ∙ e) in
      let s = then_done (offset_presented offset) _ ws g.2 in
      let p = then_done (pin_and_natural code table g.0) _ ws s.2 in
      let m = then_done (covers variable check (length p.0.0)) _ ws p.2 in
      let l = then_done (unless Check81 (eqb (length s.0) m.0) m.0) _ ws m.2 in
      (g.0, s.0, p.0, m.0, g.1, s.1, p.1, m.1, l.2)

  pub verdict_nothing : ws ≡ []
  verdict_nothing =
      let v = verdict_done in
      sym (passed Unverified01 (same v.1 (offset_of v.3 v.2.0 v.2.1)) [] ws v.8).1
