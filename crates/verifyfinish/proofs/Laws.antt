-- What the finish comes to, answer by answer.
-- Assumes nothing.
use Prim.Native.Nat.{ℕ, ◌-◌, ◌≤◌, ◌<◌, ◌^◌}
use native.Mathlib.Omega.{arith}
use mathlib.Core.Path.{◌≡◌, sym, ap, ap₂, ◌∙◌, subst}
use mathlib.Core.List.{List, map}
use mathlib.Core.Bool.{Bool, true}
use Rattle.std.specs.Prelude.{Ok, Err}
use lib.ListN.{length, length-map, length-drop}
use lib.Seq.{length-take-le}
use Rattle.nibbles.specs.Nibbles.{word}
use Rattle.nibbles.proofs.Lists.{Below, map_below}
use Rattle.nibbles.proofs.Rows.{row_word, word_lt}
use Rattle.alphabet.specs.Alphabet.{all_of, value_of}
use Rattle.alphabet.specs.declared.Class.TheVariants.{Digit}
use Rattle.alphabet.proofs.Laws.{value_below}
use Rattle.numbers.specs.Numbers.{Outcome, refused}
use Rattle.numbers.specs.Answers.{verdict_of}
use Rattle.numbers.proofs.Laws.{result_err}
use Rattle.numbers.specs.declared.Refusal.{Refusal}
use Rattle.pins.specs.Answers.{pin_of}
use Rattle.pins.specs.declared.Pin.{Pin}
use Rattle.answers.specs.Answers.{digits_of}
use Rattle.offsets.specs.Answers.{compared_of, comparison_of, pair_in, Fit}
use Rattle.offsets.specs.declared.Compared.{Compared}
use Rattle.verdicts.specs.Verdicts.{verdict_on}
use Rattle.keybox.specs.declared.Boxed.{Boxed}
use Rattle.offsetting.specs.Offsetting.{part}
use Rattle.pairing.specs.Pairing.{pair_at}
use Rattle.pairing.specs.Answers.{box_rows}
use Rattle.pairing.proofs.Laws.{pair_compared}
use Rattle.verifyfields.specs.VerifyFields.{offset_in}
use Rattle.verifyfields.specs.Answers.{Placed}
use Rattle.verifyfields.specs.declared.Verification.{Verification}
use Rattle.verifyfinish.specs.VerifyFinish.{verify_finish}

module _ (s : List ℕ) (v : Verification) (placed : Placed s v) where
  -- ---- the offset at its place

  -- as many characters as it has digits
  pub offset_long : length (part s v.offset v.digits) ≡ v.digits
  offset_long = length-take-le v.digits _ (let h = placed.offset in omega (arith, length-drop v.offset s))

  -- they are digits, however they are counted
  pub offset_digits : (n : ℕ) → n ≡ v.digits → (length (part s v.offset n) ≤ 16) × (all_of Digit (part s v.offset n) ≡ true)
  offset_digits n e =
      subst (λ (k : ℕ). (length (part s v.offset k) ≤ 16) × (all_of Digit (part s v.offset k) ≡ true)) (sym e)
      (omega (arith, offset_long, placed.short), placed.digits)

  -- and so it is held
  pub offset_held : (n w : ℕ) → n ≡ v.digits → w ≡ word (map value_of (part s v.offset n)) → record { length = v.digits; digits = w } ≡ pin_of (offset_in s v)
  offset_held n w e h =
      ap₂ (λ (x y : ℕ). record { length = x; digits = y }) (sym (length-map (part s v.offset v.digits) value_of ∙ offset_long))
      (h ∙ ap (λ (k : ℕ). word (map value_of (part s v.offset k))) e)

  below : Below 16 (offset_in s v)
  below = map_below 16 value_of value_below (part s v.offset v.digits)

  -- ---- the finish, answer by answer

  module _ (variable : Bool) (boxed : Boxed) where
    abbrev found : Outcome (List ℕ × List ℕ)
    found = pair_at s v.sealed v.offsetting (box_rows boxed)

    -- there is no PIN in the block
    pub finish_unread : (q : Refusal) → Err q ≡ comparison_of found → verify_finish variable s v (box_rows boxed) ≡ refused q
    unfolding verify_finish
    finish_unread q e = rw (result_err compared_of found q e)

    module _ (c : Compared) (got : Ok c ≡ comparison_of found) (presented : Pin) (held : presented ≡ pin_of (offset_in s v)) where
      -- the PIN and its natural PIN may be compared with what is presented
      pub verdict_may : Fit c × (presented.digits < 16 ^ presented.length)
      verdict_may = (
        (pair_compared s v.offsetting placed.offsetting v.sealed boxed c got).0,
        subst (λ (p : Pin). p.digits < 16 ^ p.length) (sym held) (word_lt (offset_in s v) below),
      )

      -- so the verdict decides
      pub finish_judged : verdict_of (verdict_on variable v.offsetting.check (digits_of presented) (pair_in c)) ≡ verdict_of (verify_finish variable s v (box_rows boxed))
      unfolding verify_finish
      finish_judged =
          let digits : digits_of presented ≡ offset_in s v = ap digits_of held ∙ row_word (offset_in s v) below in
          rw ((pair_compared s v.offsetting placed.offsetting v.sealed boxed c got).1, digits)
