-- What the finish comes to, answer by answer.
-- Assumes nothing.
use Prim.Native.Nat.{ℕ}
use mathlib.Core.Path.{◌≡◌, ap}
use mathlib.Core.List.{List}
use mathlib.Core.Bool.{Bool, true, false}
use Rattle.std.specs.Prelude.{Ok, Err}
use Rattle.nibbles.specs.Nibbles.{row}
use Rattle.numbers.specs.Numbers.{Outcome, done, refused}
use Rattle.numbers.proofs.Laws.{result_ok, result_err}
use Rattle.numbers.specs.declared.Refusal.{Refusal}
use Rattle.numbers.specs.declared.Refusal.TheVariants.{Weak86}
use Rattle.pins.specs.Answers.{pin_of, reading_of}
use Rattle.pins.specs.declared.Pin.{Pin}
use Rattle.offsets.specs.Offsets.{offset_for}
use Rattle.offsets.specs.Answers.{compared_of, comparison_of, pair_in, Fit}
use Rattle.offsets.specs.declared.Compared.{Compared}
use Rattle.keybox.specs.declared.Boxed.{Boxed}
use Rattle.weak.specs.Weak.{is_on, weak_pins}
use Rattle.pairing.specs.Pairing.{pair_at}
use Rattle.pairing.specs.Answers.{box_rows}
use Rattle.pairing.proofs.Laws.{pair_compared}
use Rattle.bkfinish.specs.BkFinish.{bk_finish}
use Rattle.bkfields.specs.Answers.{Placed}
use Rattle.bkfields.specs.declared.Bk.{Bk}

-- ---- the finish, answer by answer

module _ (variable : Bool) (s : List ℕ) (p : Bk) (boxed : Boxed) (placed : Placed s p) where
  abbrev found : Outcome (List ℕ × List ℕ)
  found = pair_at s p.sealed p.offsetting (box_rows boxed)

  abbrev finished : Outcome (List ℕ)
  finished = bk_finish variable s p (box_rows boxed)

  -- there is no PIN in the block
  pub finish_unread : (q : Refusal) → Err q ≡ comparison_of found → finished ≡ refused q
  unfolding bk_finish
  finish_unread q e = rw (result_err compared_of found q e)

  module _ (c : Compared) (got : Ok c ≡ comparison_of found) where
    -- the PIN and its natural PIN may be compared
    pub compared_fit : Fit c
    compared_fit = (pair_compared s p.offsetting placed.offsetting p.sealed boxed c got).0

    pair_meant : found ≡ done (pair_in c)
    pair_meant = (pair_compared s p.offsetting placed.offsetting p.sealed boxed c got).1

    -- the check length is longer than the PIN
    pub finish_long : (q : Refusal) → Err q ≡ reading_of (offset_for variable p.offsetting.check (pair_in c)) → finished ≡ refused q
    unfolding bk_finish
    finish_long q e =
        let o = offset_for variable p.offsetting.check (pair_in c) in
        rw (pair_meant, result_err pin_of o q e)

    module _ (offset : Pin) (made : Ok offset ≡ reading_of (offset_for variable p.offsetting.check (pair_in c))) where
      -- the PIN is on the weak list
      pub finish_weak : is_on (row c.length c.pin) (weak_pins p.weak s) ≡ true → finished ≡ refused Weak86
      unfolding bk_finish
      finish_weak h =
          let o = result_ok pin_of (offset_for variable p.offsetting.check (pair_in c)) offset made in
          rw (pair_meant, o.1, h)

      -- it is not, and the offset stands
      pub finish_made : is_on (row c.length c.pin) (weak_pins p.weak s) ≡ false → Ok offset ≡ reading_of finished
      unfolding bk_finish
      finish_made h =
          let o = result_ok pin_of (offset_for variable p.offsetting.check (pair_in c)) offset made in
          rw (pair_meant, o.1, h) (ap Ok o.2)
