-- `blocks::counted_bare` meets its contract.
use Prim.Native.Nat.{ℕ, ◌+◌, ◌≤◌, ◌<◌, zero-le}
use native.Mathlib.Omega.{arith}
use mathlib.Core.Bool.{true, false}
use mathlib.Core.Path.{◌≡◌, ap, sym, ◌∙◌}
use lib.Seq.{slice}
use lib.ListN.{length}
use Rattle.std.proofs.Common.{Ok}
use Rattle.blocks.proofs.Laws.{whole_row, before_part}
use Rattle.nibbles.proofs.Rows.{row_length}
use Rattle.nibbles.proofs.Runs.{run_whole, run_broken, leading_le}
use Rattle.blocks.specs.Blocks.{before_f}
use Rattle.pins.specs.Pins.{digit}
use Rattle.nibbles.specs.Nibbles.{row, within, leading, every}
use Rattle.blocks.proofs.counted_bare.Goals as goal

-- where the first run ends, the digits do
ended : (w : ℕ) → length (before_f (row 16 w)) ≡ 0 + length (leading (within 0 14) (slice 0 16 (row 16 w)))
ended w = rw (whole_row w) (omega arith)

-- the digits are those from the beginning to that place
module _ (w n : ℕ) (e : length (before_f (row 16 w)) ≡ n) where
  same : before_f (row 16 w) ≡ slice 0 n (row 16 w)
  same = before_part w ∙ ap (λ (k : ℕ). slice 0 k (row 16 w)) e

  fits : n ≤ length (row 16 w)
  fits = let l = leading_le (within 0 14) (row 16 w) in omega arith

  broken : 0 + length (leading digit (slice 0 n (row 16 w))) < n → every digit (before_f (row 16 w)) ≡ false
  broken h = ap (every digit) same ∙ run_broken digit (row 16 w) 0 n zero-le fits h

  whole : n ≤ 0 + length (leading digit (slice 0 n (row 16 w))) → every digit (before_f (row 16 w)) ≡ true
  whole h = ap (every digit) same ∙ run_whole digit (row 16 w) 0 n zero-le fits h

pub run_end-requires : goal.run_end-requires
run_end-requires c =
    let n = ended c.args.clear ∙ sym c.run_end-n.ensures in
    let l = leading_le (within 0 14) (row 16 c.args.clear) in
    omega (arith, row_length 16 c.args.clear)

pub returns-then-run_end-n : goal.returns-then-run_end-n
returns-then-run_end-n c =
    let w = c.args.clear in
    let n = ended w ∙ sym c.run_end-n.ensures in
    rw (broken w c.run_end-n.result n (rw c.run_end.ensures at c.if-run_end-n.true))

pub returns : goal.returns
returns c =
    let w = c.args.clear in
    let n = ended w ∙ sym c.run_end-n.ensures in
    rw (whole w c.run_end-n.result n (rw c.run_end.ensures at c.if-run_end-n.false)) (ap Ok (sym n))
