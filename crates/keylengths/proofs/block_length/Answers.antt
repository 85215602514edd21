-- `keylengths::block_length` meets its contract.
use Prim.Native.Nat.{◌≤◌}
use native.Mathlib.Omega.{arith}
use mathlib.Core.Path.{sym, ◌∙◌}
use lib.ListN.{drop}
use Rattle.std.specs.Range.{range_inclusive_start, range_inclusive_end}
use Rattle.std.proofs.lemmas.Map.Keys.{le_from_is_le}
use Rattle.alphabet.specs.declared.Class.TheVariants.{Digit}
use Rattle.numbers.specs.declared.Refusal.TheVariants.{Field15, Key26}
use Rattle.fields.specs.Fields.{run}
use Rattle.fields.proofs.Laws.{found_ok, run_read}
use Rattle.keylengths.proofs.Laws.{version_ahead, length_whole}
use Rattle.keylengths.proofs.block_length.Goals as goal

-- written out: key_block_of_15 falls by it
pub returns : goal.returns
returns c =
    let a = c.args in
    let cs = drop a.cursor.at a.command.now in
    let digits = sym c.in_ok-next.was ∙ c.run.ensures in
    let five = (found_ok a.cursor.at (run Digit Field15 Key26 5 cs) _ _ digits).1 in
    let v = c.value.ensures ∙ sym (version_ahead a.command.now a.cursor.at) in
    let next = (run_read a.command.now a.cursor.at _ _ Digit Field15 Key26 5 digits).1 in
    let long = c.said_length-length.ensures in
    let low : range_inclusive_start c.new.result ≤ c.said_length-length.result = le_from_is_le _ _ c.if-not-contains.ensures.cases.0 in
    let high : c.said_length-length.result ≤ range_inclusive_end c.new.result = le_from_is_le _ _ c.if-not-contains.ensures.cases.1 in
    rw (length_whole cs _ five (omega arith) (omega arith) (omega arith), next, long)
