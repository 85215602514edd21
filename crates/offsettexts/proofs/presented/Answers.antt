-- `offsettexts::presented` meets its contract.
use Prim.Native.Nat.{ℕ}
use mathlib.Core.List.{List, map}
use mathlib.Core.Path.{ap, ap₂, sym, ◌∙◌}
use lib.Seq.{length-take-le}
use lib.ListN.{take, drop, length-map}
use borrow.Author.Tests.{eq-eqb, le-leb}
use Rattle.std.proofs.Common.{Ok}
use Rattle.offsettexts.specs.OffsetTexts.{digit_end}
use Rattle.alphabet.specs.declared.Class.TheVariants.{Digit}
use Rattle.alphabet.specs.Alphabet.{admits, value_of}
use Rattle.nibbles.proofs.Runs.{leading_le}
use Rattle.nibbles.specs.Nibbles.{every, within, word}
use Rattle.offsettexts.proofs.presented.Goals as goal

-- written out: offset_of_three_digits_presented falls by it
pub returns : goal.returns
returns c =
    let cs = c.args.characters.now in
    let m = c.class_end-n.result in
    let n = c.class_end-n.ensures in
    let parts = c.split_at.ensures in
    let f = ap (λ (k : ℕ). every (within 0x46 0x46) (drop k cs)) (sym n) ∙ ap (every (within 0x46 0x46)) (sym parts.back) ∙ sym c.only_f.ensures in
    let long = sym (length-map (take m cs) value_of ∙ length-take-le m cs (rw n (leading_le (admits Digit) cs))) in
    rw (eq-eqb _ _ c.if-characters-ne12.false, le-leb 4 (digit_end cs) (rw n at c.if-n-lt4.false), f ∙ c.if-not-only_f.false, ← n)
    (ap₂ (λ (l d : ℕ). Ok (record { length = l; digits = d })) long
    (c.values.ensures ∙ ap (λ (ds : List ℕ). word (map value_of ds)) parts.front))
