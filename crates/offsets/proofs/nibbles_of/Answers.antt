-- `offsets::nibbles_of` meets its contract.
use Prim.Native.Nat.{ℕ, ◌+◌}
use native.Mathlib.Omega.{arith}
use mathlib.Core.Path.{◌≡◌, refl, sym, ap, ◌∙◌}
use mathlib.Core.List.{List}
use lib.ListN.{length}
use Rattle.std.specs.Prelude.{Result, Ok, Err, IfOk}
use Rattle.numbers.specs.Numbers.{done}
use Rattle.numbers.specs.declared.Refusal.{Refusal}
use Rattle.pins.specs.Pins.{sized}
use Rattle.pins.specs.Answers.{row_of}
use Rattle.pins.proofs.Laws.{sized_held, sized_done}
use Rattle.nibbles.specs.Nibbles.{row, word, nibs}
use Rattle.nibbles.proofs.Lists.{Below}
use Rattle.nibbles.proofs.Rows.{row_word}
use Rattle.nibbles.proofs.Bytes.{bytes_below, nibs_below, nibs_length}
use Rattle.offsets.proofs.nibbles_of.Goals as goal

-- a row that was taken holds the nibbles
holds : (width : ℕ) (bs : List ℕ) → Below 256 bs → (r : Result ℕ Refusal) → r ≡ row_of (sized width bs) → IfOk r (λ w. sized width bs ≡ done (row (width + width) w))
holds width bs b (Ok w) e =
    let s = sized_held width bs (Ok w) e w refl in
    let n = (sized_done width bs (nibs bs) s.0).0 in
    let whole : width + width ≡ length (nibs bs) = let l = nibs_length bs in omega arith in
    s.0 ∙ ap done (sym (ap (row (width + width)) s.1 ∙ ap (λ (k : ℕ). row k (word (nibs bs))) whole ∙ row_word (nibs bs) (nibs_below bs b)))
holds width bs b (Err q) e = tt

pub returns-clause-held : goal.returns-clause-held
returns-clause-held c = holds c.args.width c.args.bytes.now (bytes_below c.args.bytes.now c.type_inv.bytes) c.sized_row.result c.sized_row.ensures
