-- `pairing::pair` meets its contract.
use Prim.Native.Nat.{ℕ}
use mathlib.Core.List.{map}
use mathlib.Core.Path.{refl, ap, ◌∙◌}
use Rattle.alphabet.specs.Alphabet.{value_of}
use Rattle.offsets.specs.Offsets.{pin_with_natural}
use Rattle.offsets.specs.Answers.{comparison_of, rows_in}
use Rattle.offsets.specs.declared.Rows.{Rows}
use Rattle.offsetting.specs.Offsetting.{part}
use Rattle.pairing.proofs.Laws.{cut, table_decimal, pair_found}
use Rattle.pairing.proofs.pair.Goals as goal

pub with_natural-requires : goal.with_natural-requires
with_natural-requires c =
    let s = c.args.command.now in
    let o = c.args.inputs in
    table_decimal s o c.requires _ (cut o.table 16 16 refl)

pub returns : goal.returns
returns c =
    let s = c.args.command.now in
    let o = c.args.inputs in
    let boxed = c.args.boxed in
    let account = c.account_at in
    let rows : Rows = record { block = boxed.block; account = account.result; enciphered = boxed.enciphered } in
    c.with_natural.ensures
    ∙ ap (λ (k : ℕ). comparison_of (pin_with_natural c.args.sealed.format (map value_of (part s o.table k)) (rows_in rows))) (cut o.table 16 16 refl)
    ∙ ap comparison_of (pair_found s o c.requires c.args.sealed rows account.ensures)
