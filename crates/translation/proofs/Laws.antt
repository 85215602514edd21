-- What a translated block is.
-- Assumes nothing.
use Prim.Native.Nat.{ℕ}
use mathlib.Core.Path.{sym}
use mathlib.Core.List.{List}
use mathlib.Core.Bool.{Bool}
use lib.Dec.{leb}
use borrow.Author.Tests.{leb-true}
use Rattle.nibbles.proofs.Lists.{Below}
use Rattle.numbers.specs.Numbers.{unless}
use Rattle.numbers.specs.declared.Refusal.TheVariants.{Room901}
use Rattle.numbers.proofs.Laws.{then_done, passed, value_of_lem}
use Rattle.pins.specs.Pins.{account_of, account_field, sized}
use Rattle.blocks.specs.Blocks.{read_row, write_row}
use Rattle.answers.proofs.Laws.{Blocky, field_sixteen, bytes_sixteen}
use Rattle.blocks.proofs.Laws.{read_pinned, written_row}
use Rattle.pairs.specs.Pairs.{pair_of}
use Rattle.translation.specs.Translation.{translate_block}

pub call_translated :
    (restricted : Bool) (from to : ℕ) (block account fill : List ℕ) (room : ℕ) → Below 256 block → Below 256 fill
    → Blocky (translate_block restricted from to block account fill room) room
unfolding translate_block
call_translated restricted from to block account fill room b c bs e =
    let r = then_done (unless Room901 (leb 8 room) room) _ bs e in
    let s = then_done (sized 8 block) _ bs r.2 in
    let k = then_done (account_of account) _ bs s.2 in
    let l = then_done (sized 8 fill) _ bs k.2 in
    let f = then_done (pair_of restricted from to) _ bs l.2 in
    let d = then_done (read_row f.0.0 (account_field k.0) s.0) _ bs f.2 in
    let field = field_sixteen account k.0 k.1 in
    let p = read_pinned f.0.0 (account_field k.0) s.0 d.0 field.long (bytes_sixteen block s.0 b s.1).long d.1 in (
      leb-true 8 room (passed Room901 (leb 8 room) room r.0 r.1).0,
      (
        write_row f.0.1 (account_field k.0) d.0 l.0,
        written_row f.0.1 (account_field k.0) d.0 l.0 field p (bytes_sixteen fill l.0 c l.1),
        sym (value_of_lem d.2),
      ),
    )
