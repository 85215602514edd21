-- What the outcomes of the two calls tell.
-- Assumes nothing.
use Prim.Native.Nat.{ℕ, ◌≤◌}
use native.Mathlib.Omega.{arith}
use mathlib.Core.Path.{◌≡◌, sym, ap, ◌∙◌}
use mathlib.Core.List.{List}
use lib.ListN.{length}
use lib.Dec.{leb, lit≤}
use borrow.Author.Tests.{leb-true}
use Rattle.nibbles.specs.Nibbles.{packs}
use Rattle.nibbles.proofs.Lists.{Below, below_weaken}
use Rattle.nibbles.proofs.Bytes.{nibs_length}
use Rattle.numbers.specs.Numbers.{done, unless}
use Rattle.numbers.specs.declared.Refusal.TheVariants.{Room901}
use Rattle.codes.specs.Codes.{code_of, format_of}
use Rattle.pins.specs.Pins.{pin_handed, sized, account_of, account_field}
use Rattle.numbers.proofs.Laws.{passed, then_done, value_of_lem}
use Rattle.pins.proofs.Laws.{Pinned, account_done, sized_done, handed_done}
use Rattle.answers.proofs.Laws.{Sixteen, field_sixteen, bytes_sixteen, Digital}
use Rattle.blocks.specs.Blocks.{write_row}
use Rattle.blocks.proofs.Laws.{read_pinned, written_row}
use Rattle.blockcalls.specs.BlockCalls.{read_block, write_block}

pub call_read : (code : ℕ) (block account : List ℕ) (room : ℕ) (ds : List ℕ) → read_block code block account room ≡ done ds → (12 ≤ room) × Pinned ds
unfolding read_block
call_read code block account room ds e =
    let r = then_done (unless Room901 (leb 12 room) room) _ ds e in
    let s = then_done (sized 8 block) _ ds r.2 in
    let k = then_done (account_of account) _ ds s.2 in
    let f = then_done (format_of (code_of code)) _ ds k.2 in
    let b = sized_done 8 block s.0 s.1 in
    let n = account_done account k.0 k.1 in (
      leb-true 12 room (passed Room901 (leb 12 room) room r.0 r.1).0,
      read_pinned f.0 (account_field k.0) s.0 ds (omega (arith, n.0)) (ap length (sym b.1) ∙ nibs_length block ∙ (let l = b.0 in omega arith)) f.2,
    )

pub read_digital : (code : ℕ) (block account : List ℕ) (room : ℕ) → Digital (read_block code block account room) room
read_digital code block account room ds e =
    let c = call_read code block account room ds e in
    (c.1.short, omega (arith, c.0, c.1.short), below_weaken 10 16 ds (lit≤ tt) c.1.digits)

-- the call's block is the bytes of such a row
pub call_written : (code : ℕ) (pin account fill : List ℕ) (room : ℕ) (bs : List ℕ) → Below 256 fill → write_block code pin account fill room ≡ done bs → (8 ≤ room) × ((ns : List ℕ) × Sixteen ns × (bs ≡ packs ns))
unfolding write_block
call_written code pin account fill room bs b e =
    let r = then_done (unless Room901 (leb 8 room) room) _ bs e in
    let k = then_done (account_of account) _ bs r.2 in
    let s = then_done (sized 8 fill) _ bs k.2 in
    let f = then_done (format_of (code_of code)) _ bs s.2 in
    let p = then_done (pin_handed pin) _ bs f.2 in
    let h = handed_done pin p.0 p.1 in (
      leb-true 8 room (passed Room901 (leb 8 room) room r.0 r.1).0,
      (
        write_row f.0 (account_field k.0) p.0 s.0,
        written_row f.0 (account_field k.0) p.0 s.0 (field_sixteen account k.0 k.1) (rw h.0 at h.1) (bytes_sixteen fill s.0 b s.1),
        sym (value_of_lem p.2),
      ),
    )
