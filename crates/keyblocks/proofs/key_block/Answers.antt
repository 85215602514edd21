-- `keyblocks::key_block` meets its contract.
use mathlib.Core.Path.{sym, ◌∙◌}
use Rattle.std.proofs.lemmas.Result.{err_from_is_err_and}
use Rattle.keyblocks.specs.KeyBlocks.{key_block}
use Rattle.keyblocks.proofs.Laws.{length_read, text_torn, text_read, id_missing}
use Rattle.keyblocks.proofs.key_block.Goals as goal

pub returns-in_err-next : goal.returns-in_err-next
unfolding key_block
returns-in_err-next c =
    let s = c.args.command.now in
    let at = c.args.cursor.at in
    let p = err_from_is_err_and c.from_residual-in_err-next.result c.from_residual-in_err-next.ensures.1 in
    let sized = sym c.in_ok-length.was ∙ c.block_length.ensures in
    let torn = text_torn s at _ _ sized _ (sym c.in_err-next.was ∙ c.run.ensures) in
    rw (p.1, p.2, (length_read s at _ _ sized).0, torn)

pub returns-in_err-id : goal.returns-in_err-id
unfolding key_block
returns-in_err-id c =
    let s = c.args.command.now in
    let at = c.args.cursor.at in
    let p = err_from_is_err_and c.from_residual-in_err-id.result c.from_residual-in_err-id.ensures.1 in
    let sized = sym c.in_ok-length.was ∙ c.block_length.ensures in
    let text = text_read s at _ _ sized _ _ (sym c.in_ok-next.was ∙ c.run.ensures) in
    let permitted = sym c.permits.ensures ∙ c.if-not-permits.false in
    let unnamed = id_missing s at _ (sym c.in_err-id.was ∙ c.number.ensures) in
    rw (p.1, p.2, (length_read s at _ _ sized).0, text.0, permitted, unnamed)
