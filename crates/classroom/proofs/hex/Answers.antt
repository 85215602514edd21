-- `classroom::hex` meets its contract.
use Prim.Native.Nat.{ℕ, ◌+◌}
use native.Mathlib.Omega.{arith}
use mathlib.Core.List.{List, map, append-nil}
use mathlib.Core.Path.{◌≡◌, sym, ap, ◌∙◌}
use lib.ListN.{length, length-map}
use borrow.Author.Rules.{rules}
use Rattle.nibbles.specs.Nibbles.{row, word, nibs}
use Rattle.nibbles.proofs.Lists.{over_step, over_end, map_at, Below}
use Rattle.nibbles.proofs.Rows.{row_length, row_word}
use Rattle.nibbles.proofs.Bytes.{nibs_length, nibs_below, bytes_below}
use Rattle.classroom.specs.Text.{character_of}
use Rattle.classroom.proofs.hex.Goals as goal

-- what is written of a word that holds a row
text_length : (w : ℕ) → length (map character_of (row 16 w)) ≡ 16
text_length w = length-map (row 16 w) character_of ∙ row_length 16 w

-- the word of a block's bytes holds their nibbles
block_row : (bs : List ℕ) (w : ℕ) → length bs ≡ 8 → Below 256 bs → w ≡ word (nibs bs) → row 16 w ≡ nibs bs
block_row bs w l b e =
    let whole : 16 ≡ length (nibs bs) = sym (nibs_length bs ∙ ap (λ (n : ℕ). n + n) l) in
    ap (row 16) e ∙ ap (λ (n : ℕ). row n (word (nibs bs))) whole ∙ row_word (nibs bs) (nibs_below bs b)

pub loop-i-preserved : goal.loop-i-preserved
loop-i-preserved c =
    let w = c.row_of-row.result in
    let l = c.loop-i in
    over_step (map character_of (row 16 w)) _ l.text l.i c.character.result 0 (rw (text_length w) (omega arith)) (omega arith) l.invariant
    (c.character.ensures ∙ ap character_of c.nibble.ensures ∙ sym (map_at character_of (row 16 w) l.i 0 0 (rw (row_length 16 w) (omega arith))))

pub returns : goal.returns
returns c =
    let block = c.args.block in
    let w = c.row_of-row.result in
    let l = c.loop-i in
    over_end (map character_of (row 16 w)) _ l.text l.i 16 (text_length w) (omega arith) (omega arith) l.invariant
    ∙ append-nil _
    ∙ ap (map character_of) (block_row block w (search rules) (bytes_below block (λ i. search rules)) c.row_of-row.ensures)
