-- `naturals::natural` meets its contract.
use Prim.Native.Nat.{ℕ, ◌-◌}
use native.Mathlib.Omega.{arith}
use mathlib.Core.Path.{◌≡◌, sym, ap, ◌∙◌, ap₂}
use lib.ListN.{drop, get_or}
use Rattle.naturals.proofs.Laws.{naturalRow, natural_length, natural_below, natural_at}
use Rattle.nibbles.proofs.Rows.{word_next, word_room, word_none, row_at_lt}
use Rattle.alphabet.specs.Alphabet.{value_of}
use Rattle.alphabet.proofs.Laws.{digit_at}
use Rattle.nibbles.specs.Nibbles.{word}
use Rattle.naturals.proofs.natural.Goals as goal

pub loop-i-init : goal.loop-i-init
loop-i-init c =
    let a = c.args in
    let small = c.requires.0 in
    word_none (naturalRow a.n a.table.now a.enciphered small) ∙ ap (λ (k : ℕ). word (drop k (naturalRow a.n a.table.now a.enciphered small))) (natural_length a.n a.table.now a.enciphered small)

pub overflow_mul-w : goal.overflow_mul-w
overflow_mul-w c =
    let a = c.args in
    let small = c.requires.0 in
    let l = c.loop-i in
    omega (arith, word_room (naturalRow a.n a.table.now a.enciphered small) l.i l.w (omega arith) (rw (natural_length a.n a.table.now a.enciphered small) (omega arith)) l.invariant (natural_below a.n a.table.now a.enciphered small) (rw (natural_length a.n a.table.now a.enciphered small) small))

-- the character that is looked up stands in the table
pub bounds-table-nibble : goal.bounds-table-nibble
bounds-table-nibble c = rw (c.nibble-nibble.ensures, c.requires.1.whole) (row_at_lt c.args.enciphered (c.loop-i.i - 1))

pub digit-requires : goal.digit-requires
digit-requires c = digit_at c.args.table.now _ c.requires.1.digits (rw (c.nibble-nibble.ensures, c.requires.1.whole) (row_at_lt c.args.enciphered (c.loop-i.i - 1)))

pub overflow_add-w : goal.overflow_add-w
overflow_add-w c =
    let a = c.args in
    let small = c.requires.0 in
    let l = c.loop-i in
    let v = c.from.ensures ∙ c.digit.ensures ∙ ap (λ (k : ℕ). value_of (get_or a.table.now k 0)) c.nibble-nibble.ensures ∙ sym (natural_at a.n a.table.now a.enciphered small c.requires.1.whole (l.i - 1) (omega arith)) in
    rw v (record { fits = word_room (naturalRow a.n a.table.now a.enciphered small) l.i l.w (omega arith) (rw (natural_length a.n a.table.now a.enciphered small) (omega arith)) l.invariant (natural_below a.n a.table.now a.enciphered small) (rw (natural_length a.n a.table.now a.enciphered small) small) })

pub loop-i-preserved : goal.loop-i-preserved
loop-i-preserved c =
    let a = c.args in
    let small = c.requires.0 in
    let l = c.loop-i in
    let v = c.from.ensures ∙ c.digit.ensures ∙ ap (λ (k : ℕ). value_of (get_or a.table.now k 0)) c.nibble-nibble.ensures ∙ sym (natural_at a.n a.table.now a.enciphered small c.requires.1.whole (l.i - 1) (omega arith)) in
    rw v (word_next (naturalRow a.n a.table.now a.enciphered small) l.i l.w (omega arith) (rw (natural_length a.n a.table.now a.enciphered small) (omega arith)) l.invariant)

pub returns : goal.returns
returns c =
    let a = c.args in
    let small = c.requires.0 in
    let l = c.loop-i in
    let z : l.i ≡ 0 = omega arith in
    ap₂ (λ (n d : ℕ). record { length = n; digits = d }) (sym (natural_length a.n a.table.now a.enciphered small)) (l.invariant ∙ ap (λ (k : ℕ). word (drop k (naturalRow a.n a.table.now a.enciphered small))) z)
