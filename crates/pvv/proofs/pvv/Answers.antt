-- `pvv::pvv` meets its contract.
use Prim.Native.Nat.{ℕ}
use mathlib.Core.List.{List, ◌++◌}
use mathlib.Core.Path.{◌≡◌, ap, sym, ◌∙◌}
use lib.ListN.{length, drop}
use Rattle.pvvdigits.proofs.Laws.{pvv_spelled, pvv_characters}
use Rattle.pvv.proofs.Laws.{made_done}
use Rattle.pvvdigits.specs.PvvDigits.{pvv_of}
use Rattle.pvv.specs.Pvv.{pvv_made}
use Rattle.pins.proofs.Laws.{sized_held, block_row}
use Rattle.alphabet.specs.Alphabet.{characters}
use Rattle.numbers.proofs.Laws.{does_write}
use Rattle.nibbles.proofs.Bytes.{bytes_below}
use Rattle.nibbles.specs.Nibbles.{nibs}
use Rattle.pvv.proofs.pvv.Goals as goal

pub returns : goal.returns
returns c =
    let a = c.args in
    let es = a.enciphered.now in
    let o = pvv_made es (length a.out.now) in
    let s = sized_held 8 es c.sized_row.result c.sized_row.ensures _ c.in-Ok.is in
    let input = block_row es (nibs es) _ s.0 (bytes_below es c.type_inv.enciphered) s.1 in
    let ds = characters (pvv_of (nibs es)) in
    let four : length ds ≡ 4 = ap (λ (ns : List ℕ). length (characters (pvv_of ns))) (sym input) ∙ pvv_spelled c.in-Ok.row in
    let digits = pvv_characters c.in-Ok.row c.digits_of.result c.digits_of.ensures ∙ ap (λ (ns : List ℕ). characters (pvv_of ns)) input in
    does_write o ds a.out.now _ c.done.result (made_done es (length a.out.now) c.if-out-lt4.false s.0) c.done.ensures.0 (c.done.ensures.1 ∙ sym four)
    (c.put_characters.ensures ∙ ap (λ (cs : List ℕ). cs ++ drop 4 a.out.now) digits ∙ ap (λ (n : ℕ). ds ++ drop n a.out.now) (sym four))
