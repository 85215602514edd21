-- `weak::is_weak` meets its contract.
use Prim.Native.Nat.{ℕ, ◌+◌}
use native.Mathlib.Omega.{arith}
use mathlib.Core.Path.{◌≡◌, sym, ap, ◌∙◌}
use mathlib.Core.List.{List, ◌++◌}
use lib.ListN.{length, take, drop, length-map, length-drop}
use lib.Seq.{take_at}
use Rattle.nibbles.specs.Nibbles.{row}
use Rattle.nibbles.proofs.Rows.{row_length}
use Rattle.alphabet.specs.Alphabet.{characters}
use Rattle.weak.specs.Weak.{is_on, weak_pins}
use Rattle.weak.specs.Answers.{lists, Lies}
use Rattle.weak.specs.declared.Weak.{Weak}
use Rattle.weak.proofs.Laws.{lists_pin, on_other}
use Rattle.weak.proofs.is_weak.Goals as goal

-- the characters of a row have its length
characters_length : (n w : ℕ) → length (characters (row n w)) ≡ n
characters_length n w = length-map (row n w) (λ d. 0x30 + d) ∙ row_length n w

-- what was written over the beginning of the room
written : (n w : ℕ) (room out : List ℕ) → out ≡ characters (row n w) ++ room → take n out ≡ characters (row n w)
written n w room out e = ap (take n) e ∙ take_at (characters (row n w)) room n (characters_length n w)

-- its characters stand in the list where the PIN is on it
pin_listed : (k : Weak) (s : List ℕ) (w : ℕ) → Lies k s → lists (characters (row k.length w)) k.count k.length (drop k.list s) ≡ is_on (row k.length w) (weak_pins k s)
pin_listed k s w l = let room = l.inside in lists_pin (row k.length w) k.length (row_length k.length w) k.count (drop k.list s) (rw length-drop (omega arith)) l.digits

pub returns-then-weak-n : goal.returns-then-weak-n
returns-then-weak-n c =
    let a = c.args in
    let room = c.requires.inside in
    sym (on_other (row a.n a.digits) a.weak.length (λ e. let alike = sym e ∙ row_length a.n a.digits in omega arith)
    a.weak.count (drop a.weak.list a.command.now) (rw length-drop (omega arith)))

pub returns : goal.returns
returns c =
    let a = c.args in
    c.lists.ensures
    ∙ ap (λ (text : List ℕ). lists text a.weak.count a.weak.length (drop a.weak.list a.command.now)) (written a.weak.length a.digits _ _ c.put_characters.ensures)
    ∙ pin_listed a.weak a.command.now a.digits c.requires
    ∙ ap (λ (k : ℕ). is_on (row k a.digits) (weak_pins a.weak a.command.now)) (omega arith)
