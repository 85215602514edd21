-- The input's row, and its index.
-- Assumes nothing.
use Prim.Native.Nat.{ℕ, ◌+◌, ◌-◌, ◌*◌, ◌/◌, ◌^◌, ◌≤◌, ◌<◌}
use mathlib.Core.Path.{◌≡◌, sym, ap, ap₂, ◌∙◌, subst}
use mathlib.Core.List.{List, ◌∷◌, ◌++◌}
use lib.ListN.{length, take, drop, length-drop}
use lib.Seq.{slice}
use lib.Dec.{leb, lit≤}
use borrow.Author.Tests.{leb-true}
use Rattle.nibbles.specs.Nibbles.{row, word}
use Rattle.nibbles.proofs.Rows.{row_length, row_below, row_take, row_part, word_under, word_append}
use Rattle.numbers.specs.Numbers.{done}
use Rattle.numbers.specs.declared.Refusal.TheVariants.{Field15}
use Rattle.numbers.proofs.Laws.{passed}
use Rattle.pins.specs.Pins.{last_of}
use Rattle.pins.proofs.Laws.{Pinned, pin_row}
use Rattle.pvvinput.specs.PvvInput.{input_row, key_index}

-- a part of a row is below the power of as many nibbles or more
pub part_under : (from n k w : ℕ) → from + n ≤ 16 → n ≤ k → word (slice from (from + n) (row 16 w)) < 16 ^ k
part_under from n k w h l = rw (row_part 16 from n w h) (word_under k (row n (w / 16 ^ from)) (row_below n (w / 16 ^ from)) (rw (row_length n (w / 16 ^ from)) l))

pub input_word : (account index pin behind : ℕ) → behind ≡ word (slice 0 4 (row 16 pin)) * 16 + index → behind * 16 ^ 11 + word (slice 1 12 (row 16 account)) ≡ word (input_row (row 12 account) index (row 16 pin))
unfolding input_row word
input_word account index pin behind e =
    let digits = drop 1 (row 12 account) in
    let l : length digits ≡ 11 = length-drop 1 (row 12 account) ∙ ap (λ (n : ℕ). n - 1) (row_length 12 account) in
    sym (ap (λ (n : ℕ). word (drop (n - 11) (row 12 account) ++ (index ∷ take 4 (row 16 pin)))) (row_length 12 account)
    ∙ word_append digits (index ∷ take 4 (row 16 pin)) ∙ ap₂ (λ (n w : ℕ). w * 16 ^ n + word digits) l (sym e) ∙ ap (λ (ns : List ℕ). behind * 16 ^ 11 + word (drop 1 ns)) (sym (row_take 12 16 account (lit≤ tt))))

-- the PIN's first four are those of the word that holds it
pub input_pin : (account ds : List ℕ) (index : ℕ) → Pinned ds → input_row account index (row 16 (word ds)) ≡ input_row account index ds
unfolding input_row
input_pin account ds index p =
    ap (λ (l : List ℕ). last_of 11 account ++ (index ∷ l))
    (row_take 4 16 (word ds) (lit≤ tt) ∙ sym (row_take 4 (length ds) (word ds) p.long) ∙ ap (take 4) (pin_row ds p))

-- the key index is small
pub index_small : (index k : ℕ) → key_index index ≡ done k → k ≤ 6
index_small index k e = let j = passed Field15 (leb index 6) index k e in subst (λ (m : ℕ). m ≤ 6) j.1 (leb-true index 6 j.0)
