-- Rows of sixteen nibbles, and outcomes as the answers that are written.
-- Assumes nothing.
use Prim.Native.Nat.{ℕ, ◌≤◌}
use native.Mathlib.Omega.{arith}
use mathlib.Core.Path.{◌≡◌, refl, sym, ap, ◌∙◌}
use mathlib.Core.List.{List}
use lib.ListN.{length}
use lib.Dec.{lit<}
use Rattle.nibbles.specs.Nibbles.{row, word, nibs, packs}
use Rattle.nibbles.proofs.Lists.{Below}
use Rattle.nibbles.proofs.Rows.{row_length, row_below, row_word}
use Rattle.nibbles.proofs.Bytes.{nibs_length, nibs_below, nibs_packs, packs_length}
use Rattle.numbers.specs.Numbers.{Outcome, done, refused}
use Rattle.pins.specs.Pins.{sized, account_of, account_field}
use Rattle.pins.specs.Answers.{reading_of}
use Rattle.pins.proofs.Laws.{account_done, sized_done}
use Rattle.numbers.specs.Promise.{Does, quietly}
use Rattle.numbers.specs.declared.Reply.{Reply}
use Rattle.numbers.proofs.Laws.{does_as}
use Rattle.pins.specs.declared.Pin.{Pin}
use Rattle.numbers.specs.declared.Refusal.{Refusal}
use Rattle.std.specs.Prelude.{Result}
use Rattle.answers.specs.Answers.{block_of, bytes_of, Roomy, digits_in, RoomyDigits}

-- ---- rows of sixteen nibbles

pub record Sixteen (ns : List ℕ) : Type 0 where
  pub long : length ns ≡ 16
  pub nibbles : Below 16 ns

-- the field of an account, and the nibbles of eight bytes
pub field_sixteen : (account digits : List ℕ) → account_of account ≡ done digits → Sixteen (account_field digits)
field_sixteen account digits e =
    let n = account_done account digits e in
    record { long = omega (arith, n.0); nibbles = (lit< tt, (lit< tt, (lit< tt, (lit< tt, n.1)))) }

pub bytes_sixteen : (bs ns : List ℕ) → Below 256 bs → sized 8 bs ≡ done ns → Sixteen ns
bytes_sixteen bs ns b e =
    let s = sized_done 8 bs ns e in
    rw (← s.1) (record { long = nibs_length bs ∙ (let n = s.0 in omega arith); nibbles = nibs_below bs b })

-- a row's word holds it, and its bytes are eight
pub sixteen_word : (ns : List ℕ) → Sixteen ns → row 16 (word ns) ≡ ns
sixteen_word ns s = ap (λ (n : ℕ). row n (word ns)) (sym s.long) ∙ row_word ns s.nibbles

pub sixteen_nibs : (ns : List ℕ) → Sixteen ns → nibs (packs ns) ≡ ns
sixteen_nibs ns s = nibs_packs 8 ns s.long s.nibbles

pub sixteen_bytes : (ns : List ℕ) → Sixteen ns → length (packs ns) ≡ 8
sixteen_bytes ns s = packs_length 8 ns s.long

-- the word of a row is the word of the row's bytes
pub block_held : (w : ℕ) (ns : List ℕ) → Sixteen ns → w ≡ word ns → w ≡ word (nibs (packs ns))
block_held w ns s e = e ∙ ap word (sym (sixteen_nibs ns s))

pub row_sixteen : (w : ℕ) → Sixteen (row 16 w)
row_sixteen w = record { long = row_length 16 w; nibbles = row_below 16 w }

pub field_row_sixteen : (a : ℕ) → Sixteen (account_field (row 12 a))
field_row_sixteen a = record { long = omega (arith, row_length 12 a); nibbles = (lit< tt, (lit< tt, (lit< tt, (lit< tt, row_below 12 a)))) }

-- ---- an outcome that is a block, as the answer that is written

-- its value, where it has one, is the bytes of a row of sixteen nibbles, and there is room for it
abbrev pub Blocky : Outcome (List ℕ) → ℕ → Type 0
Blocky o room = (bs : List ℕ) → o ≡ done bs → (8 ≤ room) × ((ns : List ℕ) × Sixteen ns × (bs ≡ packs ns))

pub answered : (o : Outcome (List ℕ)) (room : ℕ) → Blocky o room → bytes_of (block_of o) ≡ o
answered (done bs) room b =
    let p = b bs refl in
    let e : nibs bs ≡ p.1.0 = ap nibs p.1.2 ∙ sixteen_nibs p.1.0 p.1.1 in
    ap done (ap (λ (ns : List ℕ). packs (row 16 (word ns))) e ∙ ap packs (sixteen_word p.1.0 p.1.1) ∙ sym p.1.2)
answered (refused q) room b = refl

pub roomy : (o : Outcome (List ℕ)) (room : ℕ) → Blocky o room → Roomy (block_of o) room
roomy (done bs) room b = (b bs refl).0
roomy (refused q) room b = tt

-- an answer of that outcome has room, and is what the call says
module _ (o : Outcome (List ℕ)) (room : ℕ) (blocky : Blocky o room) (j : Result ℕ Refusal) (e : j ≡ block_of o) where
  pub answer_room : Roomy j room
  answer_room = rw e (roomy o room blocky)

  pub answer_says : {before after : List ℕ} {r : Reply} → Does (quietly (bytes_of j)) before r after → Does (quietly o) before r after
  answer_says d = does_as (bytes_of j) o (ap bytes_of e ∙ answered o room blocky) d

-- ---- an outcome that is a PIN, as the answer that is written

-- its value, where it has one, is at most twelve digits, and there is room for them
abbrev pub Digital : Outcome (List ℕ) → ℕ → Type 0
Digital o room = (ds : List ℕ) → o ≡ done ds → (length ds ≤ 12) × (length ds ≤ room) × Below 16 ds

pub answered_digits : (o : Outcome (List ℕ)) (room : ℕ) → Digital o room → digits_in (reading_of o) ≡ o
answered_digits (done ds) room d = ap done (row_word ds (d ds refl).2)
answered_digits (refused q) room d = refl

pub roomy_digits : (o : Outcome (List ℕ)) (room : ℕ) → Digital o room → RoomyDigits (reading_of o) room
roomy_digits (done ds) room d = ((d ds refl).0, (d ds refl).1)
roomy_digits (refused q) room d = tt

-- an answer of that outcome has room, and is what the call says
module _ (o : Outcome (List ℕ)) (room : ℕ) (digital : Digital o room) (j : Result Pin Refusal) (e : j ≡ reading_of o) where
  pub digits_room : RoomyDigits j room
  digits_room = rw e (roomy_digits o room digital)

  pub digits_say : {before after : List ℕ} {r : Reply} → Does (quietly (digits_in j)) before r after → Does (quietly o) before r after
  digits_say d = does_as (digits_in j) o (ap digits_in e ∙ answered_digits o room digital) d
