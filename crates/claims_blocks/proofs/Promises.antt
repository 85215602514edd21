-- The cores that are rejected.
-- Assumes nothing.
use Prim.Native.Nat.{ℕ, zero, suc, ◌≤◌}
use native.Mathlib.Omega.{arith}
use mathlib.Core.Path.{◌≡◌, refl, sym, ap, ◌∙◌}
use mathlib.Core.List.{List, [], ◌∷◌}
use mathlib.Core.Bool.{Bool, false}
use lib.ListN.{length, get_or, drop, replicate, length-append, length-replicate, get_or-append}
use borrow.Author.Tests.{le-leb}
use Rattle.nibbles.specs.Nibbles.{nibs, packs, xors, every, leading}
use Rattle.alphabet.specs.Alphabet.{all_of, value_of}
use Rattle.numbers.specs.Numbers.{Outcome, done}
use Rattle.numbers.specs.Promise.{Does, quietly}
use Rattle.numbers.specs.declared.Reply.{Reply}
use Rattle.codes.specs.Codes.{code_of}
use Rattle.blocks.specs.Blocks.{contents, read_row, write_row}
use Rattle.blockcalls.specs.BlockCalls.{read_block, write_block}
use Rattle.pairs.specs.Pairs.{pair_of}
use Rattle.translation.specs.Translation.{translate_block}
use Rattle.claims_blocks.specs.Claims.{IsBytes}
use Rattle.claims_blocks.specs.Figures.{usual_account, usual_pin, long_pin, block_p1, block_p6}
use Rattle.claims_blocks.specs.Promises.{zeros, Only00, Apart, NotRefusing, NotFixed, NotSilent}

-- ---- refusing, and a fixed answer

-- what is done is answered 00. `xs` is named for the log of an edit that is refused here
pub only_00 : {o : Outcome (List ℕ)} {xs : List ℕ} (before : List ℕ) → o ≡ done xs → Only00 (quietly o) before
only_00 {xs = xs} before e r after d = d.number ∙ ap (λ (x : Outcome (List ℕ)). (quietly x).number) e

-- and begins the buffer
begins : {o : Outcome (List ℕ)} {x : ℕ} {xs : List ℕ} (before after : List ℕ) (r : Reply) → o ≡ done (x ∷ xs) → Does (quietly o) before r after → get_or after 0 0 ≡ x
begins before after r e d = ap (λ (bs : List ℕ). get_or bs 0 0) (rw e at d.buffer)

pub apart : {o o' : Outcome (List ℕ)} {x y : ℕ} {xs ys : List ℕ} (before : List ℕ) → o ≡ done (x ∷ xs) → o' ≡ done (y ∷ ys) → (x ≡ y → ⊥) → Apart (quietly o) (quietly o') before
apart before e e' n r after d d' = n (sym (begins before after r e d) ∙ begins before after r e' d')

-- more room than enough changes nothing
read_room : (code : ℕ) (block account : List ℕ) (room : ℕ) → 12 ≤ room → read_block code block account room ≡ read_block code block account 12
unfolding read_block
read_room code block account room h = rw (le-leb 12 room h)

write_room : (code : ℕ) (pin account fill : List ℕ) (room : ℕ) → 12 ≤ room → write_block code pin account fill room ≡ write_block code pin account fill 12
unfolding write_block
write_room code pin account fill room h = rw (le-leb 8 room (omega arith))

translate_room : (restricted : Bool) (from to : ℕ) (block account fill : List ℕ) (room : ℕ) → 12 ≤ room
    → translate_block restricted from to block account fill room ≡ translate_block restricted from to block account fill 12
unfolding translate_block
translate_room restricted from to block account fill room h = rw (le-leb 8 room (omega arith))

pub not_refusing : NotRefusing
unfolding nibs packs xors every leading all_of value_of code_of contents read_row write_row read_block write_block pair_of translate_block
not_refusing before h = (
  only_00 before (read_room 35 block_p1 usual_account (length before) h ∙ refl),
  only_00 before (write_room 35 usual_pin usual_account zeros (length before) h ∙ refl),
  only_00 before (translate_room false 35 1 block_p1 usual_account zeros (length before) h ∙ refl),
)

pub not_fixed : NotFixed
unfolding nibs packs xors every leading all_of value_of code_of contents read_row write_row read_block write_block pair_of translate_block
not_fixed before h = (
  apart before (read_room 35 block_p1 usual_account (length before) h ∙ refl) (read_room 34 block_p6 usual_account (length before) h ∙ refl) (omega arith),
  apart before (write_room 35 usual_pin usual_account zeros (length before) h ∙ refl) (write_room 35 long_pin usual_account zeros (length before) h ∙ refl) (omega arith),
  apart before (translate_room false 35 1 block_p1 usual_account zeros (length before) h ∙ refl) (translate_room false 34 1 block_p6 usual_account zeros (length before) h ∙ refl) (omega arith),
)

-- ---- writing nothing

-- a byte that is another
other : ℕ → ℕ
other zero = 1
other (suc n) = 0

other_not : (n : ℕ) → other n ≡ n → ⊥
unfolding other
other_not zero h = omega arith
other_not (suc n) h = omega arith

other_byte : (n room : ℕ) → IsBytes (replicate room (other n))
unfolding other every
other_byte n zero = refl
other_byte zero (suc room) = other_byte 0 room
other_byte (suc n) (suc room) = other_byte (suc n) room

pub not_silent : NotSilent
unfolding every
not_silent said zero s = ([], refl, refl, λ r d. omega (arith, simp length-append at (ap length d.buffer)))
not_silent said (suc room) s =
    let first = get_or said.written 0 0 in
    let before = replicate (suc room) (other first) in (
      before,
      length-replicate (suc room) (other first),
      other_byte first (suc room),
      λ r d. other_not first (ap (λ (bs : List ℕ). get_or bs 0 0) d.buffer ∙ get_or-append said.written (drop (length said.written) before) 0 0 s),
    )
