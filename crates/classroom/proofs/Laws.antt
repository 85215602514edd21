-- A block's text is what a command's field of 16 hex takes, and it stands for the block's nibbles.
-- Assumes nothing.
use Prim.Native.Nat.{ℕ, ◌+◌, ◌<◌}
use native.Mathlib.Omega.{arith}
use mathlib.Core.Path.{◌≡◌, refl, ap₂}
use mathlib.Core.List.{List, [], ◌∷◌, map}
use mathlib.Core.Bool.{Bool, true, false}
use lib.Dec.{ltb}
use borrow.Author.Tests.{ltb-true, ltb-false, lt-leb, le-leb}
use Rattle.alphabet.specs.Alphabet.{admits, all_of, value_of}
use Rattle.alphabet.specs.declared.Class.TheVariants.{CapitalHex}
use Rattle.nibbles.specs.Nibbles.{nibs}
use Rattle.nibbles.proofs.Lists.{Below}
use Rattle.nibbles.proofs.Bytes.{nibs_below}
use Rattle.classroom.specs.Text.{character_of, spelled}

-- a nibble's character is of the class and has the nibble's value
abbrev Reads : ℕ → Type 0
Reads n = (admits CapitalHex (character_of n) ≡ true) × (value_of (character_of n) ≡ n)

reads_by : (n : ℕ) (digit : Bool) → n < 16 → ltb n 10 ≡ digit → Reads n
unfolding character_of value_of
reads_by n true h e =
    let l = ltb-true n 10 e in (
      rw (e, le-leb 0x30 (0x30 + n) (omega arith), le-leb (0x30 + n) 0x39 (omega arith)),
      rw (e, lt-leb 0x41 (0x30 + n) (omega arith)) (omega arith),
    )
reads_by n false h e =
    let l = ltb-false n 10 e in (
      rw (e, le-leb 0x30 (0x37 + n) (omega arith), lt-leb (0x37 + n) 0x39 (omega arith), le-leb 0x41 (0x37 + n) (omega arith), le-leb (0x37 + n) 0x46 (omega arith)),
      rw (e, le-leb 0x41 (0x37 + n) (omega arith)) (omega arith),
    )

all_read : (ns : List ℕ) → Below 16 ns → (all_of CapitalHex (map character_of ns) ≡ true) × (map value_of (map character_of ns) ≡ ns)
unfolding all_of
all_read [] b = (refl, refl)
all_read (n ∷ ns) b =
    let first = reads_by n (ltb n 10) b.0 refl in
    let rest = all_read ns b.1 in
    (rw (first.0, rest.0), ap₂ (λ (x : ℕ) (xs : List ℕ). x ∷ xs) first.1 rest.1)

pub text_reads : (bytes : List ℕ) → Below 256 bytes → (all_of CapitalHex (spelled bytes) ≡ true) × (map value_of (spelled bytes) ≡ nibs bytes)
text_reads bytes b = all_read (nibs bytes) (nibs_below bytes b)
