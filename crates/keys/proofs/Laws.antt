-- What the reader of a key answers.
-- Assumes nothing.
use Prim.Native.Nat.{ℕ, ◌+◌, ◌-◌, ◌≤◌, ◌<◌}
use native.Mathlib.Nat.{add-zero}
use native.Mathlib.Omega.{arith}
use mathlib.Core.Path.{◌≡◌, ◌∙◌}
use mathlib.Core.List.{List}
use mathlib.Core.Bool.{Bool, true, false, ◌&&◌}
use Rattle.std.specs.Prelude.{Option, Result}
use lib.ListN.{length, get_or, drop, length-drop}
use lib.Seq.{get_or-drop, drop-drop}
use borrow.Author.Tests.{le-leb, lt-leb}
use Rattle.alphabet.specs.Alphabet.{admits}
use Rattle.alphabet.specs.declared.Class.TheVariants.{CapitalHex}
use Rattle.numbers.specs.Numbers.{refused}
use Rattle.numbers.specs.declared.Refusal.{Refusal}
use Rattle.numbers.specs.declared.Refusal.TheVariants.{Field15}
use Rattle.fields.specs.Fields.{Found, marked, behind}
use Rattle.fields.specs.Answers.{found_at}
use Rattle.fields.specs.declared.Cursor.{Cursor}
use Rattle.fields.proofs.Laws.{found_behind, marked_there, unmarked_other}
use Rattle.uses.specs.declared.Use.{Use}
use Rattle.keyblocks.specs.KeyBlocks.{key_block}
use Rattle.keys.specs.Keys.{hex_key, letter_u, letter_t, letter_s, admitted, lettered, key}
use Rattle.keys.specs.declared.Letters.{Letters}

-- ---- what the code answers where it stands

module _ (s : List ℕ) (at : ℕ) where
  module _ (letters : Letters) (for : Use) where
    -- no letter
    pub key_missing : length s ≤ at → key letters for (drop at s) ≡ refused Field15
    unfolding key
    key_missing h = rw (length-drop at s, lt-leb 1 (length s - at) (omega arith))

    module _ (room : at < length s) (o : Result (Option ℕ × Cursor) Refusal) where
      -- some letter
      some : key letters for (drop at s) ≡ lettered letters for (drop at s)
      unfolding key
      some = rw (length-drop at s, le-leb 1 (length s - at) (omega arith))

      is : (m : ℕ) → get_or s at 0 ≡ m → marked m (drop at s) ≡ true
      is m e = marked_there m s at room e

      other : (m : ℕ) → (get_or s at 0 ≡ m → ⊥) → marked m (drop at s) ≡ false
      other m e = unmarked_other m s at room e

      -- what is found behind the letter
      after : (reader : List ℕ → Found (Option ℕ)) → o ≡ found_at (at + 1) (reader (drop (at + 1) s)) → o ≡ found_at at (behind 1 (reader (drop 1 (drop at s))))
      after reader a = a ∙ rw (drop-drop 1 at s) (found_behind at 1 (reader (drop (at + 1) s)))

      -- U and 32 hex characters
      pub double_there : get_or s at 0 ≡ letter_u → o ≡ found_at (at + 1) (admitted letters.double (hex_key 32 (drop (at + 1) s))) → o ≡ found_at at (key letters for (drop at s))
      unfolding lettered
      double_there e a = rw (some, is letter_u e) (after (λ cs. admitted letters.double (hex_key 32 cs)) a)

      -- T and 48
      pub triple_there : get_or s at 0 ≡ letter_t → o ≡ found_at (at + 1) (admitted letters.triple (hex_key 48 (drop (at + 1) s))) → o ≡ found_at at (key letters for (drop at s))
      unfolding lettered
      triple_there e a = rw (some, other letter_u (λ f. omega arith), is letter_t e) (after (λ cs. admitted letters.triple (hex_key 48 cs)) a)

      -- S and a key block
      pub block_there : get_or s at 0 ≡ letter_s → o ≡ found_at (at + 1) (admitted letters.block (key_block for (drop (at + 1) s))) → o ≡ found_at at (key letters for (drop at s))
      unfolding lettered
      block_there e a =
          rw (some, other letter_u (λ f. omega arith), other letter_t (λ f. omega arith), is letter_s e) (after (λ cs. admitted letters.block (key_block for cs)) a)

      -- none of these, and perhaps a bare key
      pub bare_there : (bare : Bool) → (get_or s at 0 ≡ letter_u → ⊥) → (get_or s at 0 ≡ letter_t → ⊥) → (get_or s at 0 ≡ letter_s → ⊥)
          → bare ≡ (letters.bare && admits CapitalHex (get_or s at 0)) → o ≡ found_at at (admitted bare (hex_key 32 (drop at s))) → o ≡ found_at at (key letters for (drop at s))
      unfolding lettered
      bare_there bare u t b e a =
          rw (some, other letter_u u, other letter_t t, other letter_s b, get_or-drop at s 0 0, add-zero at, ← e) a

-- what the letter decides
pub ruleset letters_there = (key_missing, triple_there, block_there, bare_there)
