-- "Translation reads with one format and writes with another, same account."
use Rattle.std.specs.Prelude.{ℕ, List, Bool, leb}
use Rattle.nibbles.specs.Nibbles.{packs}
use Rattle.numbers.specs.Numbers.{Outcome, done, and_then, unless}
use Rattle.numbers.specs.declared.Refusal.TheVariants.{Room901}
use Rattle.codes.specs.Codes.{block_width}
use Rattle.pins.specs.Pins.{account_of, account_field, sized}
use Rattle.blocks.specs.Blocks.{read_row, write_row}
use Rattle.pairs.specs.Pairs.{pair_of}
use Rattle.formats.specs.declared.Format.{Format}

-- the block is read in the one format and written in the other, under the same field
abbrev pub carried_block : Outcome (Format × Format) → List ℕ → List ℕ → List ℕ → Outcome (List ℕ)
carried_block formats field ns fs =
    and_then formats
    (λ pair. and_then (read_row pair.0 field ns)
    (λ ds. done (packs (write_row pair.1 field ds fs))))

-- the call that translates: 901, 15 for block, account and fill, 23, 69, the block
unfoldable pub translate_block : Bool → ℕ → ℕ → List ℕ → List ℕ → List ℕ → ℕ → Outcome (List ℕ)
translate_block restricted from to block account fill room =
    and_then (unless Room901 (leb (block_width to) room) room)
    (λ _. and_then (sized (block_width from) block)
    (λ ns. and_then (account_of account)
    (λ digits. and_then (sized 8 fill)
    (λ fs. carried_block (pair_of restricted from to) (account_field digits) ns fs))))
