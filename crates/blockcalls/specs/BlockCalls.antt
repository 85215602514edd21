-- The calls that read and write a block, each one chain in the paper's order.
use Rattle.std.specs.Prelude.{ℕ, List, leb}
use Rattle.nibbles.specs.Nibbles.{packs}
use Rattle.numbers.specs.Numbers.{Outcome, done, and_then, unless}
use Rattle.numbers.specs.declared.Refusal.TheVariants.{Room901}
use Rattle.codes.specs.Codes.{code_of, format_of, block_width}
use Rattle.pins.specs.Pins.{pin_handed, account_of, account_field, sized}
use Rattle.blocks.specs.Blocks.{read_row, write_row}

-- the call that reads a block: 901, 15 for block and account, 23, 69, the block
unfoldable pub read_block : ℕ → List ℕ → List ℕ → ℕ → Outcome (List ℕ)
read_block code block account room =
    and_then (unless Room901 (leb 12 room) room)
    (λ _. and_then (sized (block_width code) block)
    (λ ns. and_then (account_of account)
    (λ digits. and_then (format_of (code_of code))
    (λ f. read_row f (account_field digits) ns))))

-- the call that writes a block: 901, 15 for account and fill, 23, 69, 24, 20
unfoldable pub write_block : ℕ → List ℕ → List ℕ → List ℕ → ℕ → Outcome (List ℕ)
write_block code pin account fill room =
    and_then (unless Room901 (leb (block_width code) room) room)
    (λ _. and_then (account_of account)
    (λ digits. and_then (sized 8 fill)
    (λ fs. and_then (format_of (code_of code))
    (λ f. and_then (pin_handed pin)
    (λ ds. done (packs (write_row f (account_field digits) ds fs)))))))
