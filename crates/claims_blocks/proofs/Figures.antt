-- A figure over every account.
-- Assumes nothing.
use native.Mathlib.Omega.{arith}
use mathlib.Core.List.{◌∷◌}
use lib.ListN.{length}
use borrow.Author.Tests.{le-leb, eq-eqb}
use Rattle.nibbles.specs.Nibbles.{nibs}
use Rattle.codes.specs.Codes.{code_of}
use Rattle.blocks.specs.Blocks.{read_row}
use Rattle.blockcalls.specs.BlockCalls.{read_block}
use Rattle.claims_blocks.specs.Figures.{Begins2D}

pub begins_2D : Begins2D
unfolding nibs code_of read_row read_block
begins_2D rest account digits room s a r = rw (le-leb 12 room r, eq-eqb (length (0x2D ∷ rest)) 8 (omega arith), a)
