-- What the code found of a command that was read.
-- Assumes nothing.
use Prim.Native.Nat.{ℕ, ◌+◌, ◌≤◌}
use mathlib.Core.Path.{◌≡◌}
use mathlib.Core.List.{List}
use mathlib.Core.Bool.{Bool}
use Rattle.std.specs.Prelude.{Ok}
use lib.ListN.{length}
use Rattle.bkfields.proofs.Places.{placed, block_placed}
use Rattle.bkfields.proofs.Reading.{fields_found}
use Rattle.bkfields.specs.BkFields.{bk_fields}
use Rattle.bkfields.specs.Answers.{Placed, bk_read}
use Rattle.bkfields.specs.declared.Bk.{Bk}

-- the fields that the code found have their places in the command
pub found_placed : (restricted : Bool) (s : List ℕ) (at : ℕ) (p : Bk) → Ok p ≡ bk_read (bk_fields restricted s at) → Placed s p
found_placed restricted s at p e = let f = fields_found (bk_fields restricted s at) p e in placed restricted s at p f.0 f.1

pub found_block : (restricted : Bool) (s : List ℕ) (at : ℕ) (p : Bk) → Ok p ≡ bk_read (bk_fields restricted s at) → p.sealed.block + 16 ≤ length s
found_block restricted s at p e = let f = fields_found (bk_fields restricted s at) p e in block_placed restricted s at p f.0 f.1
