-- What the code found of a command that was read.
-- Assumes nothing.
use Prim.Native.Nat.{ℕ, ◌+◌, ◌≤◌}
use mathlib.Core.Path.{◌≡◌}
use mathlib.Core.List.{List}
use Rattle.std.specs.Prelude.{Ok}
use lib.ListN.{length}
use Rattle.uses.specs.declared.Use.{Use}
use Rattle.verifyfields.proofs.Places.{placed, block_placed}
use Rattle.verifyfields.proofs.Reading.{fields_found}
use Rattle.verifyfields.specs.VerifyFields.{verify_fields}
use Rattle.verifyfields.specs.Answers.{Placed, verification_read}
use Rattle.verifyfields.specs.declared.Verification.{Verification}

-- the fields that the code found have their places in the command
pub found_placed : (pin_key : Use) (s : List ℕ) (at : ℕ) (v : Verification) → Ok v ≡ verification_read (verify_fields pin_key s at) → Placed s v
found_placed pin_key s at v e = let f = fields_found (verify_fields pin_key s at) v e in placed pin_key s at v f.0 f.1

pub found_block : (pin_key : Use) (s : List ℕ) (at : ℕ) (v : Verification) → Ok v ≡ verification_read (verify_fields pin_key s at) → v.sealed.block + 16 ≤ length s
found_block pin_key s at v e = let f = fields_found (verify_fields pin_key s at) v e in block_placed pin_key s at v f.0 f.1
