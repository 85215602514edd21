-- The cores that the promises of the offset call and of the PVV call reject: what the calls say there is computed.
-- Assumes nothing.
use Prim.Native.Nat.{ℕ, ◌≤◌}
use native.Mathlib.Omega.{arith}
use mathlib.Core.Path.{◌≡◌, refl, ◌∙◌}
use mathlib.Core.List.{List}
use mathlib.Core.Bool.{Bool, false}
use lib.ListN.{length}
use borrow.Author.Tests.{le-leb}
use Rattle.nibbles.specs.Nibbles.{nibs, xors, every, leading}
use Rattle.alphabet.specs.Alphabet.{all_of, value_of}
use Rattle.codes.specs.Codes.{code_of}
use Rattle.blocks.specs.Blocks.{contents, read_row}
use Rattle.ibm3624.specs.Ibm3624.{differences}
use Rattle.offsets.specs.Offsets.{offset_judged, offset_made}
use Rattle.pvvdigits.specs.PvvDigits.{those, pvv_of}
use Rattle.pvv.specs.Pvv.{pvv_made}
use Rattle.claims_blocks.specs.Figures.{usual_account}
use Rattle.claims_blocks.proofs.Promises.{only_00, apart}
use Rattle.claims_offsets.specs.Figures.{block_p2, table_p9, enciphered_p9}
use Rattle.claims_offsets.specs.Cores.{enciphered_p11, letters_p11, OffsetsNotRefusing, OffsetsNotFixed}

-- ---- what the two calls say

-- more room than enough changes nothing
offset_room : (variable : Bool) (code check : ℕ) (block account table enciphered : List ℕ) (room : ℕ) → 12 ≤ room
    → offset_made variable code check block account table enciphered room ≡ offset_made variable code check block account table enciphered 12
unfolding offset_judged
offset_room variable code check block account table enciphered room h = rw (le-leb 12 room h)

pvv_room : (enciphered : List ℕ) (room : ℕ) → 4 ≤ room → pvv_made enciphered room ≡ pvv_made enciphered 4
unfolding pvv_made
pvv_room enciphered room h = rw (le-leb 4 room h)

-- ---- the cores

pub offsets_not_refusing : OffsetsNotRefusing
unfolding nibs xors every leading all_of value_of code_of contents read_row differences offset_judged those pvv_of pvv_made
offsets_not_refusing = (
  λ before h. only_00 before (offset_room false 1 4 block_p2 usual_account table_p9 enciphered_p9 (length before) h ∙ refl),
  λ before h. only_00 before (pvv_room enciphered_p11 (length before) h ∙ refl),
)

pub offsets_not_fixed : OffsetsNotFixed
unfolding nibs xors every leading all_of value_of code_of contents read_row differences offset_judged those pvv_of pvv_made
offsets_not_fixed = (
  λ before h. apart before (offset_room false 1 4 block_p2 usual_account table_p9 enciphered_p9 (length before) h ∙ refl)
      (offset_room false 1 5 block_p2 usual_account table_p9 enciphered_p9 (length before) h ∙ refl) (omega arith),
  λ before h. apart before (pvv_room enciphered_p11 (length before) h ∙ refl) (pvv_room letters_p11 (length before) h ∙ refl) (omega arith),
)
