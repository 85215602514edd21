-- The cores that the promises of the offset call and of the PVV call reject, at the figures that the bench prints.
use Rattle.std.specs.Prelude.{ℕ, ◌≤◌, List, [], ◌∷◌, false, length, replicate}
use Rattle.numbers.specs.Promise.{Said, quietly}
use Rattle.offsets.specs.Offsets.{offset_made}
use Rattle.pvv.specs.Pvv.{pvv_made}
use Rattle.claims_blocks.specs.Figures.{usual_account}
use Rattle.claims_blocks.specs.Promises.{Only00, Apart}
use Rattle.claims_offsets.specs.Figures.{block_p2, table_p9, enciphered_p9}

-- the first enciphered input of P11, and its last
abbrev pub enciphered_p11 : List ℕ
enciphered_p11 = 0x0A ∷ 0x5F ∷ 0xC3 ∷ 0xE1 ∷ 0x7B ∷ 0x2D ∷ 0x94 ∷ 0x88 ∷ []

abbrev pub letters_p11 : List ℕ
letters_p11 = replicate 8 0xFF

-- what the offset call says to P9 with a check length, over the buffer that it is lent
abbrev pub offsets : ℕ → List ℕ → Said ℕ
offsets check before = quietly (offset_made false 1 check block_p2 usual_account table_p9 enciphered_p9 (length before))

-- what the PVV call says to an enciphered input
abbrev pub pvvs : List ℕ → List ℕ → Said ℕ
pvvs enciphered before = quietly (pvv_made enciphered (length before))

-- a core that refuses everything is rejected, at each of the two calls: no answer but 00 fits
abbrev pub OffsetsNotRefusing : Type 0
OffsetsNotRefusing = ((before : List ℕ) → 12 ≤ length before → Only00 (offsets 4 before) before)
    × ((before : List ℕ) → 4 ≤ length before → Only00 (pvvs enciphered_p11 before) before)

-- a core with one fixed offset, or one fixed PVV, is rejected: another check length needs another offset, another enciphered input
-- another PVV
abbrev pub OffsetsNotFixed : Type 0
OffsetsNotFixed = ((before : List ℕ) → 12 ≤ length before → Apart (offsets 4 before) (offsets 5 before) before)
    × ((before : List ℕ) → 4 ≤ length before → Apart (pvvs enciphered_p11 before) (pvvs letters_p11 before) before)
