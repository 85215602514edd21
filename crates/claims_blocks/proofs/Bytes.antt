-- The statements' PINs, rows and bytes, and those of the laws.
-- Assumes nothing.
use Prim.Native.Nat.{ℕ, suc}
use native.Mathlib.Omega.{arith}
use mathlib.Core.Path.{◌≡◌, refl, ◌∙◌}
use mathlib.Core.List.{List, [], ◌∷◌}
use mathlib.Core.Bool.{true}
use lib.ListN.{length}
use Rattle.nibbles.specs.Nibbles.{nibs, packs, within, every}
use Rattle.nibbles.proofs.Lists.{Below}
use Rattle.nibbles.proofs.Bytes.{nibs_length, nibs_below}
use Rattle.nibbles.proofs.Runs.{every_below, inside}
use Rattle.numbers.specs.Numbers.{done}
use Rattle.pins.specs.Pins.{pin_handed}
use Rattle.pins.proofs.Laws.{Pinned, handed_done}
use Rattle.answers.proofs.Laws.{Sixteen}
use Rattle.claims_blocks.specs.Claims.{IsPin, IsRow, IsBytes}

below_every : (m : ℕ) (ns : List ℕ) → Below (suc m) ns → every (within 0 m) ns ≡ true
unfolding every
below_every m [] b = refl
below_every m (n ∷ ns) b = rw (inside 0 m n (omega arith) (omega arith)) (below_every m ns b.1)

-- ---- rows

pub sixteen : (ns : List ℕ) → IsRow ns → Sixteen ns
sixteen ns r = record { long = r.0; nibbles = every_below 15 ns r.1 }

pub is_row : (ns : List ℕ) → Sixteen ns → IsRow ns
is_row ns s = (s.long, below_every 15 ns s.nibbles)

pub nibs_row : (bs : List ℕ) → length bs ≡ 8 → IsBytes bs → IsRow (nibs bs)
nibs_row bs h b = (nibs_length bs ∙ omega arith, below_every 15 (nibs bs) (nibs_below bs (every_below 255 bs b)))

packs_below : (ns : List ℕ) → Below 16 ns → Below 256 (packs ns)
unfolding packs
packs_below [] b = tt
packs_below (h ∷ []) b = tt
packs_below (h ∷ l ∷ ns) b = (omega arith, packs_below ns b.1.1)

pub packs_bytes : (ns : List ℕ) → Sixteen ns → IsBytes (packs ns)
packs_bytes ns s = below_every 255 (packs ns) (packs_below ns s.nibbles)

-- ---- PINs

pub pinned_pin : (ds : List ℕ) → IsPin ds → Pinned ds
pinned_pin ds p = record { long = p.0; short = p.1; digits = every_below 9 ds p.2 }

pub is_pin : (ds : List ℕ) → Pinned ds → IsPin ds
is_pin ds p = (p.long, p.short, below_every 9 ds p.digits)

-- a PIN that is handed in is taken, and nothing else is
pub pin_handed_lem : (ds : List ℕ) → IsPin ds → pin_handed ds ≡ done ds
pin_handed_lem ds p = rw (inside 4 12 (length ds) p.0 p.1, p.2)

pub handed_pin : (ds es : List ℕ) → pin_handed ds ≡ done es → IsPin ds × (ds ≡ es)
handed_pin ds es h = let p = handed_done ds es h in (is_pin ds p.1, p.0)
