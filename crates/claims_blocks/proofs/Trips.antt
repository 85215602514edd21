-- What is written shows its PIN; what shows a PIN is written by it.
-- Assumes nothing.
use Prim.Native.Nat.{ℕ, ◌+◌}
use native.Mathlib.Omega.{arith}
use mathlib.Core.Path.{◌≡◌, refl, sym, ap, ◌∙◌}
use mathlib.Core.List.{List, map}
use mathlib.Core.Bool.{Bool, true, false}
use lib.ListN.{length, drop, length-append, length-drop, length-map}
use Rattle.nibbles.specs.Nibbles.{within}
use Rattle.nibbles.proofs.Rows.{xors_twice}
use Rattle.numbers.specs.Numbers.{done}
use Rattle.formats.specs.Formats.{lead_of, fill_of, veiled, leads, lead_width, fits, filled}
use Rattle.blocks.specs.Blocks.{veil, clear_row, contents, read_row, write_row}
use Rattle.blocks.proofs.Laws.{lead_short}
use Rattle.formats.specs.declared.Format.{Format}
use Rattle.claims_blocks.specs.Claims.{IsPin, IsRow, RoundTrip, RefusedExactly}
use Rattle.claims_blocks.proofs.Judged.{Only, Fault, not_done, not_refused}
use Rattle.claims_blocks.proofs.Lists.{behind_is, every_drop, every_map, drop_map, xors_length, xors_nibbles}
use Rattle.claims_blocks.proofs.Table.{filled_fits, fill_ends, unfilled, unfilled_nibble, refilled}
use Rattle.claims_blocks.proofs.Rows.{Shows, read_as, leads_length, shown_reads, reads_shown, reads_faults}

-- ---- the veil

-- taken off again, it leaves the row
veil_twice : (on : Bool) (with ns : List ℕ) → length ns ≡ length with → veil on with (veil on with ns) ≡ ns
veil_twice true with ns h = xors_twice ns with h
veil_twice false with ns h = refl

pub veil_row : (on : Bool) (with ns : List ℕ) → IsRow with → IsRow ns → IsRow (veil on with ns)
veil_row true with ns w r = (xors_length ns with (omega arith) ∙ r.0, xors_nibbles ns with r.1 w.1)
veil_row false with ns w r = r

-- ---- the round trip

-- the nibbles of the fill that are used
abbrev used : Format → List ℕ → List ℕ → List ℕ
used f ds fill = drop (lead_width (lead_of f) + length ds) fill

module _ (f : Format) (ds fill : List ℕ) (p : IsPin ds) (r : IsRow fill) where
  used_length : lead_width (lead_of f) + length ds + length (used f ds fill) ≡ 16
  used_length = rw (length-drop (lead_width (lead_of f) + length ds) fill) (omega (arith, lead_short (lead_of f)))

  written_shows : Shows (lead_of f) (fill_of f) (clear_row f ds fill) ds
  written_shows =
      let nibbles = every_drop (within 0 15) (lead_width (lead_of f) + length ds) fill r.1 in
      record {
        pin = p;
        rest = map (filled (fill_of f)) (used f ds fill);
        laid = refl;
        fill = every_map (within 0 15) (fits (fill_of f)) (filled (fill_of f)) (filled_fits (fill_of f)) (used f ds fill) nibbles;
        ends = fill_ends f (used f ds fill) (omega (arith, used_length, lead_short (lead_of f)));
      }

  clear_length : length (clear_row f ds fill) ≡ 16
  clear_length = simp (length-append, length-map, leads_length) used_length

pub round_trip : RoundTrip
unfolding read_row write_row contents
round_trip f with ds fill w p r =
    let whole = clear_length f ds fill p r in
    ap (read_as (lead_of f) (fill_of f)) (veil_twice (veiled f) with (clear_row f ds fill) (omega arith))
    ∙ shown_reads (lead_of f) (fill_of f) (clear_row f ds fill) ds (omega arith) (written_shows f ds fill p r)

-- ---- and back

-- the fill that writes a clear row again
pub fill_again : Format → List ℕ → List ℕ
fill_again f clear = map (unfilled (fill_of f)) clear

pub fill_row : (f : Format) (clear : List ℕ) → IsRow clear → IsRow (fill_again f clear)
unfolding fill_again
fill_row f clear r =
    (length-map clear (unfilled (fill_of f)) ∙ r.0, every_map (within 0 15) (within 0 15) (unfilled (fill_of f)) (unfilled_nibble (fill_of f)) clear r.1)

-- a row that shows a PIN is written by it
shown_writes : (f : Format) (ns ds : List ℕ) → Shows (lead_of f) (fill_of f) ns ds → clear_row f ds (fill_again f ns) ≡ ns
unfolding fill_again
shown_writes f ns ds s =
    let k = fill_of f in
    let w = lead_width (lead_of f) in
    let n = length ds in
    let behind : drop (w + n) ns ≡ s.rest = ap (drop (w + n)) (sym s.laid) ∙ behind_is (leads (lead_of f) n) ds s.rest w n (leads_length (lead_of f) n) refl in
    rw (drop_map (unfilled k) (w + n) ns, behind, refilled k s.rest s.fill) s.laid

-- a block is refused for its contents only
pub read_faults : (f : Format) (with ns : List ℕ) → Only Fault (read_row f with ns)
unfolding read_row contents
read_faults f with ns = reads_faults (lead_of f) (fill_of f) (veil (veiled f) with ns)

-- a block that is accepted is written by the PIN that was read, with the fill taken from the clear block
pub accepted_written : (f : Format) (with ns ds : List ℕ) → IsRow with → IsRow ns → read_row f with ns ≡ done ds
    → IsPin ds × (write_row f with ds (fill_again f (veil (veiled f) with ns)) ≡ ns)
unfolding read_row write_row contents
accepted_written f with ns ds w r e =
    let clear = veil (veiled f) with ns in
    let s = reads_shown (lead_of f) (fill_of f) clear ds (veil_row (veiled f) with ns w r).0 e in
    (s.pin, ap (veil (veiled f) with) (shown_writes f clear ds s) ∙ veil_twice (veiled f) with ns (omega arith))

pub refused_exactly_lem : RefusedExactly
refused_exactly_lem f with ns w r = (
  λ h ds fill p q e. not_refused (read_row f with ns) ds h (ap (read_row f with) (sym e) ∙ round_trip f with ds fill w p q),
  λ h. not_done (read_row f with ns) (read_faults f with ns) (λ ds e.
      let clear = veil (veiled f) with ns in
      let a = accepted_written f with ns ds w r e in
      h ds (fill_again f clear) a.0 (fill_row f clear (veil_row (veiled f) with ns w r)) a.1),
)
