-- The calls: what they come to where nothing stands before the block, and what a call that is done has judged.
-- Assumes nothing.
use Prim.Native.Nat.{ℕ, ◌≤◌}
use mathlib.Core.Path.{◌≡◌, sym, ap, ◌∙◌}
use mathlib.Core.Logic.{inl, inr, ⊎_elim}
use mathlib.Core.List.{List}
use mathlib.Core.Bool.{Bool}
use lib.ListN.{length}
use lib.Dec.{leb, eqb, lit≤}
use borrow.Author.Tests.{le-leb, leb-true, eq-eqb, eqb-true}
use Rattle.nibbles.specs.Nibbles.{nibs, packs}
use Rattle.nibbles.proofs.Bytes.{packs_nibs}
use Rattle.numbers.specs.Numbers.{done}
use Rattle.numbers.specs.declared.Refusal.TheVariants.{Field15, Room901, NotHere69}
use Rattle.numbers.proofs.Laws.{then_done, passed, value_of_lem}
use Rattle.formats.specs.Formats.{veiled}
use Rattle.codes.specs.Codes.{code_of, format_of, known_code}
use Rattle.formats.specs.declared.Format.{Format}
use Rattle.codes.specs.declared.Code.TheVariants.{Built}
use Rattle.pins.specs.Pins.{pin_handed, account_of, account_field}
use Rattle.blocks.specs.Blocks.{veil, read_row, write_row}
use Rattle.blockcalls.specs.BlockCalls.{read_block, write_block}
use Rattle.answers.proofs.Laws.{Sixteen, field_sixteen, sixteen_nibs, sixteen_bytes}
use Rattle.blocks.proofs.Laws.{written_row}
use Rattle.blockcalls.proofs.Laws.{call_read}
use Rattle.restriction.specs.Restriction.{permitted}
use Rattle.pairs.specs.Pairs.{pair_of}
use Rattle.translation.specs.Translation.{translate_block}
use Rattle.claims_blocks.specs.Claims.{IsPin, IsBytes, Written, WrittenReads, ReadOrRefused, BlockRefusedExactly, BlockLengthExactly, TranslationKeeps}
use Rattle.claims_blocks.proofs.Judged.{judged, Only, Fault, decided, not_done, not_refused}
use Rattle.claims_blocks.proofs.Bytes.{sixteen, is_row, nibs_row, packs_bytes, pinned_pin, is_pin, pin_handed_lem, handed_pin}
use Rattle.claims_blocks.proofs.Trips.{veil_row, round_trip, fill_again, fill_row, accepted_written, read_faults}
use Rattle.claims_blocks.proofs.Lengths.{length_exactly}

-- a format that is built and an account that is one
pub record Handed (code : ℕ) (account : List ℕ) : Type 0 where
  pub format : Format
  pub named : format_of (code_of code) ≡ done format
  pub digits : List ℕ
  pub known : account_of account ≡ done digits

abbrev field : {code : ℕ} {account : List ℕ} → Handed code account → List ℕ
field h = account_field h.digits

module _ (code : ℕ) (account : List ℕ) (h : Handed code account) where
  -- then the block decides
  reading : (block : List ℕ) (room : ℕ) → length block ≡ 8 → 12 ≤ room → read_block code block account room ≡ read_row h.format (field h) (nibs block)
  unfolding read_block
  reading block room s r = rw (le-leb 12 room r, eq-eqb (length block) 8 s, h.known, h.named)

  faults : (block : List ℕ) (room : ℕ) → length block ≡ 8 → 12 ≤ room → Only Fault (read_block code block account room)
  faults block room s r = rw (reading block room s r) (read_faults h.format (field h) (nibs block))

  writing : (pin fill : List ℕ) (room : ℕ) → 8 ≤ room → length fill ≡ 8 → IsPin pin
      → write_block code pin account fill room ≡ done (packs (write_row h.format (field h) pin (nibs fill)))
  unfolding write_block
  writing pin fill room r s p = rw (le-leb 8 room r, h.known, eq-eqb (length fill) 8 s, h.named, pin_handed_lem pin p)

  -- a PIN is written as eight bytes that are read as it
  kept : (pin fill : List ℕ) (room room' : ℕ) → IsPin pin → length fill ≡ 8 → IsBytes fill → 8 ≤ room → 12 ≤ room'
      → (block : List ℕ) × (write_block code pin account fill room ≡ done block) × (length block ≡ 8) × IsBytes block × (read_block code block account room' ≡ done pin)
  kept pin fill room room' p s b r r' =
      let w = field_sixteen account h.digits h.known in
      let q = nibs_row fill s b in
      let ns = write_row h.format (field h) pin (nibs fill) in
      let row : Sixteen ns = written_row h.format (field h) pin (nibs fill) w (pinned_pin pin p) (sixteen (nibs fill) q) in (
        packs ns,
        writing pin fill room r s p,
        sixteen_bytes ns row,
        packs_bytes ns row,
        reading (packs ns) room' (sixteen_bytes ns row) r' ∙ ap (read_row h.format (field h)) (sixteen_nibs ns row)
            ∙ round_trip h.format (field h) pin (nibs fill) (is_row (field h) w) p q,
      )

  -- bytes that are read as a PIN are written by it
  read_bytes : (block pin : List ℕ) (room : ℕ) → length block ≡ 8 → IsBytes block → 12 ≤ room → read_block code block account room ≡ done pin
      → (fill : List ℕ) × IsPin pin × (length fill ≡ 8) × IsBytes fill × (write_block code pin account fill 8 ≡ done block)
  read_bytes block pin room s b r e =
      let f = h.format in
      let w = is_row (field h) (field_sixteen account h.digits h.known) in
      let q = nibs_row block s b in
      let clear = veil (veiled f) (field h) (nibs block) in
      let fill = fill_again f clear in
      let row = sixteen fill (fill_row f clear (veil_row (veiled f) (field h) (nibs block) w q)) in
      let a = accepted_written f (field h) (nibs block) pin w q (sym (reading block room s r) ∙ e) in (
        packs fill,
        a.0,
        sixteen_bytes fill row,
        packs_bytes fill row,
        writing pin (packs fill) 8 (lit≤ tt) (sixteen_bytes fill row) a.0 ∙ rw (sixteen_nibs fill row, a.1, packs_nibs block),
      )

-- what a call that wrote a block has judged
pub record Wrote (code : ℕ) (pin account fill : List ℕ) (room : ℕ) : Type 0 where
  pub handed : Handed code account
  pub taken : IsPin pin
  pub size : length fill ≡ 8
  pub enough : 8 ≤ room

-- what a call that read a block has judged
pub record Read (code : ℕ) (block account pin : List ℕ) : Type 0 where
  pub handed : Handed code account
  pub size : length block ≡ 8
  pub row : read_row handed.format (field handed) (nibs block) ≡ done pin

wrote : (code : ℕ) (pin account fill block : List ℕ) (room : ℕ) → write_block code pin account fill room ≡ done block → Wrote code pin account fill room
unfolding write_block
wrote code pin account fill block room e =
    let r = judged Room901 (leb 8 room) room _ block e in
    let a = then_done (account_of account) _ block r.1 in
    let s = judged Field15 (eqb (length fill) 8) (nibs fill) _ block a.2 in
    let g = then_done (format_of (code_of code)) _ block s.1 in
    let p = then_done (pin_handed pin) _ block g.2 in
    record {
      handed = record { format = g.0; named = g.1; digits = a.0; known = a.1 };
      taken = (handed_pin pin p.0 p.1).0;
      size = eqb-true (length fill) 8 s.0;
      enough = leb-true 8 room r.0;
    }

pub was_read : (code : ℕ) (block account pin : List ℕ) (room : ℕ) → read_block code block account room ≡ done pin → Read code block account pin
unfolding read_block
was_read code block account pin room e =
    let r = judged Room901 (leb 12 room) room _ pin e in
    let s = judged Field15 (eqb (length block) 8) (nibs block) _ pin r.1 in
    let a = then_done (account_of account) _ pin s.1 in
    let g = then_done (format_of (code_of code)) _ pin a.2 in
    record {
      handed = record { format = g.0; named = g.1; digits = a.0; known = a.1 };
      size = eqb-true (length block) 8 s.0;
      row = g.2;
    }

-- ---- the claims

-- a code and an account as the statements name them
abbrev handed_in : (code : ℕ) (f : Format) (account digits : List ℕ) → code_of code ≡ Built f → account_of account ≡ done digits → Handed code account
handed_in code f account digits c a = record { format = f; named = ap format_of c; digits = digits; known = a }

pub written : Written
written code f c pin account digits fill room room' a = kept code account (handed_in code f account digits c a) pin fill room room'

pub written_reads : WrittenReads
written_reads code pin account fill block room room' b r e =
    let w = wrote code pin account fill block room e in
    let k = kept code account w.handed pin fill room room' w.taken w.size b w.enough r in
    rw (value_of_lem (sym e ∙ k.1)) k.4

pub read_or_refused : ReadOrRefused
read_or_refused code f c block account digits room s a r =
    let o = read_block code block account room in
    ⊎_elim (λ d. inl (d.0, is_pin d.0 (call_read code block account room d.0 d.1).1, d.1)) inr
    (decided o (faults code account (handed_in code f account digits c a) block room s r))

pub block_refused_exactly : BlockRefusedExactly
block_refused_exactly code f c block account digits room s b a r =
    let handed = handed_in code f account digits c a in (
      λ h pin fill p l q room' r' e. not_refused (read_block code block account room) pin h (written_reads code pin account fill block room' room q r e),
      λ h. not_done (read_block code block account room) (faults code account handed block room s r) (λ pin e.
          let w = read_bytes code account handed block pin room s b r e in
          h pin w.0 w.1 w.2 w.3 8 (lit≤ tt) w.4),
    )

pub block_length_exactly : BlockLengthExactly
block_length_exactly code f c block account digits room s b a r =
    rw (reading code account (handed_in code f account digits c a) block room s r)
    (length_exactly f (account_field digits) (nibs block) (is_row (account_field digits) (field_sixteen account digits a)) (nibs_row block s b))

-- the two formats of a translation
pair_formats : (restricted : Bool) (from to : ℕ) (pair : Format × Format) → pair_of restricted from to ≡ done pair
    → (format_of (code_of from) ≡ done pair.0) × (format_of (code_of to) ≡ done pair.1)
unfolding pair_of
pair_formats restricted from to pair h =
    let a = then_done (known_code (code_of from)) _ pair h in
    let b = then_done (known_code (code_of to)) _ pair a.2 in
    let f = then_done (format_of (code_of from)) _ pair b.2 in
    let t = then_done (format_of (code_of to)) _ pair f.2 in
    let v = passed NotHere69 (permitted restricted f.0 t.0) (f.0, t.0) pair t.2 in
    (f.1 ∙ ap (λ (x : Format × Format). done x.0) v.1, t.1 ∙ ap (λ (x : Format × Format). done x.1) v.1)

pub translation_keeps : TranslationKeeps
unfolding translate_block
translation_keeps restricted from to pair block account fill ds room room' e p s b r =
    let x = was_read from block account ds room' e in
    let g = x.handed in
    let formats = pair_formats restricted from to pair p in
    let first : pair.0 ≡ g.format = cc (formats.0, g.named) in
    let row : read_row pair.0 (field g) (nibs block) ≡ done ds = rw first x.row in
    let handed : Handed to account = record { format = pair.1; named = formats.1; digits = g.digits; known = g.known } in
    let c = call_read from block account room' ds e in
    let pin = is_pin ds c.1 in
    let k = kept to account handed ds fill room room' pin s b r c.0 in
    let out = writing to account handed ds fill room r s pin in
    let same : translate_block restricted from to block account fill room ≡ write_block to ds account fill room = (rw (le-leb 8 room r, eq-eqb (length block) 8 x.size, g.known, eq-eqb (length fill) 8 s, p, row) (sym out)) in
    (k.0, same ∙ k.1, k.1, k.4)
