-- The offset that BK answers is the one defined for the same PIN in DA and EA.
-- Assumes nothing.
use Prim.Native.Nat.{ℕ, ◌+◌, ◌≤◌}
use mathlib.Core.Path.{◌≡◌, refl, sym, ap, ap₂, ◌∙◌}
use mathlib.Core.List.{List, ◌++◌, map}
use mathlib.Core.Bool.{Bool, not}
use lib.ListN.{length, take, drop}
use lib.Seq.{take_at, drop_at}
use Rattle.nibbles.specs.Nibbles.{nibs}
use Rattle.alphabet.specs.Alphabet.{value_of}
use Rattle.numbers.specs.Numbers.{Outcome, done, refused, and_then}
use Rattle.numbers.specs.Promise.{Said}
use Rattle.numbers.specs.declared.Refusal.TheVariants.{Weak86}
use Rattle.numbers.proofs.Laws.{then_done, passed, value_of_lem}
use Rattle.settings.specs.declared.Settings.{Settings}
use Rattle.formats.specs.declared.Format.{Format}
use Rattle.pins.specs.Pins.{account_field, sized}
use Rattle.pins.proofs.Laws.{sized_done}
use Rattle.blocks.specs.Blocks.{read_row}
use Rattle.naturals.specs.Naturals.{natural_of}
use Rattle.ibm3624.specs.Ibm3624.{covers, offset_of}
use Rattle.offsettexts.specs.OffsetTexts.{offset_text}
use Rattle.offsettexts.proofs.Laws.{text_length}
use Rattle.offsets.specs.Offsets.{pin_with_natural, offset_for}
use Rattle.frame.specs.Frame.{opening}
use Rattle.frame.proofs.Laws.{framed_bounds, opening_length}
use Rattle.keybox.specs.KeyBox.{slices, boxed}
use Rattle.keybox.proofs.Laws.{boxed_done}
use Rattle.responses.specs.Responses.{offset, responding}
use Rattle.offsetting.specs.Offsetting.{part, table_in}
use Rattle.weak.specs.Weak.{is_on, weak_pins}
use Rattle.bkfinish.specs.BkFinish.{bk_finish}
use Rattle.bk.specs.Bk.{bk_answer}
use Rattle.bk.proofs.Places.{answer_sound}
use Rattle.claims_numbers.proofs.Numbers.{never_00}
use Rattle.claims_commands.proofs.Shapes.{reached}
use Rattle.claims_commands.proofs.Listing.{bk_shape}
use Rattle.claims_verification.specs.Calls.{Call, answer, shown_in}
use Rattle.claims_verification.specs.Exchange.{ReadsBk, OffsetOfBkVerifies}
use Rattle.claims_verification.proofs.Verdicts.{command_verdict_exactly, verdict_bytes}

-- the row of the enciphered block
enciphered_row : (end : ℕ) (g h : Bool) (block enciphered : List ℕ) (rows : List ℕ × List ℕ) → boxed end g h block enciphered ≡ done rows → rows.1 ≡ nibs enciphered
unfolding slices
enciphered_row end g h block enciphered rows e =
    let n = then_done (sized 8 block) _ rows (boxed_done end g h block enciphered rows e).0 in
    let k = then_done (sized 8 enciphered) _ rows n.2 in
    ap (λ (x : List ℕ × List ℕ). x.1) (sym (value_of_lem k.2)) ∙ sym (sized_done 8 enciphered k.0 k.1).1

-- the natural PIN that goes with a PIN
natural_found : (f : Format) (ts : List ℕ) (g : List ℕ × List ℕ × List ℕ) (p : List ℕ × List ℕ) → pin_with_natural f ts g ≡ done p → p.1 ≡ natural_of (length p.0) ts g.2
unfolding pin_with_natural
natural_found f ts g p e =
    let d = then_done (read_row f (account_field g.1) g.0) _ p e in
    let is = value_of_lem d.2 in
    ap (λ (x : List ℕ × List ℕ). x.1) (sym is) ∙ ap (λ (x : List ℕ × List ℕ). natural_of (length x.0) ts g.2) is

-- ---- BK

module _ (settings : Settings) (a : Call) (r : ReadsBk settings a) where
  abbrev finish : Outcome (List ℕ)
  finish = bk_finish settings.variable a.command r.reaches.fields r.reaches.rows

  -- 00 goes with an offset over covered digits
  made : (ds : List ℕ) → finish ≡ done ds → (m : ℕ) × (covers settings.variable r.reaches.fields.offsetting.check (length r.found.0) ≡ done m) × (offset_of m r.found.0 r.found.1 ≡ ds)
  unfolding bk_finish
  made ds e =
      let o = then_done (offset_for settings.variable r.reaches.fields.offsetting.check r.found) _ ds (rw r.paired at e) in
      let k = passed Weak86 (not (is_on r.found.0 (weak_pins r.reaches.fields.weak a.command))) o.0 ds o.2 in
      let c = then_done (covers settings.variable r.reaches.fields.offsetting.check (length r.found.0)) _ o.0 o.1 in
      (c.0, c.1, value_of_lem c.2 ∙ k.1)

  -- which has twelve digits at most
  short : (ds : List ℕ) → finish ≡ done ds → length ds ≤ 12
  unfolding bk_answer
  short ds e =
      (answer_sound settings a.pin_key_good a.pvk_good a.command (settings.header + 2) a.block a.enciphered (offset ds, r.reaches.fields.trailer)
      (rw (r.reaches.read, r.reaches.boxed, e))).payload.0

  -- so behind header, response code and number its text is written
  answered_00 : (answer settings a).number ≡ 0
      → (m : ℕ) × (covers settings.variable r.reaches.fields.offsetting.check (length r.found.0) ≡ done m)
      × (part (answer settings a).written (settings.header + 4) 12 ≡ offset_text (offset_of m r.found.0 r.found.1))
  answered_00 zero = by finish refl (reached (bk_shape settings) a.pin_key_good a.pvk_good a.room a.command a.block a.enciphered r.reaches)
    where
      s : List ℕ
      s = a.command

      header : ℕ
      header = settings.header

      tail : List ℕ
      tail = drop r.reaches.fields.trailer a.command

      by : (o : Outcome (List ℕ)) → finish ≡ o → answer settings a ≡ responding header s (and_then o (λ ds. done (offset_text ds ++ tail)))
          → (m : ℕ) × (covers settings.variable r.reaches.fields.offsetting.check (length r.found.0) ≡ done m)
          × (part (answer settings a).written (settings.header + 4) 12 ≡ offset_text (offset_of m r.found.0 r.found.1))
      by (done ds) f e =
          let x = made ds f in
          let opened = opening_length header s 0 (framed_bounds header s r.reaches.framed).2 in
          let written : (answer settings a).written ≡ opening header s 0 ++ (offset_text ds ++ tail) = ap (λ (y : Said ℕ). y.written) e in
          let dropped : drop (header + 4) (answer settings a).written ≡ offset_text ds ++ tail = ap (drop (header + 4)) written ∙ drop_at (opening header s 0) (offset_text ds ++ tail) (header + 4) opened in
          (x.0, x.1, ap (take 12) dropped ∙ take_at (offset_text ds) tail 12 (text_length ds (short ds f)) ∙ ap offset_text (sym x.2))
      by (refused q) f e = absurd (never_00 q (sym zero ∙ ap (λ (y : Said ℕ). y.number) e))

-- ---- the exchange

pub offset_of_bk_verifies : OffsetOfBkVerifies
offset_of_bk_verifies w x y a b r r' variable zero pin box inputs shown =
    let o = answered_00 x a r zero in
    let p = r.reaches.fields in
    let v = r'.reaches.fields in
    let natural : r.found.1 ≡ natural_of (length r.found.0) (table_in a.command p.offsetting) (nibs a.enciphered) =
    natural_found _ _ _ r.found r.paired ∙ ap (natural_of (length r.found.0) (table_in a.command p.offsetting)) (enciphered_row _ _ _ _ _ r.reaches.rows r.reaches.boxed) in
    let natural' : r'.found.1 ≡ natural_of (length r'.found.0) (table_in b.command v.offsetting) (nibs b.enciphered) =
    natural_found _ _ _ r'.found r'.paired ∙ ap (natural_of (length r'.found.0) (table_in b.command v.offsetting)) (enciphered_row _ _ _ _ _ r'.reaches.rows r'.reaches.boxed) in
    let table : table_in a.command p.offsetting ≡ table_in b.command v.offsetting = ap (map value_of) inputs.1 in
    let same : r.found.1 ≡ r'.found.1 = natural ∙ rw (pin, table, box) (sym natural') in
    let covered : covers y.variable v.offsetting.check (length r'.found.0) ≡ done o.0 = rw (← variable, ← inputs.0, ← pin) o.1 in
    let text : shown_in b.command v ≡ offset_text (offset_of o.0 r'.found.0 r'.found.1) =
    shown ∙ o.2 ∙ ap₂ (λ (ds es : List ℕ). offset_text (offset_of o.0 ds es)) pin same in
    (verdict_bytes w y b r').0 ((command_verdict_exactly w y b r' o.0 covered).1.1 text)
