-- How many elements the calls below the command level write.
-- Assumes nothing.
use Prim.Native.Nat.{ℕ, ◌+◌, ◌-◌, ◌≤◌}
use native.Mathlib.Omega.{arith}
use mathlib.Core.Path.{◌≡◌, sym, ap, ◌∙◌, subst}
use mathlib.Core.List.{List, [], ◌∷◌}
use mathlib.Core.Bool.{Bool, true, false}
use lib.ListN.{length, length-map, length-drop}
use lib.IntN.{ℤ}
use lib.Dec.{leb}
use Rattle.nibbles.specs.Nibbles.{within}
use Rattle.nibbles.proofs.Bytes.{nibs_length}
use Rattle.nibbles.proofs.Runs.{inside_low, every_below}
use Rattle.numbers.specs.Numbers.{Outcome, done, unless}
use Rattle.numbers.specs.declared.Refusal.TheVariants.{Field15, Check81, Room901}
use Rattle.numbers.proofs.Laws.{then_done, passed, value_of_lem}
use Rattle.codes.specs.Codes.{code_of, format_of}
use Rattle.pins.specs.Pins.{last_of, account_of, account_field, sized}
use Rattle.pins.proofs.Laws.{sized_done, account_done}
use Rattle.blocks.specs.Blocks.{read_row}
use Rattle.answers.proofs.Laws.{Blocky, sixteen_bytes, bytes_sixteen}
use Rattle.blocks.proofs.Laws.{read_pinned}
use Rattle.naturals.specs.Naturals.{table_sized, table_of, natural_pin}
use Rattle.ibm3624.specs.Ibm3624.{check_length, covers, differences, covered, modulo_ten, offset_of}
use Rattle.offsettexts.specs.OffsetTexts.{offset_text}
use Rattle.ibm3624.proofs.Laws.{covered_many}
use Rattle.naturals.proofs.Laws.{natural_done, natural_long}
use Rattle.offsettexts.proofs.Laws.{text_length}
use Rattle.offsets.specs.Offsets.{given, pin_with_natural, pin_and_natural, digits_given, offset_for, offset_judged, digits_judged, offset_made, offset_of_digits, differences_of}
use Rattle.offsets.proofs.Laws.{offset_parts, digits_parts, differences_parts, digits_alike, covers_within}
use Rattle.pvvdigits.specs.PvvDigits.{pvv_of}
use Rattle.pvv.specs.Pvv.{pvv_input, pvv_made}
use Rattle.pvvdigits.proofs.Laws.{pvv_length}
use Rattle.pvv.proofs.Laws.{call_input}
use Rattle.claims_blocks.specs.Claims.{IsBytes}
use Rattle.claims_numbers.specs.Numbers.{FourToTwelve, PinLength}

-- ---- the counts

-- eight bytes are sixteen nibbles
pub sized_sixteen : (bs ns : List ℕ) → sized 8 bs ≡ done ns → length ns ≡ 16
sized_sixteen bs ns e = let s = sized_done 8 bs ns e in ap length (sym s.1) ∙ nibs_length bs ∙ (let n = s.0 in omega arith)

-- the bytes of a row of sixteen are eight
pub eight : (o : Outcome (List ℕ)) (room : ℕ) → Blocky o room → (w : List ℕ) → o ≡ done w → length w ≡ 8
eight o room b w e = let x = (b w e).1 in ap length x.2 ∙ sixteen_bytes x.0 x.1

-- a natural PIN
pub natural_counts : (n : ℕ) (table enciphered : List ℕ) (room : ℕ) (w : List ℕ) → natural_pin n table enciphered room ≡ done w → PinLength n (length w)
natural_counts n table enciphered room w e =
    let t = natural_done n table enciphered room w e in
    let low = t.5 in
    let high = t.6 in
    let sixteen = sized_sixteen enciphered t.1 t.3 in
    let long : length w ≡ n = ap length (sym t.8) ∙ natural_long n t.0 t.1 (omega arith) in
    (long, (omega arith, omega arith))

-- an offset is no longer than its PIN
pub differences_short : (ps qs : List ℕ) → length (differences ps qs) ≤ length ps
unfolding differences
differences_short [] qs = omega arith
differences_short (p ∷ ps) [] = omega arith
differences_short (p ∷ ps) (q ∷ qs) = let h = differences_short ps qs in omega arith

pub offset_short : (m : ℕ) (ps qs : List ℕ) → length (offset_of m ps qs) ≤ length ps
offset_short m ps qs =
    let a = length-map (covered m ps qs) modulo_ten in
    let b = differences_short (last_of m ps) (last_of m qs) in
    let c = length-drop (length ps - m) ps in
    omega arith

-- so the text of one that was made of a PIN has twelve characters
pub text_twelve : (variable : Bool) (check : ℕ) (p : List ℕ × List ℕ) (ds w : List ℕ) → length p.0 ≤ 12 → offset_for variable check p ≡ done ds → ◌≡◌ {A = Outcome (List ℕ)} (done (offset_text ds)) (done w) → length w ≡ 12
text_twelve variable check p ds w short e f =
    let m = then_done (covers variable check (length p.0)) _ ds e in
    let h = offset_short m.0 p.0 p.1 in
    let same_length : length (offset_of m.0 p.0 p.1) ≡ length ds = ap length (value_of_lem m.2) in
    ap length (sym (value_of_lem f)) ∙ text_length ds (omega arith)

-- the rows of the offset calls
pub given_rows : (code check : ℕ) (block account table enciphered : List ℕ) (g : List ℕ × List ℕ × List ℕ) → given code check block account table enciphered ≡ done g
    → (length g.0 ≡ 16) × (length g.1 ≡ 12)
unfolding given
given_rows code check block account table enciphered g e =
    let c = then_done (check_length check) _ g e in
    let s = then_done (sized 8 block) _ g c.2 in
    let k = then_done (account_of account) _ g s.2 in
    let t = then_done (table_sized table) _ g k.2 in
    let x = then_done (sized 8 enciphered) _ g t.2 in
    let whole = value_of_lem x.2 in (
      ap (λ (r : List ℕ × List ℕ × List ℕ). length r.0) (sym whole) ∙ sized_sixteen block s.0 s.1,
      ap (λ (r : List ℕ × List ℕ × List ℕ). length r.1) (sym whole) ∙ (account_done account k.0 k.1).0,
    )

-- a PIN that was read there
pub pair_short : (code : ℕ) (table : List ℕ) (g : List ℕ × List ℕ × List ℕ) (p : List ℕ × List ℕ) → length g.0 ≡ 16 → length g.1 ≡ 12 → pin_and_natural code table g ≡ done p
    → length p.0 ≤ 12
unfolding pin_and_natural pin_with_natural
pair_short code table g p h k e =
    let f = then_done (format_of (code_of code)) _ p e in
    let t = then_done (table_of table) _ p f.2 in
    let d = then_done (read_row f.0 (account_field g.1) g.0) _ p t.2 in
    let pin = read_pinned f.0 (account_field g.1) g.0 d.0 (omega arith) h d.1 in
    subst (λ (r : List ℕ × List ℕ). length r.0 ≤ 12) (value_of_lem d.2) pin.short

pub made_twelve : (variable : Bool) (code check : ℕ) (block account table enciphered : List ℕ) (room : ℕ) (w : List ℕ)
    → offset_made variable code check block account table enciphered room ≡ done w → length w ≡ 12
made_twelve variable code check block account table enciphered room w e =
    let o = then_done (offset_judged variable code check block account table enciphered room) _ w e in
    let r = then_done (unless Room901 (leb 12 room) room) _ o.0 (sym (offset_parts variable check room code block account table enciphered) ∙ o.1) in
    let g = then_done (given code check block account table enciphered) _ o.0 r.2 in
    let p = then_done (pin_and_natural code table g.0) _ o.0 g.2 in
    let rows = given_rows code check block account table enciphered g.0 g.1 in
    text_twelve variable check p.0 o.0 w (pair_short code table g.0 p.0 rows.0 rows.1 p.1) p.2 o.2

pub of_digits_twelve : (variable : Bool) (check : ℕ) (pin natural : List ℕ) (room : ℕ) (w : List ℕ) → offset_of_digits variable check pin natural room ≡ done w → length w ≡ 12
of_digits_twelve variable check pin natural room w e =
    let o = then_done (digits_judged variable check pin natural room) _ w e in
    let r = then_done (unless Room901 (leb 12 room) room) _ o.0 (sym (digits_parts variable check room pin natural) ∙ o.1) in
    let p = then_done (digits_given check pin natural) _ o.0 r.2 in
    text_twelve variable check p.0 o.0 w (digits_alike check pin natural p.0 p.1).pin.short p.2 o.2

-- as many digits as are covered: at least four, where the check length and the PIN have four
pub covers_four : (variable : Bool) (check n m : ℕ) → 4 ≤ check → 4 ≤ n → covers variable check n ≡ done m → 4 ≤ m
covers_four true check n m c h e = subst (λ (k : ℕ). 4 ≤ k) (value_of_lem e) h
covers_four false check n m c h e = subst (λ (k : ℕ). 4 ≤ k) (passed Check81 (leb check n) check m e).1 c

-- a check length that was judged, by itself, with digits and with a block
check_least : (check k : ℕ) → check_length check ≡ done k → 4 ≤ check
check_least check k e = inside_low 4 12 check (passed Field15 (within 4 12 check) check k e).0

pub digits_check : (check : ℕ) (pin natural : List ℕ) (p : List ℕ × List ℕ) → digits_given check pin natural ≡ done p → 4 ≤ check
unfolding digits_given
digits_check check pin natural p e = let c = then_done (check_length check) _ p e in check_least check c.0 c.1

pub given_check : (code check : ℕ) (block account table enciphered : List ℕ) (g : List ℕ × List ℕ × List ℕ) → given code check block account table enciphered ≡ done g → 4 ≤ check
unfolding given
given_check code check block account table enciphered g e = let c = then_done (check_length check) _ g e in check_least check c.0 c.1

pub differences_counts : (variable : Bool) (check : ℕ) (pin natural : List ℕ) (room : ℕ) (zs : List ℤ) → differences_of variable check pin natural room ≡ done zs → FourToTwelve (length zs)
differences_counts variable check pin natural room zs e =
    let r = then_done (unless Room901 (leb 12 room) room) _ zs (sym (differences_parts variable check room pin natural) ∙ e) in
    let p = then_done (digits_given check pin natural) _ zs r.2 in
    let ps = p.0.0 in
    let qs = p.0.1 in
    let a = digits_alike check pin natural p.0 p.1 in
    let m = then_done (covers variable check (length ps)) _ zs p.2 in
    let k = m.0 in
    let most = covers_within variable check (length ps) k m.1 in
    let least = covers_four variable check (length ps) k (digits_check check pin natural p.0 p.1) a.pin.long m.1 in
    let short = a.pin.short in
    let alike = a.long in
    let d = covered_many k ps qs most alike in
    let whole : length (covered k ps qs) ≡ length zs = ap length (value_of_lem m.2) in
    (omega arith, omega arith)

-- the PVV's input
pub input_eight : (code index : ℕ) (block account : List ℕ) (room : ℕ) (w : List ℕ) → pvv_input code index block account room ≡ done w → length w ≡ 8
input_eight code index block account room = eight (pvv_input code index block account room) room (call_input code index block account room)

-- a PVV
pub pvv_four : (enciphered : List ℕ) (room : ℕ) → IsBytes enciphered → (w : List ℕ) → pvv_made enciphered room ≡ done w → length w ≡ 4
unfolding pvv_made
pvv_four enciphered room b w e =
    let r = then_done (unless Room901 (leb 4 room) room) _ w e in
    let s = then_done (sized 8 enciphered) _ w r.2 in
    let x = bytes_sixteen enciphered s.0 (every_below 255 enciphered b) s.1 in
    ap length (sym (value_of_lem s.2)) ∙ length-map (pvv_of s.0) (λ d. 0x30 + d) ∙ pvv_length s.0 x.nibbles x.long
