-- What the calls' outcomes tell.
-- Assumes nothing.
use Prim.Native.Nat.{ℕ, ◌-◌, ◌^◌, ◌≤◌, ◌<◌}
use native.Mathlib.Omega.{arith}
use mathlib.Core.Path.{◌≡◌, refl, sym, ap, ◌∙◌, subst}
use mathlib.Core.List.{List, [], ◌∷◌, map}
use mathlib.Core.Bool.{◌&&◌}
use lib.ListN.{length, take, length-map, length-append, length-drop}
use lib.Seq.{length-take-le}
use lib.Dec.{leb, eqb, lit≤}
use borrow.Author.Tests.{leb-true, le-leb, eqb-true}
use Rattle.nibbles.specs.Nibbles.{row, word, nibs, packs, same}
use Rattle.nibbles.proofs.Lists.{Below, below_drop, below_take, below_weaken, map_below, and_left, below_append}
use Rattle.nibbles.proofs.Rows.{row_word, word_under}
use Rattle.nibbles.proofs.Bytes.{nibs_length}
use Rattle.alphabet.specs.Alphabet.{all_of, value_of, characters}
use Rattle.alphabet.specs.declared.Class.TheVariants.{Digit}
use Rattle.alphabet.proofs.Laws.{value_below}
use Rattle.numbers.specs.Numbers.{Outcome, done, unless, and_then}
use Rattle.numbers.specs.declared.Refusal.{Refusal}
use Rattle.numbers.specs.declared.Refusal.TheVariants.{Unverified01, Field15, Room901}
use Rattle.numbers.proofs.Laws.{then_done, passed, value_of_lem, result_ok}
use Rattle.codes.specs.Codes.{code_of, format_of}
use Rattle.pins.specs.Pins.{last_of, account_of, account_field, sized, verdict}
use Rattle.pins.proofs.Laws.{through, then_alike, Pinned, sized_done, account_done, account_row, block_row}
use Rattle.answers.proofs.Laws.{Blocky, Sixteen}
use Rattle.blocks.proofs.Laws.{read_pinned}
use Rattle.pvvdigits.specs.PvvDigits.{pvv_of}
use Rattle.pvvinput.specs.PvvInput.{input_row, key_index}
use Rattle.pvvinput.proofs.Laws.{index_small}
use Rattle.pvv.specs.Pvv.{presented, pvv_given, pin_read, pvv_input, pvv_made, pvv_verdict}
use Rattle.pvv.specs.Answers.{rows_of, given_of, rows_in}
use Rattle.pvv.specs.declared.Rows.{Rows}
use Rattle.std.specs.Prelude.{Result, Ok}

-- ---- the input

pub input_sixteen : (account ds : List ℕ) (index : ℕ) → length account ≡ 12 → Below 16 account → index ≤ 6 → Pinned ds → Sixteen (input_row account index ds)
unfolding input_row
input_sixteen account ds index l b k p = record {
  long = length-append (last_of 11 account) (index ∷ take 4 ds) ∙ (let m = length-drop (length account - 11) account in let n = length-take-le 4 ds p.long in omega arith);
  nibbles = below_append 16 (last_of 11 account) (index ∷ take 4 ds) (below_drop 16 (length account - 11) account b) (omega arith, below_take 16 4 ds (below_weaken 10 16 ds (lit≤ tt) p.digits));
}

-- ---- the fields at 15

pub given_each :
    (code index : ℕ) (block account : List ℕ) (g : List ℕ × List ℕ × ℕ) → pvv_given code index block account ≡ done g
    → (sized 8 block ≡ done g.0) × (account_of account ≡ done g.1) × (key_index index ≡ done g.2)
unfolding pvv_given
given_each code index block account g e =
    let s = then_done (sized 8 block) _ g e in
    let k = then_done (account_of account) _ g s.2 in
    let i = then_done (key_index index) _ g k.2 in
    subst (λ (h : List ℕ × List ℕ × ℕ). (sized 8 block ≡ done h.0) × (account_of account ≡ done h.1) × (key_index index ≡ done h.2)) (value_of_lem i.2) (s.1, k.1, i.1)

-- what the answer tells of the fields
module _ (code index : ℕ) (block account : List ℕ) (given : Result Rows Refusal) (e : given ≡ given_of (pvv_given code index block account)) where
  pub fields_of : Below 256 block → (r : Rows) → given ≡ Ok r → (pvv_given code index block account ≡ done (rows_in r)) × (r.index ≤ 6)
  fields_of b r h =
      let t = result_ok rows_of (pvv_given code index block account) r (sym h ∙ e) in
      let f = given_each code index block account t.0 t.1 in
      let k = ap (λ (x : Rows). x.index) t.2 in
      let ns = block_row block t.0.0 r.block f.0 b (ap (λ (x : Rows). x.block) t.2) in
      let ds = account_row account t.0.1 r.account f.1 (ap (λ (x : Rows). x.account) t.2) in (
        t.1 ∙ (λ i. done (sym ns i, sym ds i, sym k i)),
        subst (λ (m : ℕ). m ≤ 6) (sym k) (index_small index t.0.2 f.2),
      )

-- ---- the calls' chains in parts

-- what is given at 15, the PIN, the input
pub input_parts : (code index : ℕ) (block account : List ℕ) (room : ℕ)
    → pvv_input code index block account room
    ≡ and_then (unless Room901 (leb 8 room) room) (λ _. and_then (pvv_given code index block account) (λ g. and_then (pin_read code g) (λ ds. done (packs (input_row g.1 g.2 ds)))))
unfolding pvv_input pvv_given
input_parts code index block account room =
    sym (then_alike (unless Room901 (leb 8 room) room) _ _
    (λ _. through (sized 8 block) _ behind _
    (λ ns. through (account_of account) _ behind _
    (λ digits. through (key_index index) _ behind _
    (λ k. through (format_of (code_of code)) _ (λ (ds : List ℕ). done (packs (input_row digits k ds))) _ (λ f. refl))))))
  where
    behind : List ℕ × List ℕ × ℕ → Outcome (List ℕ)
    behind g = and_then (pin_read code g) (λ ds. done (packs (input_row g.1 g.2 ds)))

-- what is given at 15, the input and the PVV too, the PIN, the verdict
pub pvv_parts : (code index : ℕ) (block account enciphered pvv : List ℕ)
    → pvv_verdict code index block account enciphered pvv
    ≡ and_then (pvv_given code index block account) (λ g. and_then (sized 8 enciphered) (λ es. and_then (presented pvv) (λ ps. and_then (pin_read code g) (λ _. verdict (same (pvv_of es) ps)))))
unfolding pvv_verdict pvv_given
pvv_parts code index block account enciphered pvv =
    sym (through (sized 8 block) _ behind _
    (λ ns. through (account_of account) _ behind _
    (λ digits. through (key_index index) _ behind _
    (λ k. then_alike (sized 8 enciphered) _ _
    (λ es. then_alike (presented pvv) _ _
    (λ ps. through (format_of (code_of code)) _ (λ (ds : List ℕ). verdict (same (pvv_of es) ps)) _ (λ f. refl)))))))
  where
    behind : List ℕ × List ℕ × ℕ → Outcome (List ℕ)
    behind g = and_then (sized 8 enciphered) (λ es. and_then (presented pvv) (λ ps. and_then (pin_read code g) (λ _. verdict (same (pvv_of es) ps))))

-- what is read of such rows is a PIN
pub read_pin : (code : ℕ) (g : List ℕ × List ℕ × ℕ) (ds : List ℕ) → length g.0 ≡ 16 → length g.1 ≡ 12 → pin_read code g ≡ done ds → Pinned ds
read_pin code g ds h k e =
    let f = then_done (format_of (code_of code)) _ ds e in
    read_pinned f.0 (account_field g.1) g.0 ds (omega arith) h f.2

pub call_input : (code index : ℕ) (block account : List ℕ) (room : ℕ) → Blocky (pvv_input code index block account room) room
call_input code index block account room bs e =
    let r = then_done (unless Room901 (leb 8 room) room) _ bs (sym (input_parts code index block account room) ∙ e) in
    let g = then_done (pvv_given code index block account) _ bs r.2 in
    let d = then_done (pin_read code g.0) _ bs g.2 in
    let f = given_each code index block account g.0 g.1 in
    let s = sized_done 8 block g.0.0 f.0 in
    let n = account_done account g.0.1 f.1 in
    let p = read_pin code g.0 d.0 (ap length (sym s.1) ∙ nibs_length block ∙ (let l = s.0 in omega arith)) n.0 d.1 in (
      leb-true 8 room (passed Room901 (leb 8 room) room r.0 r.1).0,
      (
        input_row g.0.1 g.0.2 d.0,
        input_sixteen g.0.1 d.0 g.0.2 n.0 n.1 (index_small index g.0.2 f.2) p,
        sym (value_of_lem d.2),
      ),
    )

-- ---- the verdict

pub presented_done : (cs ps : List ℕ) → presented cs ≡ done ps → (length ps ≡ 4) × Below 16 ps
presented_done cs ps e =
    let p = passed Field15 (eqb (length cs) 4 && all_of Digit cs) (map value_of cs) ps e in
    (ap length (sym p.1) ∙ length-map cs value_of ∙ eqb-true (length cs) 4 (and_left (eqb (length cs) 4) (all_of Digit cs) p.0), rw (← p.1) (map_below 16 value_of value_below cs))

pub presented_row : (cs ps : List ℕ) (v : ℕ) → presented cs ≡ done ps → v ≡ word ps → (row 4 v ≡ ps) × (v < 16 ^ 4)
presented_row cs ps v e h =
    let d = presented_done cs ps e in
    (ap (row 4) h ∙ ap (λ (n : ℕ). row n (word ps)) (sym d.0) ∙ row_word ps d.1, rw h (word_under 4 ps d.1 (omega (arith, d.0))))

-- a verdict 00 writes nothing
pub verdict_nothing : (code index : ℕ) (block account enciphered pvv ws : List ℕ) → pvv_verdict code index block account enciphered pvv ≡ done ws → ws ≡ []
verdict_nothing code index block account enciphered pvv ws e =
    let g = then_done (pvv_given code index block account) _ ws (sym (pvv_parts code index block account enciphered pvv) ∙ e) in
    let m = then_done (sized 8 enciphered) _ ws g.2 in
    let p = then_done (presented pvv) _ ws m.2 in
    let d = then_done (pin_read code g.0) _ ws p.2 in
    sym (passed Unverified01 (same (pvv_of m.0) p.0) [] ws d.2).1

-- ---- the call that makes the PVV

module _ (enciphered : List ℕ) (room : ℕ) where
  pub made_done : 4 ≤ room → sized 8 enciphered ≡ done (nibs enciphered) → pvv_made enciphered room ≡ done (characters (pvv_of (nibs enciphered)))
  unfolding pvv_made
  made_done h e = rw (le-leb 4 room h, e)
