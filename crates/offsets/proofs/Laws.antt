-- What the answers tell of the outcomes behind them, and what the outcomes hold.
-- Assumes nothing.
use Prim.Native.Nat.{ℕ, ◌≤◌}
use native.Mathlib.Omega.{arith}
use mathlib.Core.Path.{◌≡◌, refl, sym, ap, ap₂, ◌∙◌, subst}
use mathlib.Core.List.{List, map}
use mathlib.Core.Bool.{Bool, true, false}
use lib.ListN.{length}
use lib.IntN.{ℤ}
use lib.Dec.{leb, eqb, lit≤}
use borrow.Author.Tests.{leb-true, eqb-true}
use Rattle.nibbles.specs.Nibbles.{row, word, every}
use Rattle.nibbles.proofs.Lists.{Below, below_weaken}
use Rattle.nibbles.proofs.Rows.{row_word, row_length}
use Rattle.nibbles.proofs.Bytes.{nibs_length}
use Rattle.nibbles.proofs.Runs.{below_every, every_below}
use Rattle.numbers.specs.Numbers.{Outcome, done, refused, and_then, unless}
use Rattle.numbers.specs.declared.Refusal.{Refusal}
use Rattle.numbers.specs.declared.Refusal.TheVariants.{Field15, Block20, Length24, Table25, Check81, Room901}
use Rattle.numbers.proofs.Laws.{passed, failed, then_done, value_of_lem, result_ok}
use Rattle.pins.specs.Pins.{digit, pin_handed, digits_handed, account_of, account_field, sized}
use Rattle.alphabet.specs.Alphabet.{all_of, value_of}
use Rattle.alphabet.specs.declared.Class.TheVariants.{Digit}
use Rattle.codes.specs.Codes.{code_of, format_of}
use Rattle.formats.specs.declared.Format.{Format}
use Rattle.pins.proofs.Laws.{Pinned, handed_done, account_done, digits_below, sized_done, through, then_alike}
use Rattle.blocks.specs.Blocks.{read_row}
use Rattle.blocks.proofs.Laws.{read_pinned}
use Rattle.pins.specs.Answers.{reading_of}
use Rattle.naturals.specs.Naturals.{table_of, natural_handed, table_sized}
use Rattle.ibm3624.specs.Ibm3624.{covered, offset_of, check_length, covers}
use Rattle.offsettexts.specs.OffsetTexts.{offset_text}
use Rattle.naturals.proofs.Laws.{natural_long, natural_digits}
use Rattle.ibm3624.proofs.Laws.{offset_many, reduced_below}
use Rattle.ibm3624.specs.Answers.{Matched}
use Rattle.offsets.specs.Offsets.{given, pin_with_natural, pin_and_natural, digits_given, offset_for, offset_judged, digits_judged, spelt, differences_of}
use Rattle.offsets.specs.Answers.{comparison_of, compared_of, rows_in, pair_in, Fit, text_of, Roomy}
use Rattle.offsets.specs.declared.Rows.{Rows}
use Rattle.offsets.specs.declared.Compared.{Compared}
use Rattle.std.specs.Prelude.{Result, Ok}

-- ---- a PIN and a natural PIN of one length

pub record Alike (p : List ℕ × List ℕ) : Type 0 where
  pub pin : Pinned p.0
  pub long : length p.1 ≡ length p.0
  pub natural : Below 10 p.1

pub pair_back : (p : List ℕ × List ℕ) → Alike p → pair_in (compared_of p) ≡ p
pair_back p a =
    ap₂ (λ (x y : List ℕ). (x, y)) (row_word p.0 (below_weaken 10 16 p.0 (lit≤ tt) a.pin.digits))
    (ap (λ (n : ℕ). row n (word p.1)) (sym a.long) ∙ row_word p.1 (below_weaken 10 16 p.1 (lit≤ tt) a.natural))

pub pair_fit : (p : List ℕ × List ℕ) → Alike p → Fit (compared_of p)
pair_fit p a =
    record {
      short = a.pin.short;
      digits = ap (λ (q : List ℕ × List ℕ). every digit q.0) (pair_back p a) ∙ below_every 9 p.0 a.pin.digits;
      naturals = ap (λ (q : List ℕ × List ℕ). every digit q.1) (pair_back p a) ∙ below_every 9 p.1 a.natural;
    }

pub digits_alike : (check : ℕ) (pin natural : List ℕ) (p : List ℕ × List ℕ) → digits_given check pin natural ≡ done p → Alike p
unfolding digits_given
digits_alike check pin natural p e =
    let k = then_done (check_length check) _ p e in
    let h = then_done (pin_handed pin) _ p k.2 in
    let n = then_done (natural_handed (length h.0) natural) _ p h.2 in
    let d = handed_done pin h.0 h.1 in
    let s = then_done (digits_handed natural) _ n.0 n.1 in
    let t = passed Length24 (eqb (length natural) (length h.0)) natural n.0 s.2 in
    let q = passed Block20 (every digit natural) natural s.0 s.1 in
    let whole : (h.0, n.0) ≡ p = value_of_lem n.2 in
    subst Alike whole
    (record {
      pin = subst Pinned d.0 d.1;
      long = ap length (sym t.1) ∙ eqb-true _ _ t.0;
      natural = subst (Below 10) t.1 (every_below 9 natural q.0);
    })

module _ (f : Format) (ts : List ℕ) (g : List ℕ × List ℕ × List ℕ) (ns : length g.0 ≡ 16) (digits : length g.1 ≡ 12) (es : length g.2 ≡ 16) where
  -- what is read from a block, and made of an enciphered block through a table of digits
  natural_alike : Below 10 ts → (p : List ℕ × List ℕ) → pin_with_natural f ts g ≡ done p → Alike p
  unfolding pin_with_natural
  natural_alike table p e =
      let d = then_done (read_row f (account_field g.1) g.0) _ p e in
      let pin = read_pinned f (account_field g.1) g.0 d.0 (omega arith) ns d.1 in
      subst Alike (value_of_lem d.2)
      (record {
        pin = pin;
        long = natural_long (length d.0) ts g.2 (omega (arith, pin.short));
        natural = natural_digits (length d.0) ts g.2 table;
      })

  -- the same in the words of the definitions
  pub with_natural_fit :
      every digit ts ≡ true → (p : List ℕ × List ℕ) → pin_with_natural f ts g ≡ done p
      → (4 ≤ length p.0) × (length p.0 ≤ 12) × (every digit p.0 ≡ true) × (every digit p.1 ≡ true) × (length p.1 ≡ length p.0)
  with_natural_fit table p e =
      let a = natural_alike (every_below 9 ts table) p e in
      (a.pin.long, a.pin.short, below_every 9 p.0 a.pin.digits, below_every 9 p.1 a.natural, a.long)

-- a value that is given may be compared, and holds the PIN and natural PIN of the outcome
pub comparison_fit :
    (o : Outcome (List ℕ × List ℕ)) → ((p : List ℕ × List ℕ) → o ≡ done p → Alike p) → (c : Compared) → Ok c ≡ comparison_of o
    → (p : List ℕ × List ℕ) × (o ≡ done p) × Fit c × (pair_in c ≡ p)
comparison_fit o alike c e =
    let p = result_ok compared_of o c e in
    let a = alike p.0 p.1 in
    (p.0, p.1, subst Fit (sym p.2) (pair_fit p.0 a), ap pair_in p.2 ∙ pair_back p.0 a)

-- such a value, of rows in words and a table of digits
pub with_natural_compared :
    (f : Format) (ts : List ℕ) (rows : Rows) → every digit ts ≡ true → (c : Compared) → Ok c ≡ comparison_of (pin_with_natural f ts (rows_in rows))
    → (p : List ℕ × List ℕ) × (pin_with_natural f ts (rows_in rows) ≡ done p) × Fit c × (pair_in c ≡ p)
with_natural_compared f ts rows t =
    comparison_fit (pin_with_natural f ts (rows_in rows))
    (natural_alike f ts (rows_in rows) (row_length 16 rows.block) (row_length 12 rows.account) (row_length 16 rows.enciphered) (every_below 9 ts t))

-- ---- the calls' chains in parts

module _ (variable : Bool) (check room : ℕ) where
  -- of a block: what is given at 15, the PIN with its natural PIN, the offset
  pub offset_parts : (code : ℕ) (block account table enciphered : List ℕ)
      → offset_judged variable code check block account table enciphered room
      ≡ and_then (unless Room901 (leb 12 room) room) (λ _. and_then (given code check block account table enciphered) (λ g. and_then (pin_and_natural code table g) (offset_for variable check)))
  unfolding offset_judged given pin_and_natural pin_with_natural
  offset_parts code block account table enciphered =
      sym (then_alike (unless Room901 (leb 12 room) room) _ _
      (λ _. through (check_length check) _ behind _
      (λ _. through (sized 8 block) _ behind _
      (λ ns. through (account_of account) _ behind _
      (λ digits. through (table_sized table) _ behind _
      (λ _. through (sized 8 enciphered) _ behind _
      (λ es. through (format_of (code_of code)) _ last _
      (λ f. through (table_of table) _ last _
      (λ ts. through (read_row f (account_field digits) ns) _ last _ (λ pin. refl))))))))))
    where
      last : List ℕ × List ℕ → Outcome (List ℕ)
      last = offset_for variable check

      behind : List ℕ × List ℕ × List ℕ → Outcome (List ℕ)
      behind g = and_then (pin_and_natural code table g) last

  -- of digits: what is given, the offset or the differences
  pub digits_parts : (pin natural : List ℕ)
      → digits_judged variable check pin natural room ≡ and_then (unless Room901 (leb 12 room) room) (λ _. and_then (digits_given check pin natural) (offset_for variable check))
  unfolding digits_judged digits_given
  digits_parts pin natural =
      sym (then_alike (unless Room901 (leb 12 room) room) _ _
      (λ _. through (check_length check) _ (offset_for variable check) _
      (λ _. through (pin_handed pin) _ (offset_for variable check) _
      (λ ps. through (natural_handed (length ps) natural) _ (offset_for variable check) _ (λ ns. refl)))))

  abbrev pub differences_for : List ℕ × List ℕ → Outcome (List ℤ)
  differences_for p = and_then (covers variable check (length p.0)) (λ m. done (covered m p.0 p.1))

  pub differences_parts : (pin natural : List ℕ)
      → differences_of variable check pin natural room ≡ and_then (unless Room901 (leb 12 room) room) (λ _. and_then (digits_given check pin natural) differences_for)
  unfolding differences_of digits_given
  differences_parts pin natural =
      sym (then_alike (unless Room901 (leb 12 room) room) _ _
      (λ _. through (check_length check) _ differences_for _
      (λ _. through (pin_handed pin) _ differences_for _
      (λ ps. through (natural_handed (length ps) natural) _ differences_for _ (λ ns. refl)))))

-- ---- how many digits are covered

pub covers_within : (variable : Bool) (check n m : ℕ) → covers variable check n ≡ done m → m ≤ n
covers_within true check n m e = subst (λ (k : ℕ). k ≤ n) (value_of_lem e) (omega arith)
covers_within false check n m e =
    let p = passed Check81 (leb check n) check m e in
    subst (λ (k : ℕ). k ≤ n) p.1 (leb-true check n p.0)

pub covers_not : (variable : Bool) (check n : ℕ) (q : Refusal) → covers variable check n ≡ refused q → covers variable check n ≡ refused Check81
covers_not true check n q e = absurd (let z : ◌≡◌ {A = ℕ} 0 1 = cc in omega arith)
covers_not false check n q e = (failed Check81 q (leb check n) check e).1

pub matched : (p : Compared) → Fit p → (m : ℕ) → m ≤ p.length → Matched m p.length p.pin p.natural
matched p f m h = record { short = f.short; within = h; digits = f.digits; naturals = f.naturals }

-- ---- the fields at 15

-- the rows that were given
pub record Laid (table : List ℕ) (g : List ℕ × List ℕ × List ℕ) : Type 0 where
  pub ns : length g.0 ≡ 16
  pub digits : length g.1 ≡ 12
  pub es : length g.2 ≡ 16
  pub whole : length table ≡ 16

-- eight bytes have sixteen nibbles
eight : (bs ns : List ℕ) → sized 8 bs ≡ done ns → length ns ≡ 16
eight bs ns e =
    let s = sized_done 8 bs ns e in
    ap length (sym s.1) ∙ nibs_length bs ∙ (let n = s.0 in omega arith)

module _ (code check : ℕ) (block account table enciphered : List ℕ) where
  pub given_laid : (g : List ℕ × List ℕ × List ℕ) → given code check block account table enciphered ≡ done g → Laid table g
  unfolding given
  given_laid g e =
      let k = then_done (check_length check) _ g e in
      let s = then_done (sized 8 block) _ g k.2 in
      let n = then_done (account_of account) _ g s.2 in
      let t = then_done (table_sized table) _ g n.2 in
      let l = then_done (sized 8 enciphered) _ g t.2 in
      subst (Laid table) (value_of_lem l.2)
      (record {
        ns = eight block s.0 s.1;
        digits = (account_done account n.0 n.1).0;
        es = eight enciphered l.0 l.1;
        whole = eqb-true _ _ (passed Field15 (eqb (length table) 16) table t.0 t.1).0;
      })

  -- the PIN and natural PIN made of them
  pub pair_alike : (g : List ℕ × List ℕ × List ℕ) → Laid table g → (p : List ℕ × List ℕ) → pin_and_natural code table g ≡ done p → Alike p
  unfolding pin_and_natural
  pair_alike g l p e =
      let f = then_done (format_of (code_of code)) _ p e in
      let t = then_done (table_of table) _ p f.2 in
      let tp = passed Table25 (all_of Digit table) (map value_of table) t.0 t.1 in
      natural_alike f.0 t.0 g l.ns l.digits l.es (subst (Below 10) tp.1 (digits_below table tp.0)) p t.2

  -- the PIN and natural PIN of words that hold them
  pub given_compared :
      (r : Rows) → given code check block account table enciphered ≡ done (rows_in r) → (x : Compared) → Ok x ≡ comparison_of (pin_and_natural code table (rows_in r))
      → (p : List ℕ × List ℕ) × (pin_and_natural code table (rows_in r) ≡ done p) × Fit x × (pair_in x ≡ p)
  given_compared r h x = comparison_fit (pin_and_natural code table (rows_in r)) (pair_alike (rows_in r) (given_laid (rows_in r) h)) x

-- ---- an outcome that is an offset, as the answer that is written

-- its value, where it has one, is at most twelve digits, and there is room for its text
abbrev pub Texty : Outcome (List ℕ) → ℕ → Type 0
Texty o room = (ds : List ℕ) → o ≡ done ds → (length ds ≤ 12) × (12 ≤ room) × Below 16 ds

pub answered : (o : Outcome (List ℕ)) (room : ℕ) → Texty o room → text_of (reading_of o) ≡ spelt o
answered (done ds) room t = ap (λ (x : List ℕ). done (offset_text x)) (row_word ds (t ds refl).2)
answered (refused q) room t = refl

pub roomy : (o : Outcome (List ℕ)) (room : ℕ) → Texty o room → Roomy (reading_of o) room
roomy (done ds) room t = ((t ds refl).0, (t ds refl).1)
roomy (refused q) room t = tt

-- an offset over the covered digits of a PIN
offset_texty_for : (variable : Bool) (check : ℕ) (p : List ℕ × List ℕ) → Alike p → (room : ℕ) → 12 ≤ room → Texty (offset_for variable check p) room
offset_texty_for variable check p alike room r ds e =
    let t = then_done (covers variable check (length p.0)) _ ds e in
    let w = covers_within variable check (length p.0) t.0 t.1 in
    let whole : offset_of t.0 p.0 p.1 ≡ ds = value_of_lem t.2 in
    let long : length ds ≡ t.0 = ap length (sym whole) ∙ offset_many t.0 p.0 p.1 w alike.long in
    (omega (arith, alike.pin.short), r, subst (Below 16) whole (below_weaken 10 16 (offset_of t.0 p.0 p.1) (lit≤ tt) (reduced_below (covered t.0 p.0 p.1))))

pub digits_texty : (variable : Bool) (check : ℕ) (pin natural : List ℕ) (room : ℕ) → Texty (digits_judged variable check pin natural room) room
digits_texty variable check pin natural room ds e =
    let r = then_done (unless Room901 (leb 12 room) room) _ ds (sym (digits_parts variable check room pin natural) ∙ e) in
    let p = then_done (digits_given check pin natural) _ ds r.2 in
    offset_texty_for variable check p.0 (digits_alike check pin natural p.0 p.1) room
    (leb-true 12 room (passed Room901 (leb 12 room) room r.0 r.1).0) ds p.2

pub offset_texty :
    (variable : Bool) (code check : ℕ) (block account table enciphered : List ℕ) (room : ℕ)
    → Texty (offset_judged variable code check block account table enciphered room) room
offset_texty variable code check block account table enciphered room ds e =
    let r = then_done (unless Room901 (leb 12 room) room) _ ds (sym (offset_parts variable check room code block account table enciphered) ∙ e) in
    let g = then_done (given code check block account table enciphered) _ ds r.2 in
    let p = then_done (pin_and_natural code table g.0) _ ds g.2 in
    let laid = given_laid code check block account table enciphered g.0 g.1 in
    offset_texty_for variable check p.0 (pair_alike code check block account table enciphered g.0 laid p.0 p.1) room
    (leb-true 12 room (passed Room901 (leb 12 room) room r.0 r.1).0) ds p.2

-- three words of one value
pub ap₃ : {l l' p p' n n' : ℕ} → l ≡ l' → p ≡ p' → n ≡ n' → ◌≡◌ {A = Result Compared Refusal} (Ok (record { length = l; pin = p; natural = n })) (Ok (record { length = l'; pin = p'; natural = n' }))
ap₃ d e f = λ i. Ok (record { length = d i; pin = e i; natural = f i })

-- ---- the differences

module _ (variable : Bool) (check : ℕ) (pin natural : List ℕ) (room : ℕ) where
  pub differences_made :
      leb 12 room ≡ true → (p : List ℕ × List ℕ) → digits_given check pin natural ≡ done p → (m : ℕ) → covers variable check (length p.0) ≡ done m
      → differences_of variable check pin natural room ≡ done (covered m p.0 p.1)
  differences_made e p d m k = rw (differences_parts variable check room pin natural, e, d, k)
