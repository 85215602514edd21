-- For what each judgement of the calls below the command level is refused.
-- Assumes nothing.
use Prim.Native.Nat.{ℕ}
use mathlib.Core.Path.{◌≡◌, refl, sym, subst}
use mathlib.Core.Logic.{inl, inr}
use mathlib.Core.List.{List, [], map}
use mathlib.Core.Bool.{Bool, true, false, ◌&&◌}
use lib.ListN.{length, take, drop}
use lib.IntN.{ℤ}
use lib.Dec.{leb, eqb}
use Rattle.nibbles.specs.Nibbles.{nibs, packs, within, every, same}
use Rattle.alphabet.specs.Alphabet.{all_of, value_of}
use Rattle.alphabet.specs.declared.Class.TheVariants.{Digit}
use Rattle.numbers.specs.Numbers.{Outcome, unless}
use Rattle.numbers.specs.declared.Refusal.{Refusal}
use Rattle.numbers.specs.declared.Refusal.TheVariants.{Unverified01, Field15, Block20, Format23, Length24, Table25, NotHere69, Check81, Room901}
use Rattle.codes.specs.Codes.{code_of, format_of}
use Rattle.codes.specs.declared.Code.{Code}
use Rattle.codes.specs.declared.Code.TheVariants.{Built, Known, Unknown}
use Rattle.formats.specs.declared.Format.{Format}
use Rattle.pins.specs.Pins.{digit, pin_length, digits_handed, pin_handed, padded, account_of, account_field, sized}
use Rattle.blocks.specs.Blocks.{read_row}
use Rattle.validation.specs.Validation.{shape_of, replaced, shaped, validation_row}
use Rattle.validation.specs.declared.Shape.{Shape}
use Rattle.validation.specs.declared.Shape.TheVariants.{Template, Whole, Neither}
use Rattle.naturals.specs.Naturals.{table_sized, table_of, natural_of, natural_handed}
use Rattle.ibm3624.specs.Ibm3624.{check_length, covers, covered, offset_of}
use Rattle.offsettexts.specs.OffsetTexts.{offset_text, digit_end, offset_presented}
use Rattle.offsets.specs.Offsets.{given, pin_with_natural, pin_and_natural, digits_given, offset_judged, digits_judged, offset_made, offset_of_digits, differences_of}
use Rattle.offsets.proofs.Laws.{offset_parts, digits_parts, differences_parts}
use Rattle.verdicts.specs.Verdicts.{offset_verdict}
use Rattle.verdicts.proofs.Laws.{verdict_parts}
use Rattle.pvv.proofs.Laws.{input_parts, pvv_parts}
use Rattle.pvvdigits.specs.PvvDigits.{pvv_of}
use Rattle.pvvinput.specs.PvvInput.{input_row, key_index}
use Rattle.pvv.specs.Pvv.{presented, pvv_given, pin_read, pvv_input, pvv_verdict}
use Rattle.claims_blocks.proofs.Judged.{Only, Fault, done_only, refused_only, test_only, then_only}
use Rattle.claims_blocks.proofs.Trips.{read_faults}

-- ---- for what each judgement is refused, over any refusals that hold those named

module _ (these : Refusal → Type 0) where
  -- 901
  pub room_only : these Room901 → (least room : ℕ) → Only these (unless Room901 (leb least room) room)
  room_only r least room = test_only these Room901 r (leb least room) room

  -- 20 and 24
  pub row_only : these Block20 → these Length24 → (f : Format) (with ns : List ℕ) → Only these (read_row f with ns)
  row_only b l f with ns q e = go (read_faults f with ns q e)
    where
      go : Fault q → these q
      go (inl h) = subst these (sym h) b
      go (inr h) = subst these (sym h) l

  -- 69 and 23
  pub format_only : these Format23 → these NotHere69 → (c : Code) → Only these (format_of c)
  format_only u k (Built f) = done_only these f
  format_only u k Known = refused_only these NotHere69 k
  format_only u k Unknown = refused_only these Format23 u

  -- 15, for an account, for a run of bytes and for a table
  pub account_only : these Field15 → (account : List ℕ) → Only these (account_of account)
  account_only c account = test_only these Field15 c (eqb (length account) 12 && all_of Digit account) (padded (map value_of account))

  pub sized_only : these Field15 → (bytes : List ℕ) → Only these (sized 8 bytes)
  sized_only c bytes = test_only these Field15 c (eqb (length bytes) 8) (nibs bytes)

  pub table_sized_only : these Field15 → (table : List ℕ) → Only these (table_sized table)
  table_sized_only c table = test_only these Field15 c (eqb (length table) 16) table

  -- 25
  pub table_only : these Table25 → (table : List ℕ) → Only these (table_of table)
  table_only c table = test_only these Table25 c (all_of Digit table) (map value_of table)

  -- 24, and 20 behind it
  pub length_only : these Length24 → (n : ℕ) → Only these (pin_length n)
  length_only l n = test_only these Length24 l (within 4 12 n) n

  pub digits_only : these Block20 → (ds : List ℕ) → Only these (digits_handed ds)
  digits_only b ds = test_only these Block20 b (every digit ds) ds

  -- 15 for a check length
  pub check_only : these Field15 → (check : ℕ) → Only these (check_length check)
  check_only c check = test_only these Field15 c (within 4 12 check) check

  -- 15 for validation data
  pub validation_only : these Field15 → (account cs : List ℕ) → Only these (validation_row account cs)
  unfolding validation_row
  validation_only c account cs = go (shape_of cs)
    where
      go : (x : Shape) → Only these (shaped account cs x)
      go (Template at) = done_only these (replaced account at cs)
      go Whole = done_only these (map value_of (drop 1 cs))
      go Neither = refused_only these Field15 c

  -- 15 for the fields of the offset calls
  pub given_only : these Field15 → (code check : ℕ) (block account table enciphered : List ℕ) → Only these (given code check block account table enciphered)
  unfolding given
  given_only c code check block account table enciphered =
      then_only these (check_length check) _ (check_only c check)
      (λ _. then_only these (sized 8 block) _ (sized_only c block)
      (λ ns. then_only these (account_of account) _ (account_only c account)
      (λ digits. then_only these (table_sized table) _ (table_sized_only c table)
      (λ _. then_only these (sized 8 enciphered) _ (sized_only c enciphered)
      (λ es. done_only these (ns, digits, es))))))

  -- 23, 69, 25, then the block
  pub pair_only : these Format23 → these NotHere69 → these Table25 → these Block20 → these Length24
      → (code : ℕ) (table : List ℕ) (g : List ℕ × List ℕ × List ℕ) → Only these (pin_and_natural code table g)
  unfolding pin_and_natural pin_with_natural
  pair_only u k t b l code table g =
      then_only these (format_of (code_of code)) _ (format_only u k (code_of code))
      (λ f. then_only these (table_of table) _ (table_only t table)
      (λ ts. then_only these (read_row f (account_field g.1) g.0) _ (row_only b l f (account_field g.1) g.0)
      (λ ds. done_only these (ds, natural_of (length ds) ts g.2))))

  -- 15, then 24 and 20 of the PIN and of the natural PIN
  pub digits_given_only : these Field15 → these Block20 → these Length24 → (check : ℕ) (pin natural : List ℕ) → Only these (digits_given check pin natural)
  unfolding digits_given
  digits_given_only c b l check pin natural =
      then_only these (check_length check) _ (check_only c check)
      (λ _. then_only these (pin_handed pin) _ (then_only these (pin_length (length pin)) _ (length_only l (length pin)) (λ _. digits_only b pin))
      (λ ds. then_only these (natural_handed (length ds) natural) _
      (then_only these (digits_handed natural) _ (digits_only b natural) (λ _. test_only these Length24 l (eqb (length natural) (length ds)) natural))
      (λ ns. done_only these (ds, ns))))

  -- 81, and not where the offset has variable length
  pub covers_only : (variable : Bool) → (variable ≡ false → these Check81) → (check n : ℕ) → Only these (covers variable check n)
  covers_only true c check n = done_only these n
  covers_only false c check n = test_only these Check81 (c refl) (leb check n) check

  -- the call that makes an offset from a block
  pub made_only : (variable : Bool) → (variable ≡ false → these Check81) → these Room901 → these Field15 → these Format23 → these NotHere69 → these Table25 → these Block20 → these Length24
      → (code check : ℕ) (block account table enciphered : List ℕ) (room : ℕ) → Only these (offset_made variable code check block account table enciphered room)
  made_only variable v r c u k t b l code check block account table enciphered room =
      then_only these (offset_judged variable code check block account table enciphered room) _
      (subst (λ (o : Outcome (List ℕ)). Only these o) (sym (offset_parts variable check room code block account table enciphered))
      (then_only these (unless Room901 (leb 12 room) room) _ (room_only r 12 room)
      (λ _. then_only these (given code check block account table enciphered) _ (given_only c code check block account table enciphered)
      (λ g. then_only these (pin_and_natural code table g) _ (pair_only u k t b l code table g)
      (λ p. then_only these (covers variable check (length p.0)) _ (covers_only variable v check (length p.0))
      (λ m. done_only these (offset_of m p.0 p.1)))))))
      (λ ds. done_only these (offset_text ds))

  -- the one that makes it from digits
  pub of_digits_only : (variable : Bool) → (variable ≡ false → these Check81) → these Room901 → these Field15 → these Block20 → these Length24
      → (check : ℕ) (pin natural : List ℕ) (room : ℕ) → Only these (offset_of_digits variable check pin natural room)
  of_digits_only variable v r c b l check pin natural room =
      then_only these (digits_judged variable check pin natural room) _
      (subst (λ (o : Outcome (List ℕ)). Only these o) (sym (digits_parts variable check room pin natural))
      (then_only these (unless Room901 (leb 12 room) room) _ (room_only r 12 room)
      (λ _. then_only these (digits_given check pin natural) _ (digits_given_only c b l check pin natural)
      (λ p. then_only these (covers variable check (length p.0)) _ (covers_only variable v check (length p.0))
      (λ m. done_only these (offset_of m p.0 p.1))))))
      (λ ds. done_only these (offset_text ds))

  -- the call that gives the differences
  pub differences_only : these Check81 → these Room901 → these Field15 → these Block20 → these Length24
      → (variable : Bool) (check : ℕ) (pin natural : List ℕ) (room : ℕ) → Only these (differences_of variable check pin natural room)
  differences_only v r c b l variable check pin natural room =
      subst (λ (o : Outcome (List ℤ)). Only these o) (sym (differences_parts variable check room pin natural))
      (then_only these (unless Room901 (leb 12 room) room) _ (room_only r 12 room)
      (λ _. then_only these (digits_given check pin natural) _ (digits_given_only c b l check pin natural)
      (λ p. then_only these (covers variable check (length p.0)) _ (covers_only variable (λ _. v) check (length p.0))
      (λ m. done_only these (covered m p.0 p.1)))))

  -- the verdict on an offset
  pub verdict_only : these Unverified01 → these Check81 → these Field15 → these Format23 → these NotHere69 → these Table25 → these Block20 → these Length24
      → (variable : Bool) (code check : ℕ) (block account table enciphered offset : List ℕ) → Only these (offset_verdict variable code check block account table enciphered offset)
  verdict_only n v c u k t b l variable code check block account table enciphered offset =
      subst (λ (o : Outcome (List ℕ)). Only these o) (sym (verdict_parts variable code check block account table enciphered offset))
      (then_only these (given code check block account table enciphered) _ (given_only c code check block account table enciphered)
      (λ g. then_only these (offset_presented offset) _
      (test_only these Field15 c (eqb (length offset) 12 && (leb 4 (digit_end offset) && every (within 0x46 0x46) (drop (digit_end offset) offset))) (map value_of (take (digit_end offset) offset)))
      (λ os. then_only these (pin_and_natural code table g) _ (pair_only u k t b l code table g)
      (λ p. then_only these (covers variable check (length p.0)) _ (covers_only variable (λ _. v) check (length p.0))
      (λ m. then_only these (unless Check81 (eqb (length os) m) m) _ (test_only these Check81 v (eqb (length os) m) m)
      (λ _. test_only these Unverified01 n (same os (offset_of m p.0 p.1)) []))))))

  -- 15 for the fields of the PVV calls
  pub pvv_given_only : these Field15 → (code index : ℕ) (block account : List ℕ) → Only these (pvv_given code index block account)
  unfolding pvv_given
  pvv_given_only c code index block account =
      then_only these (sized 8 block) _ (sized_only c block)
      (λ ns. then_only these (account_of account) _ (account_only c account)
      (λ digits. then_only these (key_index index) _ (test_only these Field15 c (leb index 6) index)
      (λ k. done_only these (ns, digits, k))))

  -- 23, 69, then the block
  pub pin_read_only : these Format23 → these NotHere69 → these Block20 → these Length24 → (code : ℕ) (g : List ℕ × List ℕ × ℕ) → Only these (pin_read code g)
  pin_read_only u k b l code g =
      then_only these (format_of (code_of code)) _ (format_only u k (code_of code)) (λ f. row_only b l f (account_field g.1) g.0)

  -- the call that makes the PVV's input
  pub input_only : these Room901 → these Field15 → these Format23 → these NotHere69 → these Block20 → these Length24
      → (code index : ℕ) (block account : List ℕ) (room : ℕ) → Only these (pvv_input code index block account room)
  input_only r c u k b l code index block account room =
      subst (λ (o : Outcome (List ℕ)). Only these o) (sym (input_parts code index block account room))
      (then_only these (unless Room901 (leb 8 room) room) _ (room_only r 8 room)
      (λ _. then_only these (pvv_given code index block account) _ (pvv_given_only c code index block account)
      (λ g. then_only these (pin_read code g) _ (pin_read_only u k b l code g)
      (λ ds. done_only these (packs (input_row g.1 g.2 ds))))))

  -- the verdict on a PVV
  pub pvv_verdict_only : these Unverified01 → these Field15 → these Format23 → these NotHere69 → these Block20 → these Length24
      → (code index : ℕ) (block account enciphered pvv : List ℕ) → Only these (pvv_verdict code index block account enciphered pvv)
  pvv_verdict_only n c u k b l code index block account enciphered pvv =
      subst (λ (o : Outcome (List ℕ)). Only these o) (sym (pvv_parts code index block account enciphered pvv))
      (then_only these (pvv_given code index block account) _ (pvv_given_only c code index block account)
      (λ g. then_only these (sized 8 enciphered) _ (sized_only c enciphered)
      (λ es. then_only these (presented pvv) _ (test_only these Field15 c (eqb (length pvv) 4 && all_of Digit pvv) (map value_of pvv))
      (λ ps. then_only these (pin_read code g) _ (pin_read_only u k b l code g)
      (λ _. test_only these Unverified01 n (same (pvv_of es) ps) [])))))
