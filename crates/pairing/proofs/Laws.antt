-- What the PIN and natural PIN of a command come to, and what is asked for.
-- Assumes nothing.
use Prim.Native.Nat.{ℕ, ◌+◌, ◌-◌, ◌≤◌}
use native.Mathlib.Omega.{arith}
use mathlib.Core.Path.{◌≡◌, refl, sym, ap, ◌∙◌, subst}
use mathlib.Core.List.{List, map}
use mathlib.Core.Bool.{true}
use Rattle.std.specs.Prelude.{Ok}
use lib.ListN.{length, length-map}
use Rattle.nibbles.specs.Nibbles.{word, nibs, row, packs, every}
use Rattle.nibbles.proofs.Runs.{below_every}
use Rattle.alphabet.specs.Alphabet.{all_of, value_of}
use Rattle.alphabet.specs.declared.Class.TheVariants.{Digit}
use Rattle.numbers.specs.Numbers.{done}
use Rattle.numbers.proofs.Laws.{then_done, value_of_lem}
use Rattle.pins.specs.Pins.{digit}
use Rattle.pins.specs.Answers.{row_of}
use Rattle.pins.proofs.Laws.{digits_below}
use Rattle.answers.specs.Answers.{block_of}
use Rattle.answers.proofs.Laws.{Sixteen, block_held}
use Rattle.validation.specs.Validation.{validation_row}
use Rattle.validation.proofs.Laws.{row_sixteen, row_block}
use Rattle.naturals.specs.Answers.{Decimal}
use Rattle.offsets.specs.Offsets.{pin_with_natural}
use Rattle.offsets.specs.Answers.{comparison_of, pair_in, rows_in, Fit}
use Rattle.offsets.specs.declared.Rows.{Rows}
use Rattle.offsets.specs.declared.Compared.{Compared}
use Rattle.offsets.proofs.Laws.{with_natural_fit, with_natural_compared}
use Rattle.keybox.specs.declared.Boxed.{Boxed}
use Rattle.offsetting.specs.Offsetting.{part, account_in, table_in, validation_in}
use Rattle.sealed.specs.Sealed.{block_in}
use Rattle.sealed.specs.declared.Sealed.{Sealed}
use Rattle.offsetting.specs.declared.Offsetting.{Offsetting}
use Rattle.offsetting.proofs.Laws.{Held, values_length, values_below, values_row}
use Rattle.pairing.specs.Pairing.{asked_at, pair_at}
use Rattle.pairing.specs.Answers.{Placed, box_rows}

-- as many characters as were cut out
pub cut : (from n m : ℕ) → m ≡ n → from + m - from ≡ n
cut from n m e = omega arith

-- places that the stage read are such as are asked for
pub held_placed : (s : List ℕ) (o : Offsetting) (next : ℕ) → Held s o next → Placed s o
held_placed s o next held =
    record { account = held.account; number = held.number; table = held.table; digits = held.digits; validation = held.validation; shape = held.shape; check = held.check }

-- ---- the PIN block's characters at their place

module _ (s : List ℕ) (b : Sealed) (inside : b.block + 16 ≤ length s) where
  -- they stand for a row of sixteen
  pub block_sixteen : Sixteen (map value_of (part s b.block 16))
  block_sixteen = record { long = values_length s b.block 16 inside; nibbles = values_below s b.block 16 inside }

  -- and the word that the code holds of it is that of the block's bytes
  pub block_word : (w : ℕ) → w ≡ word (map value_of (part s b.block 16)) → w ≡ word (nibs (block_in s b))
  block_word w e = block_held w (map value_of (part s b.block 16)) block_sixteen e

module _ (s : List ℕ) (o : Offsetting) (placed : Placed s o) where
  -- ---- what stands at the places

  -- the account's characters are twelve digits
  pub account_digits_lem : (n : ℕ) → n ≡ 12 → (length (part s o.account n) ≤ 16) × (all_of Digit (part s o.account n) ≡ true)
  account_digits_lem n e =
      let long = sym (length-map (part s o.account 12) value_of) ∙ values_length s o.account 12 placed.account in
      subst (λ (k : ℕ). (length (part s o.account k) ≤ 16) × (all_of Digit (part s o.account k) ≡ true)) (sym e) (omega arith, placed.number)

  -- and the table's are a decimalisation table
  pub table_decimal : (n : ℕ) → n ≡ 16 → Decimal (part s o.table n)
  table_decimal n e =
      subst (λ (k : ℕ). Decimal (part s o.table k)) (sym e)
      (record { whole = sym (length-map (part s o.table 16) value_of) ∙ values_length s o.table 16 placed.table; digits = placed.digits })

  -- ---- what is asked for

  -- validation data at their place stand for a row of sixteen
  data_sixteen : (ns : List ℕ) → validation_row (account_in s o) (validation_in s o) ≡ done ns → Sixteen ns
  data_sixteen ns = row_sixteen (account_in s o) (validation_in s o) ns (values_length s o.account 12 placed.account) (values_below s o.account 12 placed.account)

  -- the block that is asked for is the bytes of such a row
  pub asked_row_lem : (bytes : List ℕ) → asked_at s o ≡ done bytes → (ns : List ℕ) × Sixteen ns × (bytes ≡ packs ns)
  asked_row_lem bytes e =
      let v = then_done (validation_row (account_in s o) (validation_in s o)) _ bytes e in
      (v.0, data_sixteen v.0 v.1, sym (value_of_lem v.2))

  -- and the row that the code finds is that of the block
  pub asked_block : (account : ℕ) → account ≡ word (account_in s o) → row_of (validation_row (row 12 account) (validation_in s o)) ≡ block_of (asked_at s o)
  asked_block account a =
      ap (λ (ds : List ℕ). row_of (validation_row ds (validation_in s o))) (values_row s o.account 12 placed.account account a)
      ∙ row_block (validation_row (account_in s o) (validation_in s o)) data_sixteen

  -- ---- PIN and natural PIN

  table_digits : every digit (table_in s o) ≡ true
  table_digits = below_every 9 (table_in s o) (digits_below (part s o.table 16) placed.digits)

  -- those that the definition finds, of rows of sixteen
  pub pair_within :
      (b : Sealed) (rows : List ℕ × List ℕ) → length rows.0 ≡ 16 → length rows.1 ≡ 16 → (p : List ℕ × List ℕ) → pair_at s b o rows ≡ done p
      → (4 ≤ length p.0) × (length p.0 ≤ 12) × (every digit p.0 ≡ true) × (every digit p.1 ≡ true) × (length p.1 ≡ length p.0)
  pair_within b rows ns es =
      with_natural_fit b.format (table_in s o) (rows.0, account_in s o, rows.1) ns (values_length s o.account 12 placed.account) es table_digits

  -- those that the code finds are those of the definition
  pub pair_found :
      (b : Sealed) (rows : Rows) → rows.account ≡ word (account_in s o)
      → pin_with_natural b.format (table_in s o) (rows_in rows) ≡ pair_at s b o (row 16 rows.block, row 16 rows.enciphered)
  pair_found b rows account =
      ap (λ (ds : List ℕ). pin_with_natural b.format (table_in s o) (row 16 rows.block, ds, row 16 rows.enciphered))
      (values_row s o.account 12 placed.account rows.account account)

  -- those that the code has may be compared, and are those of the definition
  pub pair_compared :
      (b : Sealed) (boxed : Boxed) (c : Compared) → Ok c ≡ comparison_of (pair_at s b o (box_rows boxed)) → Fit c × (pair_at s b o (box_rows boxed) ≡ done (pair_in c))
  pair_compared b boxed c e =
      let rows : Rows = record { block = boxed.block; account = word (account_in s o); enciphered = boxed.enciphered } in
      let found = pair_found b rows refl in
      let w = with_natural_compared b.format (table_in s o) rows table_digits c (e ∙ ap comparison_of (sym found)) in
      (w.2, sym found ∙ w.1 ∙ ap done (sym w.3))
