-- What is judged before what.
-- Assumes nothing.
use Prim.Native.Nat.{ℕ}
use mathlib.Core.Path.{◌≡◌, refl}
use mathlib.Core.List.{List, [], map}
use mathlib.Core.Bool.{Bool, true, false}
use lib.ListN.{length}
use lib.Dec.{eqb}
use borrow.Author.Tests.{le-leb, lt-leb, eq-eqb}
use Rattle.nibbles.specs.Nibbles.{nibs, packs, same}
use Rattle.alphabet.specs.Alphabet.{value_of}
use Rattle.numbers.specs.Numbers.{Outcome, done, refused, and_then, unless}
use Rattle.numbers.specs.Promise.{quietly}
use Rattle.numbers.specs.declared.Refusal.TheVariants.{Unverified01, Field15, Check81}
use Rattle.codes.specs.Codes.{code_of, format_of}
use Rattle.formats.specs.declared.Format.{Format}
use Rattle.pins.specs.Pins.{account_of, account_field}
use Rattle.blocks.specs.Blocks.{read_row}
use Rattle.blockcalls.specs.BlockCalls.{read_block}
use Rattle.naturals.specs.Naturals.{table_of, natural_of}
use Rattle.ibm3624.specs.Ibm3624.{covers, offset_of}
use Rattle.offsettexts.specs.OffsetTexts.{offset_text}
use Rattle.offsets.specs.Offsets.{offset_judged}
use Rattle.verdicts.specs.Verdicts.{offset_verdict, verdict_on}
use Rattle.pvvdigits.specs.PvvDigits.{pvv_of}
use Rattle.pvvinput.specs.PvvInput.{input_row}
use Rattle.pvv.specs.Pvv.{pvv_input, pvv_verdict}
use Rattle.claims_blocks.specs.Promises.{listed}
use Rattle.claims_blocks.specs.Codes.{of_contents, OneOfThem}
use Rattle.claims_blocks.proofs.Judged.{Only, done_only, test_only, then_only}
use Rattle.claims_blocks.proofs.Codes.{left_to_lem}
use Rattle.claims_numbers.specs.Order.{of_offset, of_verdict, of_pvv_verdict, OffsetCodesExactly, BlockBefore81}
use Rattle.claims_numbers.proofs.Refused.{row_only, table_only, covers_only}
use Rattle.claims_numbers.proofs.Numbers.{In}

-- ---- the format

-- what is refused for these numbers only answers one of them
one_of : (numbers : List ℕ) (o : Outcome (List ℕ)) → listed 0 numbers ≡ true → Only (In numbers) o → OneOfThem (quietly o) numbers
one_of numbers (done w) z c = z
one_of numbers (refused q) z c = c q refl

pub offset_codes_exactly : OffsetCodesExactly
unfolding offset_judged offset_verdict pvv_input pvv_verdict
offset_codes_exactly = (
  λ variable check block account digits table enciphered room r l h s a t e code.
      let these = In of_offset in
      let behind : Format → Outcome (List ℕ) = λ f. and_then (table_of table) (λ ts. and_then (read_row f (account_field digits) (nibs block)) (λ pin. and_then (covers variable check (length pin)) (λ m. done (offset_of m pin (natural_of (length pin) ts (nibs enciphered)))))) in
      rw (le-leb 12 room r, le-leb 4 check l, le-leb check 12 h, eq-eqb (length block) 8 s, a, eq-eqb (length table) 16 t, eq-eqb (length enciphered) 8 e)
      (left_to_lem of_offset (λ o. and_then (and_then o behind) (λ ds. done (offset_text ds))) (λ _. refl)
      (λ f. one_of of_offset (and_then (behind f) (λ ds. done (offset_text ds))) refl
      (then_only these (behind f) _
      (then_only these (table_of table) _ (table_only these refl table)
      (λ ts. then_only these (read_row f (account_field digits) (nibs block)) _ (row_only these refl refl f (account_field digits) (nibs block))
      (λ pin. then_only these (covers variable check (length pin)) _ (covers_only these variable (λ _. refl) check (length pin))
      (λ m. done_only these (offset_of m pin (natural_of (length pin) ts (nibs enciphered)))))))
      (λ ds. done_only these (offset_text ds))))
      code),
  λ variable check block account digits table enciphered offset os l h s a t e p code.
      let these = In of_verdict in
      let behind : Format → Outcome (List ℕ) = λ f. and_then (table_of table) (λ ts. and_then (read_row f (account_field digits) (nibs block)) (λ pin. verdict_on variable check os (pin, natural_of (length pin) ts (nibs enciphered)))) in
      rw (le-leb 4 check l, le-leb check 12 h, eq-eqb (length block) 8 s, a, eq-eqb (length table) 16 t, eq-eqb (length enciphered) 8 e, p)
      (left_to_lem of_verdict (λ o. and_then o behind) (λ _. refl)
      (λ f. one_of of_verdict (behind f) refl
      (then_only these (table_of table) _ (table_only these refl table)
      (λ ts. then_only these (read_row f (account_field digits) (nibs block)) _ (row_only these refl refl f (account_field digits) (nibs block))
      (λ pin. then_only these (covers variable check (length pin)) _ (covers_only these variable (λ _. refl) check (length pin))
      (λ m. then_only these (unless Check81 (eqb (length os) m) m) _ (test_only these Check81 refl (eqb (length os) m) m)
      (λ _. test_only these Unverified01 refl (same os (offset_of m pin (natural_of (length pin) ts (nibs enciphered)))) []))))))
      code),
  λ index block account digits room r s a i code.
      let these = In of_contents in
      let behind : Format → Outcome (List ℕ) = λ f. and_then (read_row f (account_field digits) (nibs block)) (λ pin. done (packs (input_row digits index pin))) in
      rw (le-leb 8 room r, eq-eqb (length block) 8 s, a, le-leb index 6 i)
      (left_to_lem of_contents (λ o. and_then o behind) (λ _. refl)
      (λ f. one_of of_contents (behind f) refl
      (then_only these (read_row f (account_field digits) (nibs block)) _ (row_only these refl refl f (account_field digits) (nibs block))
      (λ pin. done_only these (packs (input_row digits index pin)))))
      code),
  λ index block account digits enciphered pvv ps s a i e p code.
      let these = In of_pvv_verdict in
      let behind : Format → Outcome (List ℕ) = λ f. and_then (read_row f (account_field digits) (nibs block)) (λ _. unless Unverified01 (same (pvv_of (nibs enciphered)) ps) []) in
      rw (eq-eqb (length block) 8 s, a, le-leb index 6 i, eq-eqb (length enciphered) 8 e, p)
      (left_to_lem of_pvv_verdict (λ o. and_then o behind) (λ _. refl)
      (λ f. one_of of_pvv_verdict (behind f) refl
      (then_only these (read_row f (account_field digits) (nibs block)) _ (row_only these refl refl f (account_field digits) (nibs block))
      (λ _. test_only these Unverified01 refl (same (pvv_of (nibs enciphered)) ps) [])))
      code),
)

-- ---- the block, then 81

-- a chain that reads a block and goes on is the reading, and then what goes on
reads_first : {A B C D E : Type 0} (size : Outcome A) (account : Outcome B) (format : Outcome C) (row : A → B → C → Outcome D) (next : D → Outcome E)
    → and_then size (λ ns. and_then account (λ ds. and_then format (λ f. and_then (row ns ds f) next)))
    ≡ and_then (and_then size (λ ns. and_then account (λ ds. and_then format (λ f. row ns ds f)))) next
reads_first (refused q) account format row next = refl
reads_first (done ns) (refused q) format row next = refl
reads_first (done ns) (done ds) (refused q) row next = refl
reads_first (done ns) (done ds) (done f) row next = refl

pub block_before_81 : BlockBefore81
unfolding read_block offset_judged offset_verdict
block_before_81 code check block account table enciphered l h t d e =
    let size : Outcome (List ℕ) = unless Field15 (eqb (length block) 8) (nibs block) in
    let row : List ℕ → List ℕ → Format → Outcome (List ℕ) = λ ns ds f. read_row f (account_field ds) ns in
    let natural : List ℕ → List ℕ = λ pin. natural_of (length pin) (map value_of table) (nibs enciphered) in
    let joined = reads_first size (account_of account) (format_of (code_of code)) row in (
      λ room r.
          let next : Bool → List ℕ → Outcome (List ℕ) = λ variable pin. and_then (covers variable check (length pin)) (λ m. done (offset_of m pin (natural pin))) in (
            λ variable q k. rw (le-leb 12 room r, le-leb 4 check l, le-leb check 12 h, eq-eqb (length table) 16 t, eq-eqb (length enciphered) 8 e, d, joined (next variable), k),
            λ pin k short. rw (le-leb 12 room r, le-leb 4 check l, le-leb check 12 h, eq-eqb (length table) 16 t, eq-eqb (length enciphered) 8 e, d, joined (next false), k, lt-leb check (length pin) short),
          ),
      λ offset os p.
          let next : Bool → List ℕ → Outcome (List ℕ) = λ variable pin. verdict_on variable check os (pin, natural pin) in (
            λ variable q k. rw (le-leb 4 check l, le-leb check 12 h, eq-eqb (length table) 16 t, eq-eqb (length enciphered) 8 e, p, d, joined (next variable), k),
            λ pin k short. rw (le-leb 4 check l, le-leb check 12 h, eq-eqb (length table) 16 t, eq-eqb (length enciphered) 8 e, p, d, joined (next false), k, lt-leb check (length pin) short),
          ),
    )
