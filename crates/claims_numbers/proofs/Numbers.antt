-- The numbers that the calls below the command level answer, and the count with each.
-- Assumes nothing.
use Prim.Native.Nat.{ℕ}
use native.Mathlib.Omega.{arith}
use mathlib.Core.Path.{◌≡◌, refl, sym, ap, ◌∙◌}
use mathlib.Core.List.{List, [], ◌∷◌}
use mathlib.Core.Bool.{true, false, cond, false≢true}
use lib.ListN.{length}
use lib.Dec.{leb, eqb}
use borrow.Author.Tests.{eq-eqb}
use Rattle.nibbles.specs.Nibbles.{packs}
use Rattle.nibbles.proofs.Runs.{every_below}
use Rattle.alphabet.specs.Alphabet.{characters}
use Rattle.numbers.specs.Numbers.{Outcome, done, refused, unless, number_of}
use Rattle.numbers.specs.Promise.{quietly}
use Rattle.numbers.specs.declared.Refusal.{Refusal}
use Rattle.numbers.specs.declared.Refusal.TheVariants.{Unverified01, WeakList03, PinKeyParity10, PvkParity11, Field15, Block20, Format23, Length24, Table25, Key26, Use29, Code68, NotHere69, Check81, Weak86, Room901, Frame902}
use Rattle.pins.specs.Pins.{pin_length, account_of, sized}
use Rattle.blockcalls.specs.BlockCalls.{read_block, write_block}
use Rattle.blockcalls.proofs.Laws.{call_read, call_written}
use Rattle.translation.specs.Translation.{translate_block}
use Rattle.translation.proofs.Laws.{call_translated}
use Rattle.validation.specs.Validation.{validation_row, validation_block}
use Rattle.validation.proofs.Laws.{call_block}
use Rattle.naturals.specs.Naturals.{table_sized, table_of, natural_of, natural_pin}
use Rattle.offsets.specs.Offsets.{given, offset_made, offset_of_digits, differences_of}
use Rattle.verdicts.specs.Verdicts.{offset_verdict}
use Rattle.verdicts.proofs.Laws as verdicts
use Rattle.pvvdigits.specs.PvvDigits.{pvv_of}
use Rattle.pvv.specs.Pvv.{pvv_input, pvv_made, pvv_verdict}
use Rattle.pvv.proofs.Laws as pvvs
use Rattle.claims_blocks.specs.Promises.{listed, OfCalls}
use Rattle.claims_blocks.proofs.Judged.{Only, done_only, then_only}
use Rattle.claims_blocks.proofs.Numbers.{numbers_of_calls}
use Rattle.claims_numbers.specs.Numbers.{Numbered, SoMany, FourToTwelve, PinLength, field_numbers, natural_numbers, offset_numbers, digits_numbers, verdict_numbers, block_numbers, pvv_verdict_numbers, NumbersOfOffsetCalls, CountsOfCalls, MadeNever81}
use Rattle.claims_numbers.proofs.Refused.{room_only, account_only, sized_only, table_sized_only, table_only, length_only, validation_only, made_only, of_digits_only, differences_only, verdict_only, input_only, pvv_verdict_only}
use Rattle.claims_numbers.proofs.Counts.{eight, natural_counts, made_twelve, of_digits_twelve, differences_counts, input_eight, pvv_four}

-- ---- the numbers of refusals

-- what has a number: the refusal of a list that has it, else nothing is refused
numbered : ℕ → List Refusal → Outcome ℕ
numbered n [] = done n
numbered n (q ∷ qs) = cond (eqb (number_of q) n) (refused q) (numbered n qs)

-- all of them
refusals : List Refusal
refusals =
    Unverified01 ∷ WeakList03 ∷ PinKeyParity10 ∷ PvkParity11 ∷ Field15 ∷ Block20 ∷ Format23 ∷ Length24 ∷ Table25 ∷ Key26 ∷ Use29 ∷ Code68 ∷ NotHere69 ∷ Check81
    ∷ Weak86 ∷ Room901 ∷ Frame902 ∷ []

-- the refusal is found by its number
named : (q : Refusal) → numbered (number_of q) refusals ≡ refused q
unfolding numbered refusals
named Unverified01 = refl
named WeakList03 = refl
named PinKeyParity10 = refl
named PvkParity11 = refl
named Field15 = refl
named Block20 = refl
named Format23 = refl
named Length24 = refl
named Table25 = refl
named Key26 = refl
named Use29 = refl
named Code68 = refl
named NotHere69 = refl
named Check81 = refl
named Weak86 = refl
named Room901 = refl
named Frame902 = refl

-- a number is that of one refusal
pub number_once : (q r : Refusal) → number_of q ≡ number_of r → q ≡ r
number_once q r e = let z : refused q ≡ refused r = sym (named q) ∙ ap (λ (n : ℕ). numbered n refusals) e ∙ named r in cc

-- and never 00
pub never_00 : (q : Refusal) → 0 ≡ number_of q → ⊥
unfolding numbered refusals
never_00 q e =
    let none : numbered 0 refusals ≡ done 0 = refl in
    let some : numbered 0 refusals ≡ refused q = ap (λ (n : ℕ). numbered n refusals) e ∙ named q in
    let z : ◌≡◌ {A = ℕ} 0 1 = cc in omega arith

-- ---- variable length

-- any number but 81
abbrev Not81 : Refusal → Type 0
Not81 q = eqb (number_of q) 81 ≡ false

not_81 : (o : Outcome (List ℕ)) → Only Not81 o → (quietly o).number ≡ 81 → ⊥
not_81 (done w) c e = omega arith
not_81 (refused q) c e = false≢true (sym (c q refl) ∙ eq-eqb (number_of q) 81 e)

pub made_never_81 : MadeNever81
made_never_81 = (
  λ code check block account table enciphered room. not_81 (offset_made true code check block account table enciphered room)
      (made_only Not81 true (λ e. absurd (false≢true (sym e))) refl refl refl refl refl refl refl code check block account table enciphered room),
  λ check pin natural room. not_81 (offset_of_digits true check pin natural room)
      (of_digits_only Not81 true (λ e. absurd (false≢true (sym e))) refl refl refl refl check pin natural room),
)

-- ---- from refusals and lengths to numbers and counts

-- a refusal with one of these numbers
abbrev pub In : List ℕ → Refusal → Type 0
In numbers q = listed (number_of q) numbers ≡ true

-- what is refused for these numbers only, and done with right counts only
told : {A : Type 0} (numbers : List ℕ) (counts : ℕ → Type 0) (o : Outcome (List A)) → listed 0 numbers ≡ true → Only (In numbers) o
    → ((w : List A) → o ≡ done w → counts (length w)) → Numbered numbers counts (quietly o)
told numbers counts (done w) z c long = (z, λ _. long w refl, λ h. absurd (h refl))
told numbers counts (refused q) z c long = (c q refl, λ e. absurd (never_00 q (sym e)), λ _. refl)

-- ---- the nine calls

pub numbers_of_offset_calls : NumbersOfOffsetCalls
unfolding validation_block natural_pin pvv_made
numbers_of_offset_calls =
    let field = In field_numbers in
    let natural_pin_lem = In natural_numbers in (
      λ validation account room. told field_numbers (SoMany 8) (validation_block validation account room) refl
          (then_only field (unless Room901 (leb 8 room) room) _ (room_only field refl 8 room)
          (λ _. then_only field (account_of account) _ (account_only field refl account)
          (λ digits. then_only field (validation_row digits validation) _ (validation_only field refl digits validation)
          (λ ns. done_only field (packs ns)))))
          (eight (validation_block validation account room) room (call_block validation account room)),
      λ n table enciphered room. told natural_numbers (PinLength n) (natural_pin n table enciphered room) refl
          (then_only natural_pin_lem (unless Room901 (leb 12 room) room) _ (room_only natural_pin_lem refl 12 room)
          (λ _. then_only natural_pin_lem (table_sized table) _ (table_sized_only natural_pin_lem refl table)
          (λ _. then_only natural_pin_lem (sized 8 enciphered) _ (sized_only natural_pin_lem refl enciphered)
          (λ es. then_only natural_pin_lem (table_of table) _ (table_only natural_pin_lem refl table)
          (λ ts. then_only natural_pin_lem (pin_length n) _ (length_only natural_pin_lem refl n)
          (λ k. done_only natural_pin_lem (natural_of k ts es)))))))
          (natural_counts n table enciphered room),
      λ variable code check block account table enciphered room. told offset_numbers (SoMany 12)
          (offset_made variable code check block account table enciphered room) refl
          (made_only _ variable (λ _. refl) refl refl refl refl refl refl refl code check block account table enciphered room)
          (made_twelve variable code check block account table enciphered room),
      λ variable check pin natural room. told digits_numbers (SoMany 12) (offset_of_digits variable check pin natural room) refl
          (of_digits_only _ variable (λ _. refl) refl refl refl refl check pin natural room)
          (of_digits_twelve variable check pin natural room),
      λ variable check pin natural room. told digits_numbers FourToTwelve (differences_of variable check pin natural room) refl
          (differences_only _ refl refl refl refl refl variable check pin natural room)
          (differences_counts variable check pin natural room),
      λ variable code check block account table enciphered offset. told verdict_numbers (SoMany 0)
          (offset_verdict variable code check block account table enciphered offset) refl
          (verdict_only _ refl refl refl refl refl refl refl refl variable code check block account table enciphered offset)
          (λ w e. ap length (verdicts.verdict_nothing variable code check block account table enciphered offset w e)),
      λ code index block account room. told block_numbers (SoMany 8) (pvv_input code index block account room) refl
          (input_only _ refl refl refl refl refl refl code index block account room)
          (input_eight code index block account room),
      λ enciphered room bytes. told field_numbers (SoMany 4) (pvv_made enciphered room) refl
          (then_only field (unless Room901 (leb 4 room) room) _ (room_only field refl 4 room)
          (λ _. then_only field (sized 8 enciphered) _ (sized_only field refl enciphered)
          (λ es. done_only field (characters (pvv_of es)))))
          (pvv_four enciphered room bytes),
      λ code index block account enciphered pvv. told pvv_verdict_numbers (SoMany 0) (pvv_verdict code index block account enciphered pvv) refl
          (pvv_verdict_only _ refl refl refl refl refl refl code index block account enciphered pvv)
          (λ w e. ap length (pvvs.verdict_nothing code index block account enciphered pvv w e)),
    )

-- ---- the three block calls

-- what one of the three answers, and how many
block_told : (counts : ℕ → Type 0) (o : Outcome (List ℕ)) → OfCalls (quietly o) → ((w : List ℕ) → o ≡ done w → counts (length w)) → Numbered block_numbers counts (quietly o)
block_told counts o given long = told block_numbers counts o refl (λ q e. rw e at given) long

pub counts_of_calls : CountsOfCalls
counts_of_calls = (
  λ code block account before. block_told FourToTwelve (read_block code block account (length before)) (numbers_of_calls.0 code block account before)
      (λ w e. let p = (call_read code block account (length before) w e).1 in (p.long, p.short)),
  λ code pin account fill before f. block_told (SoMany 8) (write_block code pin account fill (length before)) (numbers_of_calls.1 code pin account fill before)
      (eight (write_block code pin account fill (length before)) (length before) (λ w e. call_written code pin account fill (length before) w (every_below 255 fill f) e)),
  λ restricted from to block account fill before b f. block_told (SoMany 8) (translate_block restricted from to block account fill (length before))
      (numbers_of_calls.2 restricted from to block account fill before)
      (eight (translate_block restricted from to block account fill (length before)) (length before)
      (call_translated restricted from to block account fill (length before) (every_below 255 block b) (every_below 255 fill f))),
)
