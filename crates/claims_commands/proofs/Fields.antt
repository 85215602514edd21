-- For what the fields of a command are refused: reader by reader, then stage by stage.
-- Assumes nothing.
use Rattle.std.specs.Prelude.{Option}
use Prim.Native.Nat.{ℕ, ◌+◌, ◌-◌, ◌*◌}
use mathlib.Core.Path.{◌≡◌, refl, sym, ap, ◌∙◌, subst}
use mathlib.Core.List.{List, [], ◌∷◌}
use mathlib.Core.Bool.{Bool, true, false, ◌&&◌, ◌||◌, cond, false≢true}
use lib.ListN.{length, get_or, take, drop}
use lib.Dec.{leb, eqb}
use borrow.Author.Tests.{eqb-true}
use Rattle.nibbles.specs.Nibbles.{within, every}
use Rattle.nibbles.proofs.Lists.{and_left, and_right}
use Rattle.alphabet.specs.Alphabet.{admits, all_of, begins, value_of}
use Rattle.alphabet.specs.declared.Class.{Class}
use Rattle.alphabet.specs.declared.Class.TheVariants.{Digit, CapitalHex, Printable}
use Rattle.numbers.specs.Numbers.{Outcome, done, refused, and_then, unless, number_of}
use Rattle.numbers.specs.declared.Refusal.{Refusal}
use Rattle.numbers.specs.declared.Refusal.TheVariants.{WeakList03, Field15, Format23, Table25, Key26, Use29, NotHere69}
use Rattle.codes.specs.Codes.{code_of, format_of}
use Rattle.codes.specs.declared.Code.{Code}
use Rattle.codes.specs.declared.Code.TheVariants.{Built, Known, Unknown}
use Rattle.validation.specs.Validation.{width_of, shape_of, is_validation}
use Rattle.fields.specs.Fields.{Found, Stage, read, faulty, run, number, two_digits, marked, behind, trailer_mark, longest_trailer, at_most, trailer, fielded, onward, Ruling, pointing, heard, outcome}
use Rattle.fields.proofs.Rulings.{heard_pointing}
use Rattle.fields.specs.declared.Fault.{Fault}
use Rattle.lmk.specs.Lmk.{lmk_field, present}
use Rattle.uses.specs.Uses.{pin_key, pvk, verifying_pvk, permits}
use Rattle.uses.specs.declared.Use.{Use}
use Rattle.keylengths.specs.KeyLengths.{said_length, block_length}
use Rattle.keyblocks.specs.KeyBlocks.{key_block}
use Rattle.keys.specs.Keys.{type001, type002, type_fff, only_u_or_t, only_s, key_type, hex_key, letter_u, letter_t, letter_s, any_letter, admitted, lettered, key}
use Rattle.keys.specs.declared.Letters.{Letters}
use Rattle.weakfield.specs.WeakField.{none_at, weak_field}
use Rattle.weakfield.specs.WeakField as list
use Rattle.formatfield.specs.FormatField.{allows, format_field}
use Rattle.validationfield.specs.ValidationField.{validation_field}
use Rattle.offsetfield.specs.OffsetField.{offset_field}
use Rattle.offsetfield.proofs.Laws.{offset_refuses}
use Rattle.keyfields.specs.KeyFields.{key_pair, keys}
use Rattle.sealed.specs.Sealed.{sealed}
use Rattle.offsetting.specs.Offsetting.{offsetting}
use Rattle.weaklist.specs.WeakList.{weak}
use Rattle.endings.specs.Endings.{all_agree, last_id, closed, end}
use Rattle.keyfields.specs.declared.Keys.{Keys}
use Rattle.bkfields.specs.BkFields.{weak_mark, bk_fields}
use Rattle.verifyfields.specs.VerifyFields.{maximum, front, restricted, verify_fields}
use Rattle.claims_blocks.specs.Promises.{listed}
use Rattle.claims_blocks.proofs.Judged.{Only, done_only, refused_only, test_only, then_only}

-- ---- numbers that stand in a list

-- what passes at every number of a list passes at each that stands in it
pub listed_passes : (p : ℕ → Bool) (n : ℕ) (ms : List ℕ) → every p ms ≡ true → listed n ms ≡ true → p n ≡ true
unfolding every
listed_passes p n [] h e = absurd (false≢true e)
listed_passes p n (m ∷ ms) h e = by_test (eqb n m) refl e (listed_passes p n ms (and_right (p m) (every p ms) h))
  where
    by_test : (b : Bool) → eqb n m ≡ b → (b || listed n ms) ≡ true → (listed n ms ≡ true → p n ≡ true) → p n ≡ true
    by_test true same e rest = ap p (eqb-true n m same) ∙ and_left (p m) (every p ms) h
    by_test false same e rest = rest e

-- a refusal whose number stands in a list
abbrev pub In : List ℕ → Refusal → Type 0
In numbers q = listed (number_of q) numbers ≡ true

-- so what is refused for the numbers of a list is refused for those of a longer one
pub wider : {A : Type 0} (ms ns : List ℕ) (o : Outcome A) → every (λ m. listed m ns) ms ≡ true → Only (In ms) o → Only (In ns) o
wider ms ns o h c q e = listed_passes (λ m. listed m ns) (number_of q) ms h (c q e)

-- ---- over any refusals

module _ (these : Refusal → Type 0) where
  -- one judgement or another
  pub either_only : {A : Type 0} (t : Bool) (o o' : Outcome A) → Only these o → Only these o' → Only these (cond t o o')
  either_only true o o' c d = c
  either_only false o o' c d = d

  -- a reader behind some characters
  pub behind_only : {A : Type 0} (n : ℕ) (o : Found A) → Only these o → Only these (behind n o)
  behind_only n (done r) c = done_only these (r.0, n + r.1)
  behind_only n (refused q) c = refused_only these q (c q refl)

  -- rulings, judgement after judgement
  pub then_heard : {A B : Type 0} (o : Ruling A) (next : A → Ruling B) → Only these (heard o) → ((a : A) → Only these (heard (next a))) → Only these (heard (and_then o next))
  then_heard (done a) next c n = n a
  then_heard (refused f) next c n = refused_only these f.refusal (c f.refusal refl)

  -- wherever it points
  pub pointed_only : {A : Type 0} (which at : ℕ) (o : Outcome A) → Only these o → Only these (heard (pointing which at o))
  pointed_only which at o c = subst (Only these) (sym (heard_pointing which at o)) c

  -- a field, and what comes next
  pub fielded_only : {A B : Type 0} (k at : ℕ) (o : Found A) (next : A → ℕ → Stage B) → Only these o → ((a : A) (past : ℕ) → Only these (outcome (next a past)))
      → Only these (outcome (fielded k at o next))
  fielded_only k at (done r) next c n = n r.0 (at + r.1)
  fielded_only k at (refused q) next c n = refused_only these q (c q refl)

  -- a stage, and what comes next
  pub onward_only : {A B : Type 0} (stage : Stage A) (next : A → ℕ → Stage B) → Only these (outcome stage) → ((a : A) (past : ℕ) → Only these (outcome (next a past)))
      → Only these (outcome (onward stage next))
  onward_only (read a past) next c n = n a past
  onward_only (faulty f) next c n = refused_only these f.refusal (c f.refusal refl)

  -- so many characters of a class: for a missing one and for a wrong one
  pub run_only : (k : Class) (missing wrong : Refusal) → these missing → these wrong → (n : ℕ) (cs : List ℕ) → Only these (run k missing wrong n cs)
  unfolding run
  run_only k missing wrong m w n cs =
      then_only these (unless missing (leb n (length cs)) n) _ (test_only these missing m (leb n (length cs)) n)
      (λ _. test_only these wrong w (all_of k (take n cs)) (n, n))

  -- a number of two digits
  pub number_only : (low high : ℕ) (wrong : Refusal) → these wrong → (cs : List ℕ) → Only these (number low high wrong cs)
  unfolding number
  number_only low high wrong w cs =
      then_only these (run Digit wrong wrong 2 cs) _ (run_only Digit wrong wrong w w 2 cs)
      (λ _. test_only these wrong w (within low high (two_digits 0 cs)) (two_digits 0 cs, 2))

-- ---- the readers

-- the numbers of the fields that commands share
abbrev pub shared_numbers : List ℕ
shared_numbers = 15 ∷ 23 ∷ 25 ∷ 26 ∷ 29 ∷ 69 ∷ []

abbrev pub OfFields : Refusal → Type 0
OfFields = In shared_numbers

-- those of the weak list, which not every command has
abbrev pub weak_numbers : List ℕ
weak_numbers = 3 ∷ 15 ∷ []

abbrev pub OfWeak : Refusal → Type 0
OfWeak = In weak_numbers

-- 15
pub type_gives : (cs : List ℕ) → Only OfFields (key_type cs)
unfolding key_type
type_gives cs =
    either_only OfFields (begins type001 cs) _ _ (done_only OfFields (only_u_or_t, 3))
    (either_only OfFields (begins type002 cs) _ _ (done_only OfFields (only_u_or_t, 3))
    (either_only OfFields (begins type_fff cs) _ _ (done_only OfFields (only_s, 3)) (refused_only OfFields Field15 refl)))

-- 15
hex_gives : (n : ℕ) (cs : List ℕ) → Only OfFields (hex_key n cs)
unfolding hex_key
hex_gives n cs = then_only OfFields (run CapitalHex Field15 Field15 n cs) _ (run_only OfFields CapitalHex Field15 Field15 refl refl n cs) (λ r. done_only OfFields _)

-- 15, 26
length_gives : (cs : List ℕ) → Only OfFields (block_length cs)
unfolding block_length
length_gives cs =
    then_only OfFields (run Digit Field15 Key26 5 cs) _ (run_only OfFields Digit Field15 Key26 refl refl 5 cs)
    (λ _. test_only OfFields Key26 refl (leb (value_of (get_or cs 0 0)) 1 && within 16 512 (said_length cs)) (said_length cs, 5))

-- 15, 26, 29
block_gives : (for : Use) (cs : List ℕ) → Only OfFields (key_block for cs)
unfolding key_block
block_gives for cs =
    then_only OfFields (block_length cs) _ (length_gives cs)
    (λ said. then_only OfFields (run Printable Field15 Field15 (said.0 - 5) (drop 5 cs)) _ (run_only OfFields Printable Field15 Field15 refl refl (said.0 - 5) (drop 5 cs))
    (λ rest. then_only OfFields (unless Use29 (permits for cs) cs) _ (test_only OfFields Use29 refl (permits for cs) cs)
    (λ _. then_only OfFields (number 0 9 Field15 (drop 14 cs)) _ (number_only OfFields 0 9 Field15 refl (drop 14 cs))
    (λ id. done_only OfFields _))))

-- the same, and 26 for another letter
admitted_gives : (b : Bool) (o : Found (Option ℕ)) → Only OfFields o → Only OfFields (admitted b o)
admitted_gives b o c = either_only OfFields b _ _ c (refused_only OfFields Key26 refl)

behind_gives : (b : Bool) (o : Found (Option ℕ)) → Only OfFields o → Only OfFields (behind 1 (admitted b o))
behind_gives b o c = behind_only OfFields 1 (admitted b o) (admitted_gives b o c)

lettered_gives : (letters : Letters) (for : Use) (cs : List ℕ) → Only OfFields (lettered letters for cs)
unfolding lettered
lettered_gives letters for cs =
    either_only OfFields (marked letter_u cs) _ _ (behind_gives letters.double _ (hex_gives 32 (drop 1 cs)))
    (either_only OfFields (marked letter_t cs) _ _ (behind_gives letters.triple _ (hex_gives 48 (drop 1 cs)))
    (either_only OfFields (marked letter_s cs) _ _ (behind_gives letters.block _ (block_gives for (drop 1 cs)))
    (admitted_gives (letters.bare && admits CapitalHex (get_or cs 0 0)) _ (hex_gives 32 cs))))

pub key_gives : (letters : Letters) (for : Use) (cs : List ℕ) → Only OfFields (key letters for cs)
unfolding key
key_gives letters for cs = either_only OfFields (leb 1 (length cs)) _ _ (lettered_gives letters for cs) (refused_only OfFields Field15 refl)

-- 23, 69
code_gives : (c : Code) → Only OfFields (format_of c)
code_gives (Built f) = done_only OfFields f
code_gives Known = refused_only OfFields NotHere69 refl
code_gives Unknown = refused_only OfFields Format23 refl

-- 15, 23, 69
pub format_gives : (restricted : Bool) (cs : List ℕ) → Only OfFields (format_field restricted cs)
unfolding format_field
format_gives restricted cs =
    then_only OfFields (number 0 99 Field15 cs) _ (number_only OfFields 0 99 Field15 refl cs)
    (λ code. then_only OfFields (format_of (code_of code.0)) _ (code_gives (code_of code.0))
    (λ f. test_only OfFields NotHere69 refl (allows restricted f) (f, code.1)))

-- 15
pub validation_gives : (cs : List ℕ) → Only OfFields (validation_field cs)
unfolding validation_field
validation_gives cs =
    then_only OfFields (unless Field15 (leb (width_of cs) (length cs)) (width_of cs)) _ (test_only OfFields Field15 refl (leb (width_of cs) (length cs)) (width_of cs))
    (λ n. test_only OfFields Field15 refl (is_validation (take n cs)) (shape_of (take n cs), n))

-- 15 for the length of the weak PINs, 03 for their list
list_gives : (at count : ℕ) (cs : List ℕ) → Only OfWeak (list.listed at count cs)
unfolding list.listed
list_gives at count cs =
    either_only OfWeak (eqb count 0) _ _ (done_only OfWeak (none_at at, 0))
    (then_only OfWeak (number 4 12 Field15 cs) _ (number_only OfWeak 4 12 Field15 refl cs)
    (λ each. then_only OfWeak (run Digit WeakList03 WeakList03 (count * each.0) (drop 2 cs)) _ (run_only OfWeak Digit WeakList03 WeakList03 refl refl (count * each.0) (drop 2 cs))
    (λ digits. done_only OfWeak _)))

-- 03 for their count
pub weak_gives : (mark at : ℕ) (cs : List ℕ) → Only OfWeak (weak_field mark at cs)
unfolding weak_field
weak_gives mark at cs =
    either_only OfWeak (marked mark cs) _ _
    (then_only OfWeak (number 0 99 WeakList03 (drop 1 cs)) _ (number_only OfWeak 0 99 WeakList03 refl (drop 1 cs)) (λ count. behind_only OfWeak 3 _ (list_gives (at + 3) count.0 (drop 3 cs))))
    (done_only OfWeak (none_at at, 0))

-- 15
pub lmk_gives : (cs : List ℕ) → Only OfFields (lmk_field cs)
unfolding lmk_field
lmk_gives cs =
    either_only OfFields (marked 0x25 cs) _ _
    (behind_only OfFields 1 _ (then_only OfFields (number 0 9 Field15 (drop 1 cs)) _ (number_only OfFields 0 9 Field15 refl (drop 1 cs)) (λ id. done_only OfFields _)))
    (done_only OfFields _)

-- 15
pub trailer_gives : (cs : List ℕ) → Only OfFields (trailer cs)
unfolding trailer
trailer_gives cs =
    let n = at_most longest_trailer (length (drop 1 cs)) in
    either_only OfFields (marked trailer_mark cs) _ _
    (behind_only OfFields 1 (run Printable Field15 Field15 n (drop 1 cs)) (run_only OfFields Printable Field15 Field15 refl refl n (drop 1 cs)))
    (done_only OfFields (0, 0))

-- ---- the stages

pub pair_gives : (first : ℕ) (letters₁ : Letters) (use₁ : Use) (letters₂ : Letters) (use₂ : Use) (s : List ℕ) (at : ℕ) → Only OfFields (outcome (key_pair first letters₁ use₁ letters₂ use₂ s at))
unfolding key_pair
pair_gives first letters₁ use₁ letters₂ use₂ s at =
    fielded_only OfFields first at (key letters₁ use₁ (drop at s)) _ (key_gives letters₁ use₁ (drop at s))
    (λ lmk₁ at₂. fielded_only OfFields (first + 1) at₂ (key letters₂ use₂ (drop at₂ s)) _ (key_gives letters₂ use₂ (drop at₂ s))
    (λ lmk₂ next. done_only OfFields _))

pub keys_give : (first : ℕ) (use₁ use₂ : Use) (s : List ℕ) (at : ℕ) → Only OfFields (outcome (keys first use₁ use₂ s at))
unfolding keys
keys_give first use₁ use₂ s at =
    fielded_only OfFields first at (key_type (drop at s)) _ (type_gives (drop at s))
    (λ letters at₂. pair_gives (first + 1) letters use₁ letters use₂ s at₂)

pub sealed_gives : (first : ℕ) (restricted : Bool) (s : List ℕ) (at : ℕ) → Only OfFields (outcome (sealed first restricted s at))
unfolding sealed
sealed_gives first restricted s at =
    fielded_only OfFields first at (run CapitalHex Field15 Field15 16 (drop at s)) _ (run_only OfFields CapitalHex Field15 Field15 refl refl 16 (drop at s))
    (λ _ format. fielded_only OfFields (first + 1) format (format_field restricted (drop format s)) _ (format_gives restricted (drop format s))
    (λ f next. done_only OfFields _))

pub offsetting_gives : (first : ℕ) (s : List ℕ) (at : ℕ) → Only OfFields (outcome (offsetting first s at))
unfolding offsetting
offsetting_gives first s at =
    fielded_only OfFields first at (number 4 12 Field15 (drop at s)) _ (number_only OfFields 4 12 Field15 refl (drop at s))
    (λ check account. fielded_only OfFields (first + 1) account (run Digit Field15 Field15 12 (drop account s)) _ (run_only OfFields Digit Field15 Field15 refl refl 12 (drop account s))
    (λ _ table. fielded_only OfFields (first + 2) table (run Digit Field15 Table25 16 (drop table s)) _ (run_only OfFields Digit Field15 Table25 refl refl 16 (drop table s))
    (λ _ validation. fielded_only OfFields (first + 3) validation (validation_field (drop validation s)) _ (validation_gives (drop validation s))
    (λ shape next. done_only OfFields _))))

pub listing_gives : (first mark : ℕ) (s : List ℕ) (at : ℕ) → Only OfWeak (outcome (weak first mark s at))
unfolding weak
listing_gives first mark s at = fielded_only OfWeak first at (weak_field mark at (drop at s)) _ (weak_gives mark at (drop at s)) (λ w next. done_only OfWeak w)

-- what is left over and ids that do not agree are 15
closed_gives : (ks : Keys) (own : Option ℕ) (first at : ℕ) (s : List ℕ) (mark past : ℕ) → Only OfFields (outcome (closed ks own first at s mark past))
closed_gives ks own first at s mark past = by_test (leb (length s) past) (all_agree ks own)
  where
    last : (there : Bool) (f g : Fault) → OfFields f.refusal → OfFields g.refusal → OfFields (cond there f g).refusal
    last true f g c d = c
    last false f g c d = d

    by_test : (whole alike : Bool)
        → Only OfFields (outcome (cond whole (cond alike (read mark past) (faulty (last_id ks own first at))) (faulty (record { refusal = Field15; field = 0; place = past }))))
    by_test true true = done_only OfFields mark
    by_test true false = refused_only OfFields (last_id ks own first at).refusal (last (present own) _ _ refl refl)
    by_test false alike = refused_only OfFields Field15 refl

pub end_gives : (first : ℕ) (ks : Keys) (s : List ℕ) (at : ℕ) → Only OfFields (outcome (end first ks s at))
unfolding end
end_gives first ks s at =
    fielded_only OfFields first at (lmk_field (drop at s)) _ (lmk_gives (drop at s))
    (λ own mark. fielded_only OfFields (first + 1) mark (trailer (drop mark s)) _ (trailer_gives (drop mark s))
    (λ _ past. closed_gives ks own first at s mark past))

-- ---- BK

-- the numbers of its fields
abbrev pub field_numbers : List ℕ
field_numbers = 3 ∷ shared_numbers

abbrev OfBk : Refusal → Type 0
OfBk = In field_numbers

-- they are refused for nothing else
pub fields_give : (restricted : Bool) (s : List ℕ) (at : ℕ) → Only OfBk (outcome (bk_fields restricted s at))
unfolding bk_fields every
fields_give restricted s at =
    onward_only OfBk (keys 1 pin_key pvk s at) _ (wider shared_numbers field_numbers _ refl (keys_give 1 pin_key pvk s at))
    (λ ks at₄. onward_only OfBk (sealed 4 restricted s at₄) _ (wider shared_numbers field_numbers _ refl (sealed_gives 4 restricted s at₄))
    (λ block at₆. onward_only OfBk (offsetting 6 s at₆) _ (wider shared_numbers field_numbers _ refl (offsetting_gives 6 s at₆))
    (λ inputs at₁₀. onward_only OfBk (weak 10 weak_mark s at₁₀) _ (wider weak_numbers field_numbers _ refl (listing_gives 10 weak_mark s at₁₀))
    (λ pins at₁₁. onward_only OfBk (end 11 ks s at₁₁) _ (wider shared_numbers field_numbers _ refl (end_gives 11 ks s at₁₁))
    (λ mark past. done_only OfBk _)))))

-- ---- DA and EA

-- 15
offset_gives : (cs : List ℕ) → Only OfFields (offset_field cs)
offset_gives cs q e = subst OfFields (sym (offset_refuses cs q e)) refl

front_gives : (for : Use) (s : List ℕ) (at : ℕ) → Only OfFields (outcome (front for s at))
unfolding front
front_gives for s at =
    onward_only OfFields (key_pair 1 any_letter for any_letter verifying_pvk s at) _ (pair_gives 1 any_letter for any_letter verifying_pvk s at)
    (λ ks at₃. fielded_only OfFields 3 at₃ (number maximum maximum Field15 (drop at₃ s)) _ (number_only OfFields maximum maximum Field15 refl (drop at₃ s))
    (λ _ next. done_only OfFields ks))

-- they are refused for nothing but what commands share
pub verify_fields_give : (for : Use) (s : List ℕ) (at : ℕ) → Only OfFields (outcome (verify_fields for s at))
unfolding verify_fields
verify_fields_give for s at =
    onward_only OfFields (front for s at) _ (front_gives for s at)
    (λ ks at₄. onward_only OfFields (sealed 4 restricted s at₄) _ (sealed_gives 4 restricted s at₄)
    (λ block at₆. onward_only OfFields (offsetting 6 s at₆) _ (offsetting_gives 6 s at₆)
    (λ inputs at₁₀. fielded_only OfFields 10 at₁₀ (offset_field (drop at₁₀ s)) _ (offset_gives (drop at₁₀ s))
    (λ digits at₁₁. onward_only OfFields (end 11 ks s at₁₁) _ (end_gives 11 ks s at₁₁)
    (λ mark past. done_only OfFields _)))))
