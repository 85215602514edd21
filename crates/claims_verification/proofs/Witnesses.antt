-- The assumptions of demand 3 are met by DAs and EAs, on both sides of the verdict: computed.
-- Assumes nothing.
use Prim.Native.Nat.{ℕ}
use native.Mathlib.Nat.{le_refl}
use native.Mathlib.Omega.{arith}
use mathlib.Core.Path.{◌≡◌, refl, ap}
use mathlib.Core.List.{List, [], ◌∷◌}
use mathlib.Core.Bool.{true}
use lib.ListN.{length, get_or, take, drop, replicate}
use Rattle.nibbles.specs.Nibbles.{nibs, xors, every, leading, same}
use Rattle.alphabet.specs.Alphabet.{all_of, begins, value_of}
use Rattle.numbers.specs.Numbers.{done}
use Rattle.numbers.specs.Promise.{Said}
use Rattle.settings.specs.Settings.{usually}
use Rattle.codes.specs.Codes as codes
use Rattle.formats.specs.declared.Format.TheVariants.{F01}
use Rattle.blocks.specs.Blocks.{contents, read_row}
use Rattle.ibm3624.specs.Ibm3624.{covers, differences}
use Rattle.offsettexts.specs.OffsetTexts.{digit_end}
use Rattle.offsets.specs.Offsets.{pin_with_natural}
use Rattle.frame.specs.Frame.{is_framed, code_of, opening}
use Rattle.fields.specs.Fields.{read, run, number, trailer}
use Rattle.lmk.specs.Lmk.{lmk_field}
use Rattle.keys.specs.Keys.{hex_key, lettered, key}
use Rattle.keybox.specs.KeyBox.{slices, parities, boxed}
use Rattle.responses.specs.Responses.{room_to_answer}
use Rattle.validation.specs.Validation.{shape_of}
use Rattle.validation.specs.declared.Shape.TheVariants.{Template}
use Rattle.formatfield.specs.FormatField.{format_field}
use Rattle.validationfield.specs.ValidationField.{validation_field}
use Rattle.offsetfield.specs.OffsetField.{offset_field}
use Rattle.keyfields.specs.KeyFields.{key_pair}
use Rattle.sealed.specs.Sealed.{sealed}
use Rattle.offsetting.specs.Offsetting.{offsetting, part}
use Rattle.endings.specs.Endings.{end}
use Rattle.verifyfields.specs.VerifyFields.{front, verify_fields}
use Rattle.verifyfields.specs.declared.Verification.{Verification}
use Rattle.verifyfinish.specs.VerifyFinish.{verify_finish}
use Rattle.verify.specs.Verify.{verify_answer}
use Rattle.commands.specs.Commands.{answer_by, answered}
use Rattle.claims_commands.specs.Runs.{Verifying, terminal, zone, code_for, key_for, compared_in}
use Rattle.claims_commands.specs.Witnesses.{Run, run_p9, run_p10, run_other}
use Rattle.claims_commands.proofs.Cores.{papers_exchange}
use Rattle.claims_verification.specs.Calls.{answer, shown_in, ReachesVerdict}
use Rattle.claims_verification.specs.Witnesses.{command, in01, offset_p9, no_offset, run_six, Meets, BothVerified, NeitherVerified, OtherLengths, OneVerified, UnlikeUnverified, VariableRuns, LongOffset, RestrictedRun, paper_call, PapersVerification, VerdictsMet}

-- the fields of the command
abbrev v : Verification
v = record {
  sealed = record { block = 74; format = F01 };
  offsetting = record { check = 4; account = 94; table = 106; validation = 122; shape = Template 11 };
  offset = 134;
  digits = 4;
  trailer = 146;
}

-- the PINs with their natural PINs
abbrev pin_p9 : List ℕ × List ℕ
pin_p9 = (3 ∷ 4 ∷ 5 ∷ 6 ∷ 7 ∷ [], 9 ∷ 5 ∷ 3 ∷ 2 ∷ 0 ∷ [])

abbrev pin_p10 : List ℕ × List ℕ
pin_p10 = (4 ∷ 5 ∷ 6 ∷ 7 ∷ 8 ∷ [], 0 ∷ 6 ∷ 4 ∷ 3 ∷ 1 ∷ [])

abbrev pin_other : List ℕ × List ℕ
pin_other = (3 ∷ 4 ∷ 5 ∷ 6 ∷ 8 ∷ [], 9 ∷ 5 ∷ 3 ∷ 2 ∷ 0 ∷ [])

abbrev pin_six : List ℕ × List ℕ
pin_six = (1 ∷ 1 ∷ 2 ∷ 4 ∷ 4 ∷ 7 ∷ [], 9 ∷ 5 ∷ 3 ∷ 2 ∷ 0 ∷ 0 ∷ [])

module _ (w : Verifying) (offset : List ℕ) where
  -- the command, and the rows of the blocks
  abbrev sent : Run → List ℕ
  sent a = (in01 w offset a).command

  abbrev rows : Run → List ℕ × List ℕ
  rows a = (nibs a.block, nibs a.enciphered)

  -- what is to be computed of a run: its frame, its code, its fields, its rows, its PIN and natural PIN, the digits that are covered and
  -- those that are presented
  abbrev Computed : Run → List ℕ × List ℕ → Type 0
  Computed a pair =
      (is_framed 4 (sent a) ≡ true)
      × (code_of (drop 4 (sent a)) ≡ code_for w)
      × (verify_fields (key_for w) (sent a) 6 ≡ read v 146)
      × (boxed (length (sent a)) true true a.block a.enciphered ≡ done (rows a))
      × (compared_in (sent a) v (rows a) ≡ done pair)
      × (covers usually.variable 4 (length pair.0) ≡ done 4)
      × (digit_end (shown_in (sent a) v) ≡ 4)

  reaching : (a : Run) (pair : List ℕ × List ℕ) → Computed a pair → ReachesVerdict w usually (in01 w offset a)
  reaching a pair c = record {
    finds = record {
      reaches = record { roomy = le_refl room_to_answer; framed = c.0; coded = c.1; fields = v; past = 146; read = c.2; rows = rows a; boxed = c.3 };
      found = pair;
      paired = c.4;
    };
    m = 4;
    covered = c.5;
    digits = c.6;
  }

  meets : (a b : Run) (pair pair' : List ℕ × List ℕ) → Computed a pair → Computed b pair' → take 74 (sent a) ≡ take 74 (sent b) → drop 90 (sent a) ≡ drop 90 (sent b) → (pair.0 ≡ pair'.0 → ⊥) → Meets w offset a b
  unfolding reaching
  meets a b pair pair' c c' before behind apart = record {
    first = reaching a pair c;
    second = reaching b pair' c';
    alike = record { before = before; behind = behind };
    apart = apart;
  }

-- the PINs differ in a digit
differ : (i m n : ℕ) (pin pin' : List ℕ) → get_or pin i 0 ≡ m → get_or pin' i 0 ≡ n → (m ≡ n → ⊥) → pin ≡ pin' → ⊥
differ i m n pin pin' h k apart e = apart (omega (arith, ap (λ (ds : List ℕ). get_or ds i 0) e))

both_verified : BothVerified
unfolding nibs xors every leading same all_of begins value_of codes.code_of contents read_row differences pin_with_natural is_framed opening run number trailer hex_key lettered key lmk_field key_pair format_field sealed shape_of validation_field offsetting offset_field end slices parities boxed front verify_fields verify_finish verify_answer answer_by answered reaching meets
both_verified terminal = (meets terminal offset_p9 run_p9 run_p10 pin_p9 pin_p10 (refl, refl, refl, refl, refl, refl, refl) (refl, refl, refl, refl, refl, refl, refl) refl refl (differ 4 7 8 pin_p9.0 pin_p10.0 refl refl (omega arith)), refl, (refl, refl))
both_verified zone = (meets zone offset_p9 run_p9 run_p10 pin_p9 pin_p10 (refl, refl, refl, refl, refl, refl, refl) (refl, refl, refl, refl, refl, refl, refl) refl refl (differ 4 7 8 pin_p9.0 pin_p10.0 refl refl (omega arith)), refl, (refl, refl))

neither_verified : NeitherVerified
unfolding nibs xors every leading same all_of begins value_of codes.code_of contents read_row differences pin_with_natural is_framed opening run number trailer hex_key lettered key lmk_field key_pair format_field sealed shape_of validation_field offsetting offset_field end slices parities boxed front verify_fields verify_finish verify_answer answer_by answered reaching meets
neither_verified terminal = (meets terminal no_offset run_p9 run_p10 pin_p9 pin_p10 (refl, refl, refl, refl, refl, refl, refl) (refl, refl, refl, refl, refl, refl, refl) refl refl (differ 4 7 8 pin_p9.0 pin_p10.0 refl refl (omega arith)), refl, (refl, refl))
neither_verified zone = (meets zone no_offset run_p9 run_p10 pin_p9 pin_p10 (refl, refl, refl, refl, refl, refl, refl) (refl, refl, refl, refl, refl, refl, refl) refl refl (differ 4 7 8 pin_p9.0 pin_p10.0 refl refl (omega arith)), refl, (refl, refl))

other_lengths : OtherLengths
unfolding nibs xors every leading same all_of begins value_of codes.code_of contents read_row differences pin_with_natural is_framed opening run number trailer hex_key lettered key lmk_field key_pair format_field sealed shape_of validation_field offsetting offset_field end slices parities boxed front verify_fields verify_finish verify_answer answer_by answered reaching meets
other_lengths terminal = (meets terminal offset_p9 run_p9 run_six pin_p9 pin_six (refl, refl, refl, refl, refl, refl, refl) (refl, refl, refl, refl, refl, refl, refl) refl refl (differ 0 3 1 pin_p9.0 pin_six.0 refl refl (omega arith)), refl, refl, refl, refl)
other_lengths zone = (meets zone offset_p9 run_p9 run_six pin_p9 pin_six (refl, refl, refl, refl, refl, refl, refl) (refl, refl, refl, refl, refl, refl, refl) refl refl (differ 0 3 1 pin_p9.0 pin_six.0 refl refl (omega arith)), refl, refl, refl, refl)

one_verified : OneVerified
unfolding nibs xors every leading same all_of begins value_of codes.code_of contents read_row differences pin_with_natural is_framed opening run number trailer hex_key lettered key lmk_field key_pair format_field sealed shape_of validation_field offsetting offset_field end slices parities boxed front verify_fields verify_finish verify_answer answer_by answered reaching meets
one_verified terminal = (meets terminal offset_p9 run_p9 run_other pin_p9 pin_other (refl, refl, refl, refl, refl, refl, refl) (refl, refl, refl, refl, refl, refl, refl) refl refl (differ 4 7 8 pin_p9.0 pin_other.0 refl refl (omega arith)), λ e. omega (arith, ap (λ (ds : List ℕ). get_or ds 3 0) e), (refl, refl))
one_verified zone = (meets zone offset_p9 run_p9 run_other pin_p9 pin_other (refl, refl, refl, refl, refl, refl, refl) (refl, refl, refl, refl, refl, refl, refl) refl refl (differ 4 7 8 pin_p9.0 pin_other.0 refl refl (omega arith)), λ e. omega (arith, ap (λ (ds : List ℕ). get_or ds 3 0) e), (refl, refl))

unlike_unverified : UnlikeUnverified
unfolding nibs xors every leading same all_of begins value_of codes.code_of contents read_row differences pin_with_natural is_framed opening run number trailer hex_key lettered key lmk_field key_pair format_field sealed shape_of validation_field offsetting offset_field end slices parities boxed front verify_fields verify_finish verify_answer answer_by answered reaching meets
unlike_unverified terminal = (meets terminal no_offset run_p9 run_other pin_p9 pin_other (refl, refl, refl, refl, refl, refl, refl) (refl, refl, refl, refl, refl, refl, refl) refl refl (differ 4 7 8 pin_p9.0 pin_other.0 refl refl (omega arith)), λ e. omega (arith, ap (λ (ds : List ℕ). get_or ds 3 0) e), (refl, refl))
unlike_unverified zone = (meets zone no_offset run_p9 run_other pin_p9 pin_other (refl, refl, refl, refl, refl, refl, refl) (refl, refl, refl, refl, refl, refl, refl) refl refl (differ 4 7 8 pin_p9.0 pin_other.0 refl refl (omega arith)), λ e. omega (arith, ap (λ (ds : List ℕ). get_or ds 3 0) e), (refl, refl))

variable_runs : VariableRuns
unfolding nibs xors every leading same all_of begins value_of codes.code_of contents read_row differences pin_with_natural is_framed opening run number trailer hex_key lettered key lmk_field key_pair format_field sealed shape_of validation_field offsetting offset_field end slices parities boxed front verify_fields verify_finish verify_answer answer_by answered reaching meets
variable_runs terminal = (refl, refl)
variable_runs zone = (refl, refl)

long_offset : LongOffset
unfolding nibs xors every leading same all_of begins value_of codes.code_of contents read_row differences pin_with_natural is_framed opening run number trailer hex_key lettered key lmk_field key_pair format_field sealed shape_of validation_field offsetting offset_field end slices parities boxed front verify_fields verify_finish verify_answer answer_by answered reaching meets
long_offset terminal = refl
long_offset zone = refl

restricted_run : RestrictedRun
unfolding nibs xors every leading same all_of begins value_of codes.code_of contents read_row differences pin_with_natural is_framed opening run number trailer hex_key lettered key lmk_field key_pair format_field sealed shape_of validation_field offsetting offset_field end slices parities boxed front verify_fields verify_finish verify_answer answer_by answered reaching meets
restricted_run terminal = refl
restricted_run zone = refl

-- the text that BK's response has behind its number
bk_offset : part (answer usually paper_call).written 8 12 ≡ offset_p9
bk_offset = ap (λ (x : Said ℕ). part x.written 8 12) ((papers_exchange usually.restricted).1 (replicate 65 0) (le_refl 65))

papers_verification : PapersVerification
unfolding nibs xors every leading same all_of begins value_of codes.code_of contents read_row differences pin_with_natural is_framed opening run number trailer hex_key lettered key lmk_field key_pair format_field sealed shape_of validation_field offsetting offset_field end slices parities boxed front verify_fields verify_finish verify_answer answer_by answered reaching meets
papers_verification terminal = (rw bk_offset refl, refl)
papers_verification zone = (rw bk_offset refl, refl)

pub verdicts_met : VerdictsMet
verdicts_met = (both_verified, neither_verified, other_lengths, one_verified, unlike_unverified, variable_runs, long_offset, restricted_run, papers_verification)
