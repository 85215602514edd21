-- The assumptions of demand 3 are met, on each side: computed.
-- Assumes nothing.
use Prim.Native.Nat.{ℕ, ◌+◌}
use native.Mathlib.Nat.{le_refl}
use native.Mathlib.Omega.{arith}
use mathlib.Core.Path.{◌≡◌, refl, ap}
use mathlib.Core.List.{List, [], ◌∷◌}
use mathlib.Core.Bool.{Bool, true, false}
use lib.ListN.{length, get_or, take, drop}
use Rattle.nibbles.specs.Nibbles.{nibs, xors, every, leading, same}
use Rattle.alphabet.specs.Alphabet.{all_of, begins, value_of}
use Rattle.numbers.specs.Numbers.{done}
use Rattle.numbers.specs.Promise.{Said}
use Rattle.settings.specs.Settings.{usually, restricted_to}
use Rattle.settings.specs.declared.Settings.{Settings}
use Rattle.codes.specs.Codes as codes
use Rattle.formats.specs.declared.Format.{Format}
use Rattle.formats.specs.declared.Format.TheVariants.{F01, F34}
use Rattle.blocks.specs.Blocks.{contents, read_row}
use Rattle.ibm3624.specs.Ibm3624.{covers, differences}
use Rattle.offsets.specs.Offsets.{pin_with_natural}
use Rattle.frame.specs.Frame.{is_framed, code_of, opening}
use Rattle.frame.specs.declared.Code.TheVariants as code
use Rattle.fields.specs.Fields.{read, run, number, trailer}
use Rattle.lmk.specs.Lmk.{lmk_field}
use Rattle.keys.specs.Keys.{key_type, hex_key, lettered, key}
use Rattle.weak.specs.Weak.{entries, is_on}
use Rattle.weakfield.specs.WeakField.{none_at, listed, weak_field}
use Rattle.weak.specs.declared.Weak.{Weak}
use Rattle.keybox.specs.KeyBox.{slices, parities, boxed}
use Rattle.responses.specs.Responses.{room_to_answer}
use Rattle.validation.specs.Validation.{shape_of}
use Rattle.validation.specs.declared.Shape.TheVariants.{Template}
use Rattle.formatfield.specs.FormatField.{format_field}
use Rattle.validationfield.specs.ValidationField.{validation_field}
use Rattle.keyfields.specs.KeyFields.{key_pair, keys}
use Rattle.sealed.specs.Sealed.{sealed}
use Rattle.offsetting.specs.Offsetting.{offsetting, account_in, table_in}
use Rattle.weaklist.specs.WeakList.{weak}
use Rattle.endings.specs.Endings.{end}
use Rattle.bkfields.specs.BkFields.{bk_fields}
use Rattle.bkfinish.specs.BkFinish.{bk_finish}
use Rattle.bk.specs.Bk.{bk_answer}
use Rattle.bkfields.specs.declared.Bk.{Bk}
use Rattle.commands.specs.Commands.{answer_by, answered}
use Rattle.claims_commands.specs.Runs.{Reads}
use Rattle.claims_commands.specs.Witnesses.{format01, format34, command, Run, run_p9, run_p10, run_other, run_last_four, run_p9_in_34, run_p10_in_34, run_other_in_34, both_listed, one_listed, variable, Meets, AlikeRuns, UnlikeRuns, AssumptionsMet}

-- the fields of the command, by its format, the place of its trailer's mark and its weak list
abbrev fields : Format → ℕ → Weak → Bk
fields format mark listed = record {
  sealed = record { block = 75; format = format };
  offsetting = record { check = 4; account = 95; table = 107; validation = 123; shape = Template 11 };
  weak = listed;
  trailer = mark;
}

-- without a weak list, with one of two PINs, with one of one
abbrev none : Format → Bk
none format = fields format 135 (none_at 135)

abbrev both : Bk
both = fields F01 150 (record { count = 2; length = 5; list = 140 })

abbrev one : Bk
one = fields F01 145 (record { count = 1; length = 5; list = 140 })

-- the PINs with their natural PINs
abbrev pin_p9 : List ℕ × List ℕ
pin_p9 = (3 ∷ 4 ∷ 5 ∷ 6 ∷ 7 ∷ [], 9 ∷ 5 ∷ 3 ∷ 2 ∷ 0 ∷ [])

abbrev pin_p10 : List ℕ × List ℕ
pin_p10 = (4 ∷ 5 ∷ 6 ∷ 7 ∷ 8 ∷ [], 0 ∷ 6 ∷ 4 ∷ 3 ∷ 1 ∷ [])

abbrev pin_other : List ℕ × List ℕ
pin_other = (3 ∷ 4 ∷ 5 ∷ 6 ∷ 8 ∷ [], 9 ∷ 5 ∷ 3 ∷ 2 ∷ 0 ∷ [])

abbrev pin_last_four : List ℕ × List ℕ
pin_last_four = (4 ∷ 5 ∷ 6 ∷ 7 ∷ 8 ∷ [], 1 ∷ 6 ∷ 4 ∷ 3 ∷ 1 ∷ [])

module _ (settings : Settings) (format : List ℕ) (m : ℕ) (weak : List ℕ) (p : Bk) where
  -- the command, and the rows of the blocks
  abbrev sent : Run → List ℕ
  sent a = command format a.sealed weak

  abbrev rows : Run → List ℕ × List ℕ
  rows a = (nibs a.block, nibs a.enciphered)

  -- what is to be computed of a run: its frame, its code, its fields, its rows, its PIN and natural PIN
  abbrev Computed : Run → List ℕ × List ℕ → Type 0
  Computed a pair =
      (is_framed settings.header (sent a) ≡ true)
      × (code_of (drop settings.header (sent a)) ≡ code.Bk)
      × (bk_fields settings.restricted (sent a) (settings.header + 2) ≡ read p p.trailer)
      × (boxed (length (sent a)) true true a.block a.enciphered ≡ done (rows a))
      × (pin_with_natural p.sealed.format (table_in (sent a) p.offsetting) ((rows a).0, account_in (sent a) p.offsetting, (rows a).1) ≡ done pair)

  reading : (a : Run) (pair : List ℕ × List ℕ) → Computed a pair → Reads settings true true room_to_answer (sent a) a.block a.enciphered
  reading a pair c = record {
    reaches = record { roomy = le_refl room_to_answer; framed = c.0; coded = c.1; fields = p; past = p.trailer; read = c.2; rows = rows a; boxed = c.3 };
    found = pair;
    paired = c.4;
  }

  -- and of two: they are alike but for the block, their PINs have one length, and m digits are covered
  abbrev Compared : Run → Run → List ℕ → List ℕ → Type 0
  Compared a b pin pin' =
      (take p.sealed.block (sent a) ≡ take p.sealed.block (sent b))
      × (drop (p.sealed.block + 16) (sent a) ≡ drop (p.sealed.block + 16) (sent b))
      × (length pin ≡ length pin')
      × (covers settings.variable p.offsetting.check (length pin) ≡ done m)

  meets : (a b : Run) (pair pair' : List ℕ × List ℕ) → Computed a pair → Computed b pair' → Compared a b pair.0 pair'.0 → (pair.0 ≡ pair'.0 → ⊥) → Meets settings format m weak a b
  unfolding reading
  meets a b pair pair' c c' d apart = record {
    first = reading a pair c;
    second = reading b pair' c';
    alike = record { before = d.0; behind = d.1 };
    long = d.2;
    covered = d.3;
    apart = apart;
  }

-- the PINs differ in their last digit, 7 and 8
differ : (pin pin' : List ℕ) → get_or pin 4 0 ≡ 7 → get_or pin' 4 0 ≡ 8 → pin ≡ pin' → ⊥
differ pin pin' h k e = omega (arith, ap (λ (ds : List ℕ). get_or ds 4 0) e)

-- the runs of format 01, under each setting
alike_runs : AlikeRuns
unfolding nibs xors every leading same all_of begins value_of codes.code_of contents read_row differences pin_with_natural is_framed opening run number trailer key_type hex_key lettered key lmk_field listed weak_field entries is_on key_pair keys format_field sealed shape_of validation_field offsetting weak end slices parities boxed bk_fields bk_finish bk_answer answer_by answered reading meets
alike_runs true = (meets (restricted_to usually true) format01 4 [] (none F01) run_p9 run_p10 pin_p9 pin_p10 (refl, refl, refl, refl, refl) (refl, refl, refl, refl, refl) (refl, refl, refl, refl) (differ pin_p9.0 pin_p10.0 refl refl), refl)
alike_runs false = (meets (restricted_to usually false) format01 4 [] (none F01) run_p9 run_p10 pin_p9 pin_p10 (refl, refl, refl, refl, refl) (refl, refl, refl, refl, refl) (refl, refl, refl, refl) (differ pin_p9.0 pin_p10.0 refl refl), refl)

unlike_runs : UnlikeRuns
unfolding nibs xors every leading same all_of begins value_of codes.code_of contents read_row differences pin_with_natural is_framed opening run number trailer key_type hex_key lettered key lmk_field listed weak_field entries is_on key_pair keys format_field sealed shape_of validation_field offsetting weak end slices parities boxed bk_fields bk_finish bk_answer answer_by answered reading meets
unlike_runs true = (meets (restricted_to usually true) format01 4 [] (none F01) run_p9 run_other pin_p9 pin_other (refl, refl, refl, refl, refl) (refl, refl, refl, refl, refl) (refl, refl, refl, refl) (differ pin_p9.0 pin_other.0 refl refl), λ e. omega (arith, ap (λ (x : Said ℕ). get_or x.written 11 0) e))
unlike_runs false = (meets (restricted_to usually false) format01 4 [] (none F01) run_p9 run_other pin_p9 pin_other (refl, refl, refl, refl, refl) (refl, refl, refl, refl, refl) (refl, refl, refl, refl) (differ pin_p9.0 pin_other.0 refl refl), λ e. omega (arith, ap (λ (x : Said ℕ). get_or x.written 11 0) e))

pub assumptions_met : AssumptionsMet
unfolding nibs xors every leading same all_of begins value_of codes.code_of contents read_row differences pin_with_natural is_framed opening run number trailer key_type hex_key lettered key lmk_field listed weak_field entries is_on key_pair keys format_field sealed shape_of validation_field offsetting weak end slices parities boxed bk_fields bk_finish bk_answer answer_by answered reading meets
assumptions_met = (
  alike_runs,
  unlike_runs,
  (
    (meets _ format34 4 [] (none F34) run_p9_in_34 run_p10_in_34 pin_p9 pin_p10 (refl, refl, refl, refl, refl) (refl, refl, refl, refl, refl) (refl, refl, refl, refl) (differ pin_p9.0 pin_p10.0 refl refl), refl),
    (meets _ format34 4 [] (none F34) run_p9_in_34 run_other_in_34 pin_p9 pin_other (refl, refl, refl, refl, refl) (refl, refl, refl, refl, refl) (refl, refl, refl, refl) (differ pin_p9.0 pin_other.0 refl refl), λ e. omega (arith, ap (λ (x : Said ℕ). get_or x.written 11 0) e)),
  ),
  record {
    met = meets usually format01 4 [] (none F01) run_p9 run_last_four pin_p9 pin_last_four (refl, refl, refl, refl, refl) (refl, refl, refl, refl, refl) (refl, refl, refl, refl) (differ pin_p9.0 pin_last_four.0 refl refl);
    five = λ e. omega (arith, ap (λ (ds : List ℕ). get_or ds 0 0) e);
    four = refl;
    agree = refl;
  },
  (
    (meets variable format01 5 [] (none F01) run_p9 run_p10 pin_p9 pin_p10 (refl, refl, refl, refl, refl) (refl, refl, refl, refl, refl) (refl, refl, refl, refl) (differ pin_p9.0 pin_p10.0 refl refl), refl),
    (meets variable format01 5 [] (none F01) run_p9 run_last_four pin_p9 pin_last_four (refl, refl, refl, refl, refl) (refl, refl, refl, refl, refl) (refl, refl, refl, refl) (differ pin_p9.0 pin_last_four.0 refl refl), λ e. omega (arith, ap (λ (x : Said ℕ). get_or x.written 8 0) e)),
  ),
  (meets usually format01 4 both_listed both run_p9 run_p10 pin_p9 pin_p10 (refl, refl, refl, refl, refl) (refl, refl, refl, refl, refl) (refl, refl, refl, refl) (differ pin_p9.0 pin_p10.0 refl refl), refl),
  (meets usually format01 4 one_listed one run_p9 run_p10 pin_p9 pin_p10 (refl, refl, refl, refl, refl) (refl, refl, refl, refl, refl) (refl, refl, refl, refl) (differ pin_p9.0 pin_p10.0 refl refl), λ e. omega (arith, ap (λ (x : Said ℕ). x.number) e)),
)
