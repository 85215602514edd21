-- The assumptions of demand 3 are met under different keys, on each side: computed.
-- Assumes nothing.
use Prim.Native.Nat.{ℕ, ◌≤◌}
use native.Mathlib.Nat.{le_refl}
use native.Mathlib.Omega.{arith}
use mathlib.Core.Path.{◌≡◌, refl, sym, ap, ◌∙◌}
use mathlib.Core.Logic.{inl, inr}
use mathlib.Core.List.{List, [], ◌∷◌}
use mathlib.Core.Bool.{true}
use lib.ListN.{length, get_or, take, drop}
use Rattle.nibbles.specs.Nibbles.{nibs, packs, xors, every, leading, same}
use Rattle.alphabet.specs.Alphabet.{all_of, begins, value_of}
use Rattle.numbers.specs.Numbers.{done}
use Rattle.numbers.specs.Promise.{Said}
use Rattle.settings.specs.Settings.{usually}
use Rattle.codes.specs.Codes as codes
use Rattle.formats.specs.declared.Format.TheVariants.{F01}
use Rattle.blocks.specs.Blocks.{contents, read_row}
use Rattle.ibm3624.specs.Ibm3624.{covers, differences}
use Rattle.offsettexts.specs.OffsetTexts.{digit_end}
use Rattle.offsets.specs.Offsets.{pin_with_natural}
use Rattle.frame.specs.Frame.{is_framed, code_of, opening}
use Rattle.frame.specs.declared.Code.TheVariants as code
use Rattle.fields.specs.Fields.{read, run, number, trailer}
use Rattle.lmk.specs.Lmk.{lmk_field}
use Rattle.keys.specs.Keys.{key_type, hex_key, lettered, key}
use Rattle.weak.specs.Weak.{entries, is_on}
use Rattle.weakfield.specs.WeakField.{none_at, listed, weak_field}
use Rattle.keybox.specs.KeyBox.{slices, parities, boxed}
use Rattle.validation.specs.Validation.{shape_of, validation_row}
use Rattle.validation.specs.declared.Shape.TheVariants.{Template}
use Rattle.formatfield.specs.FormatField.{format_field}
use Rattle.validationfield.specs.ValidationField.{validation_field}
use Rattle.offsetfield.specs.OffsetField.{offset_field}
use Rattle.keyfields.specs.KeyFields.{key_pair, keys}
use Rattle.sealed.specs.Sealed.{sealed}
use Rattle.offsetting.specs.Offsetting.{offsetting}
use Rattle.weaklist.specs.WeakList.{weak}
use Rattle.endings.specs.Endings.{end}
use Rattle.bkfields.specs.BkFields.{bk_fields}
use Rattle.bkfields.specs.declared.Bk.{Bk}
use Rattle.bkfinish.specs.BkFinish.{bk_finish}
use Rattle.bk.specs.Bk.{bk_ask, bk_extract, bk_answer}
use Rattle.verifyfields.specs.VerifyFields.{front, verify_fields}
use Rattle.verifyfields.specs.declared.Verification.{Verification}
use Rattle.verifyfinish.specs.VerifyFinish.{verify_finish}
use Rattle.verify.specs.Verify.{verify_ask, verify_extract, verify_answer}
use Rattle.commands.specs.Commands.{ask_by, asking, asked, extract_by, extracting, extracted, answer_by, answered}
use Rattle.bits.specs.Select.{select}
use Rattle.words.specs.Words.{spelled, in_bytes}
use Rattle.fips46.specs.Fips46.{IP, IP⁻¹, iterations, E, S1, S2, S3, S4, S5, S6, S7, S8, boxes, S, P, f, PC1, PC2, shifts, scheduled, KS, computed}
use Rattle.parity.specs.Parity.{ones, is_odd, odd_parity}
use Rattle.ciphers.specs.Ciphers.{triple_block}
use Rattle.ciphers.specs.declared.Way.TheVariants.{Encipher, Decipher}
use Rattle.lab.specs.Lab.{clear_block, validation_cipher}
use Rattle.lab.proofs.Laws.{answers_lab}
use Rattle.claims_commands.specs.Runs.{pair_in, Verifying, terminal, zone, code_for, key_for, compared_in}
use Rattle.claims_verification.specs.Calls.{shown_in}
use Rattle.claims_lab.specs.Told.{LabCall, lab_answer, LabReads, LabReachesVerdict}
use Rattle.claims_lab.specs.Witnesses as runs
use Rattle.claims_lab.specs.Witnesses.{KeysApart, Meets, AgreeUnderOtherKeys, DifferUnderOtherKeys, Compared, VerdictsUnderOtherKeys, LabExchange}
use Rattle.claims_lab.proofs.Product.{clear_made, cipher_made}

-- ---- triple DES, computed

-- the clear blocks of PIN 34567, which is the paper's P2, and of 67551
abbrev clear34567 : List ℕ
clear34567 = 0x05 ∷ 0x34 ∷ 0x16 ∷ 0x7F ∷ 0xFF ∷ 0xED ∷ 0xCB ∷ 0xA9 ∷ []

abbrev clear67551 : List ℕ
clear67551 = 0x05 ∷ 0x67 ∷ 0x15 ∷ 0x1F ∷ 0xFF ∷ 0xED ∷ 0xCB ∷ 0xA9 ∷ []

-- the sealed blocks of the three runs
abbrev sealed_a6 : List ℕ
sealed_a6 = 0xA6 ∷ 0xC2 ∷ 0x7D ∷ 0x97 ∷ 0x17 ∷ 0x22 ∷ 0x74 ∷ 0x71 ∷ []

abbrev sealed_ec : List ℕ
sealed_ec = 0xEC ∷ 0x75 ∷ 0xE3 ∷ 0x34 ∷ 0xAE ∷ 0x4C ∷ 0x56 ∷ 0x66 ∷ []

abbrev sealed_6e : List ℕ
sealed_6e = 0x6E ∷ 0xDB ∷ 0x87 ∷ 0x62 ∷ 0x4E ∷ 0x96 ∷ 0x61 ∷ 0x13 ∷ []

-- the validation block, P12's, and what each PVK makes of it
abbrev validation : List ℕ
validation = 0x01 ∷ 0x23 ∷ 0x45 ∷ 0x67 ∷ 0x89 ∷ 0xA2 ∷ 0x34 ∷ 0x56 ∷ []

abbrev cipher_of_16 : List ℕ
cipher_of_16 = 0x8C ∷ 0x9D ∷ 0x1A ∷ 0x87 ∷ 0xC1 ∷ 0xAA ∷ 0xCE ∷ 0x07 ∷ []

abbrev cipher_of_24 : List ℕ
cipher_of_24 = 0x15 ∷ 0x92 ∷ 0xFE ∷ 0x64 ∷ 0xCD ∷ 0xE7 ∷ 0xEC ∷ 0xC6 ∷ []

opens_A6 : triple_block Decipher runs.pin_key_of_16 sealed_a6 ≡ clear34567
unfolding select spelled in_bytes IP IP⁻¹ iterations E S1 S2 S3 S4 S5 S6 S7 S8 boxes S P f PC1 PC2 shifts scheduled KS computed
opens_A6 = refl

opens_EC : triple_block Decipher runs.pin_key_of_24 sealed_ec ≡ clear67551
unfolding select spelled in_bytes IP IP⁻¹ iterations E S1 S2 S3 S4 S5 S6 S7 S8 boxes S P f PC1 PC2 shifts scheduled KS computed
opens_EC = refl

opens_6E : triple_block Decipher runs.pin_key_of_24 sealed_6e ≡ clear34567
unfolding select spelled in_bytes IP IP⁻¹ iterations E S1 S2 S3 S4 S5 S6 S7 S8 boxes S P f PC1 PC2 shifts scheduled KS computed
opens_6E = refl

enciphers_16 : triple_block Encipher runs.pvk_of_16 validation ≡ cipher_of_16
unfolding select spelled in_bytes IP IP⁻¹ iterations E S1 S2 S3 S4 S5 S6 S7 S8 boxes S P f PC1 PC2 shifts scheduled KS computed
enciphers_16 = refl

enciphers_24 : triple_block Encipher runs.pvk_of_24 validation ≡ cipher_of_24
unfolding select spelled in_bytes IP IP⁻¹ iterations E S1 S2 S3 S4 S5 S6 S7 S8 boxes S P f PC1 PC2 shifts scheduled KS computed
enciphers_24 = refl

-- ---- what the keys make of a run

record Made (a : LabCall) (clear cipher : List ℕ) : Type 0 where
  pub pin_key_lem : true ≡ odd_parity a.pin_key
  pub pvk : true ≡ odd_parity a.pvk
  pub block : clear ≡ clear_block usually a.command a.pin_key
  pub enciphered : cipher ≡ validation_cipher usually a.command a.pvk

-- two parts, and three
under_16 : (s b clear : List ℕ) → extracted usually s 16 ≡ done b → triple_block Decipher runs.pin_key_of_16 b ≡ clear → asked usually s 8 ≡ done validation
    → Made (record { command = s; pin_key = runs.pin_key_of_16; pvk = runs.pvk_of_16; room = 65 }) clear cipher_of_16
unfolding every ones is_odd odd_parity
under_16 s b clear x opens a = record {
  pin_key_lem = refl;
  pvk = refl;
  block = sym (clear_made usually s runs.pin_key_of_16 b (inl refl) x ∙ opens);
  enciphered = sym (cipher_made usually s runs.pvk_of_16 validation (inl refl) a ∙ enciphers_16);
}

under_24 : (s b clear : List ℕ) → extracted usually s 16 ≡ done b → triple_block Decipher runs.pin_key_of_24 b ≡ clear → asked usually s 8 ≡ done validation
    → Made (record { command = s; pin_key = runs.pin_key_of_24; pvk = runs.pvk_of_24; room = 65 }) clear cipher_of_24
unfolding every ones is_odd odd_parity
under_24 s b clear x opens a = record {
  pin_key_lem = refl;
  pvk = refl;
  block = sym (clear_made usually s runs.pin_key_of_24 b (inr refl) x ∙ opens);
  enciphered = sym (cipher_made usually s runs.pvk_of_24 validation (inr refl) a ∙ enciphers_24);
}

-- what the core answers at that is the product's answer
answers : (a : LabCall) (clear cipher : List ℕ) → Made a clear cipher → lab_answer usually a ≡ answered usually true true a.command clear cipher a.room
answers a clear cipher m = sym (answers_lab usually a.command a.pin_key a.pvk clear cipher true true a.room m.pin_key_lem m.pvk m.block m.enciphered)

-- keys of different lengths are not the same
unequal : (key key' : List ℕ) → length key ≡ 16 → length key' ≡ 24 → key ≡ key' → ⊥
unequal key key' l l' e = omega (arith, l, l', ap length e)

apart : (a b : LabCall) → length a.pin_key ≡ 16 → length b.pin_key ≡ 24 → length a.pvk ≡ 16 → length b.pvk ≡ 24 → KeysApart a b
apart a b p p' v v' = (unequal a.pin_key b.pin_key p p', unequal a.pvk b.pvk v v')

-- the PINs with their natural PINs
abbrev pin_first : List ℕ × List ℕ
pin_first = (3 ∷ 4 ∷ 5 ∷ 6 ∷ 7 ∷ [], 8 ∷ 2 ∷ 9 ∷ 3 ∷ 1 ∷ [])

abbrev pin_alike : List ℕ × List ℕ
pin_alike = (6 ∷ 7 ∷ 5 ∷ 5 ∷ 1 ∷ [], 1 ∷ 5 ∷ 9 ∷ 2 ∷ 5 ∷ [])

abbrev pin_unlike : List ℕ × List ℕ
pin_unlike = (3 ∷ 4 ∷ 5 ∷ 6 ∷ 7 ∷ [], 1 ∷ 5 ∷ 9 ∷ 2 ∷ 5 ∷ [])

-- ---- of BK

first_made : Made runs.first clear34567 cipher_of_16
unfolding packs leading all_of begins value_of codes.code_of is_framed run number trailer key_type hex_key lettered key lmk_field weak_field key_pair keys format_field sealed shape_of validation_field offsetting weak end bk_fields validation_row bk_ask ask_by asking bk_extract extract_by extracting
first_made = under_16 (runs.first).command sealed_a6 clear34567 refl opens_A6 refl

alike_made : Made runs.alike clear67551 cipher_of_24
unfolding packs leading all_of begins value_of codes.code_of is_framed run number trailer key_type hex_key lettered key lmk_field weak_field key_pair keys format_field sealed shape_of validation_field offsetting weak end bk_fields validation_row bk_ask ask_by asking bk_extract extract_by extracting
alike_made = under_24 (runs.alike).command sealed_ec clear67551 refl opens_EC refl

unlike_made : Made runs.unlike clear34567 cipher_of_24
unfolding packs leading all_of begins value_of codes.code_of is_framed run number trailer key_type hex_key lettered key lmk_field weak_field key_pair keys format_field sealed shape_of validation_field offsetting weak end bk_fields validation_row bk_ask ask_by asking bk_extract extract_by extracting
unlike_made = under_24 (runs.unlike).command sealed_6e clear34567 refl opens_6E refl

pub lab_exchange : LabExchange
unfolding nibs xors every leading same all_of begins value_of codes.code_of contents read_row differences pin_with_natural is_framed opening run number trailer key_type hex_key lettered key lmk_field listed weak_field entries is_on key_pair keys format_field sealed shape_of validation_field offsetting weak end slices parities boxed bk_fields bk_finish bk_answer answer_by answered
lab_exchange = (
  answers runs.first clear34567 cipher_of_16 first_made ∙ refl,
  answers runs.alike clear67551 cipher_of_24 alike_made ∙ refl,
  answers runs.unlike clear34567 cipher_of_24 unlike_made ∙ refl,
)

-- the fields of the command
abbrev fields : Bk
fields = record {
  sealed = record { block = 75; format = F01 };
  offsetting = record { check = 4; account = 95; table = 107; validation = 123; shape = Template 11 };
  weak = none_at 135;
  trailer = 135;
}

-- what is to be computed of a run: its frame, its code, its fields, its rows, its PIN and natural PIN
abbrev Computed : LabCall → List ℕ → List ℕ → List ℕ × List ℕ → Type 0
Computed a clear cipher pair =
    (is_framed 4 a.command ≡ true)
    × (code_of (drop 4 a.command) ≡ code.Bk)
    × (bk_fields usually.restricted a.command 6 ≡ read fields 135)
    × (boxed (length a.command) true true clear cipher ≡ done (nibs clear, nibs cipher))
    × (pair_in a.command fields (nibs clear, nibs cipher) ≡ done pair)

reading : (a : LabCall) (clear cipher : List ℕ) (pair : List ℕ × List ℕ) → 65 ≤ a.room → Made a clear cipher → Computed a clear cipher pair → LabReads usually a
reading a clear cipher pair roomy m c = record {
  reaches = record { roomy = roomy; framed = c.0; coded = c.1; fields = fields; past = 135; read = c.2; rows = (nibs clear, nibs cipher); boxed = rw (← m.pin_key_lem, ← m.pvk, ← m.block, ← m.enciphered) c.3 };
  found = pair;
  paired = c.4;
}

meets : (a b : LabCall) (clear clear' cipher cipher' : List ℕ) (pair pair' : List ℕ × List ℕ) → 65 ≤ a.room → 65 ≤ b.room → Made a clear cipher → Made b clear' cipher' → Computed a clear cipher pair → Computed b clear' cipher' pair'
    → take 75 a.command ≡ take 75 b.command → drop 91 a.command ≡ drop 91 b.command → length pair.0 ≡ length pair'.0 → covers usually.variable 4 (length pair.0) ≡ done 4 → KeysApart a b → Meets a b
unfolding reading
meets a b clear clear' cipher cipher' pair pair' k k' m m' c c' before behind long covered keys = record {
  here = reading a clear cipher pair k m c;
  there = reading b clear' cipher' pair' k' m' c';
  alike = record { before = before; behind = behind };
  long = long;
  covered = covered;
  keys = keys;
}

agree_met : Meets runs.first runs.alike
unfolding nibs xors every leading same all_of begins value_of codes.code_of contents read_row differences pin_with_natural is_framed opening run number trailer key_type hex_key lettered key lmk_field listed weak_field entries is_on key_pair keys format_field sealed shape_of validation_field offsetting weak end slices parities boxed bk_fields bk_finish bk_answer answer_by answered
agree_met =
    meets runs.first runs.alike clear34567 clear67551 cipher_of_16 cipher_of_24 pin_first pin_alike (le_refl 65) (le_refl 65) first_made alike_made (refl, refl, refl, refl, refl) (refl, refl, refl, refl, refl) refl refl refl refl
    (apart runs.first runs.alike refl refl refl refl)

differ_met : Meets runs.first runs.unlike
unfolding nibs xors every leading same all_of begins value_of codes.code_of contents read_row differences pin_with_natural is_framed opening run number trailer key_type hex_key lettered key lmk_field listed weak_field entries is_on key_pair keys format_field sealed shape_of validation_field offsetting weak end slices parities boxed bk_fields bk_finish bk_answer answer_by answered
differ_met =
    meets runs.first runs.unlike clear34567 clear34567 cipher_of_16 cipher_of_24 pin_first pin_unlike (le_refl 65) (le_refl 65) first_made unlike_made (refl, refl, refl, refl, refl) (refl, refl, refl, refl, refl) refl refl refl refl
    (apart runs.first runs.unlike refl refl refl refl)

pub agree_under_other_keys : AgreeUnderOtherKeys
agree_under_other_keys = (agree_met, lab_exchange.0 ∙ sym lab_exchange.1)

-- the ninth byte: 2 and 9
pub differ_under_other_keys : DifferUnderOtherKeys
differ_under_other_keys = (differ_met, λ e. let x : ◌≡◌ {A = ℕ} 0x32 0x39 = ap (λ (said : Said ℕ). get_or said.written 8 0) (sym lab_exchange.0 ∙ e ∙ lab_exchange.2) in omega arith)

-- ---- of DA and EA

-- the fields of the command
abbrev verified : Verification
verified = record {
  sealed = record { block = 74; format = F01 };
  offsetting = record { check = 4; account = 94; table = 106; validation = 122; shape = Template 11 };
  offset = 134;
  digits = 4;
  trailer = 146;
}

-- what is to be computed of a run: the same, the digits that are covered and those that are presented, and its number
module _ (w : Verifying) where
  abbrev Verified : LabCall → List ℕ → List ℕ → List ℕ × List ℕ → ℕ → Type 0
  Verified a clear cipher pair number =
      (is_framed 4 a.command ≡ true)
      × (code_of (drop 4 a.command) ≡ code_for w)
      × (verify_fields (key_for w) a.command 6 ≡ read verified 146)
      × (boxed (length a.command) true true clear cipher ≡ done (nibs clear, nibs cipher))
      × (compared_in a.command verified (nibs clear, nibs cipher) ≡ done pair)
      × (covers usually.variable 4 (length pair.0) ≡ done 4)
      × (digit_end (shown_in a.command verified) ≡ 4)
      × ((answered usually true true a.command clear cipher a.room).number ≡ number)

  reaching : (a : LabCall) (clear cipher : List ℕ) (pair : List ℕ × List ℕ) (number : ℕ) → 65 ≤ a.room → Made a clear cipher → Verified a clear cipher pair number → LabReachesVerdict w usually a
  reaching a clear cipher pair number roomy m c = record {
    finds = record {
      reaches = record { roomy = roomy; framed = c.0; coded = c.1; fields = verified; past = 146; read = c.2; rows = (nibs clear, nibs cipher); boxed = rw (← m.pin_key_lem, ← m.pvk, ← m.block, ← m.enciphered) c.3 };
      found = pair;
      paired = c.4;
    };
    m = 4;
    covered = c.5;
    digits = c.6;
  }

  compared : (a b : LabCall) (clear clear' cipher cipher' : List ℕ) (pair pair' : List ℕ × List ℕ) (number number' : ℕ) → 65 ≤ a.room → 65 ≤ b.room → Made a clear cipher → Made b clear' cipher'
      → Verified a clear cipher pair number → Verified b clear' cipher' pair' number' → take 74 a.command ≡ take 74 b.command → drop 90 a.command ≡ drop 90 b.command → KeysApart a b → Compared w a b number number'
  unfolding reaching
  compared a b clear clear' cipher cipher' pair pair' number number' k k' m m' c c' before behind keys = record {
    here = reaching a clear cipher pair number k m c;
    there = reaching b clear' cipher' pair' number' k' m' c';
    alike = record { before = before; behind = behind };
    keys = keys;
    number = ap (λ (x : Said ℕ). x.number) (answers a clear cipher m) ∙ c.7;
    number' = ap (λ (x : Said ℕ). x.number) (answers b clear' cipher' m') ∙ c'.7;
  }

first_verified_lem : (w : Verifying) → Made (runs.first_verified w) clear34567 cipher_of_16
unfolding packs every leading all_of begins value_of codes.code_of is_framed run number trailer hex_key lettered key lmk_field key_pair format_field sealed shape_of validation_field offsetting offset_field end front verify_fields validation_row verify_ask ask_by asking verify_extract extract_by extracting
first_verified_lem terminal = under_16 (runs.first_verified terminal).command sealed_a6 clear34567 refl opens_A6 refl
first_verified_lem zone = under_16 (runs.first_verified zone).command sealed_a6 clear34567 refl opens_A6 refl

alike_verified_lem : (w : Verifying) → Made (runs.alike_verified w) clear67551 cipher_of_24
unfolding packs every leading all_of begins value_of codes.code_of is_framed run number trailer hex_key lettered key lmk_field key_pair format_field sealed shape_of validation_field offsetting offset_field end front verify_fields validation_row verify_ask ask_by asking verify_extract extract_by extracting
alike_verified_lem terminal = under_24 (runs.alike_verified terminal).command sealed_ec clear67551 refl opens_EC refl
alike_verified_lem zone = under_24 (runs.alike_verified zone).command sealed_ec clear67551 refl opens_EC refl

unlike_verified_lem : (w : Verifying) → Made (runs.unlike_verified w) clear34567 cipher_of_24
unfolding packs every leading all_of begins value_of codes.code_of is_framed run number trailer hex_key lettered key lmk_field key_pair format_field sealed shape_of validation_field offsetting offset_field end front verify_fields validation_row verify_ask ask_by asking verify_extract extract_by extracting
unlike_verified_lem terminal = under_24 (runs.unlike_verified terminal).command sealed_6e clear34567 refl opens_6E refl
unlike_verified_lem zone = under_24 (runs.unlike_verified zone).command sealed_6e clear34567 refl opens_6E refl

pub verdicts_under_other_keys : VerdictsUnderOtherKeys
unfolding nibs xors every leading same all_of begins value_of codes.code_of contents read_row differences pin_with_natural is_framed opening run number trailer hex_key lettered key lmk_field key_pair format_field sealed shape_of validation_field offsetting offset_field end slices parities boxed front verify_fields verify_finish verify_answer answer_by answered
verdicts_under_other_keys terminal = (
  compared terminal (runs.first_verified terminal) (runs.alike_verified terminal) clear34567 clear67551 cipher_of_16 cipher_of_24 pin_first pin_alike 0 0 (le_refl 65) (le_refl 65) (first_verified_lem terminal) (alike_verified_lem terminal) (refl, refl, refl, refl, refl, refl, refl, refl) (refl, refl, refl, refl, refl, refl, refl, refl) refl refl (apart (runs.first_verified terminal) (runs.alike_verified terminal) refl refl refl refl),
  compared terminal (runs.first_verified terminal) (runs.unlike_verified terminal) clear34567 clear34567 cipher_of_16 cipher_of_24 pin_first pin_unlike 0 1 (le_refl 65) (le_refl 65) (first_verified_lem terminal) (unlike_verified_lem terminal) (refl, refl, refl, refl, refl, refl, refl, refl) (refl, refl, refl, refl, refl, refl, refl, refl) refl refl (apart (runs.first_verified terminal) (runs.unlike_verified terminal) refl refl refl refl),
)
verdicts_under_other_keys zone = (
  compared zone (runs.first_verified zone) (runs.alike_verified zone) clear34567 clear67551 cipher_of_16 cipher_of_24 pin_first pin_alike 0 0 (le_refl 65) (le_refl 65) (first_verified_lem zone) (alike_verified_lem zone) (refl, refl, refl, refl, refl, refl, refl, refl) (refl, refl, refl, refl, refl, refl, refl, refl) refl refl (apart (runs.first_verified zone) (runs.alike_verified zone) refl refl refl refl),
  compared zone (runs.first_verified zone) (runs.unlike_verified zone) clear34567 clear34567 cipher_of_16 cipher_of_24 pin_first pin_unlike 0 1 (le_refl 65) (le_refl 65) (first_verified_lem zone) (unlike_verified_lem zone) (refl, refl, refl, refl, refl, refl, refl, refl) (refl, refl, refl, refl, refl, refl, refl, refl) refl refl (apart (runs.first_verified zone) (runs.unlike_verified zone) refl refl refl refl),
)
