-- What a class meets that has other keys than the terminal: computed.
-- Assumes nothing.
use mathlib.Core.Path.{refl}
use Rattle.nibbles.specs.Nibbles.{nibs, packs, xors, every, leading, same}
use Rattle.alphabet.specs.Alphabet.{all_of, begins, value_of}
use Rattle.codes.specs.Codes as codes
use Rattle.blocks.specs.Blocks.{contents, read_row}
use Rattle.ibm3624.specs.Ibm3624.{differences}
use Rattle.offsets.specs.Offsets.{pin_with_natural}
use Rattle.frame.specs.Frame.{is_framed, opening}
use Rattle.fields.specs.Fields.{run, number, trailer}
use Rattle.lmk.specs.Lmk.{lmk_field}
use Rattle.keys.specs.Keys.{key_type, hex_key, lettered, key}
use Rattle.weak.specs.Weak.{entries, is_on}
use Rattle.weakfield.specs.WeakField.{listed, weak_field}
use Rattle.keybox.specs.KeyBox.{slices, parities, boxed}
use Rattle.validation.specs.Validation.{shape_of, validation_row}
use Rattle.formatfield.specs.FormatField.{format_field}
use Rattle.validationfield.specs.ValidationField.{validation_field}
use Rattle.keyfields.specs.KeyFields.{key_pair, keys}
use Rattle.sealed.specs.Sealed.{sealed}
use Rattle.offsetting.specs.Offsetting.{offsetting}
use Rattle.weaklist.specs.WeakList.{weak}
use Rattle.endings.specs.Endings.{end}
use Rattle.bkfields.specs.BkFields.{bk_fields}
use Rattle.bkfinish.specs.BkFinish.{bk_finish}
use Rattle.bk.specs.Bk.{bk_ask, bk_extract, bk_answer}
use Rattle.commands.specs.Commands.{ask_by, asking, extract_by, extracting, answer_by, answered}
use Rattle.bits.specs.Select.{select}
use Rattle.words.specs.Words.{spelled, in_bytes}
use Rattle.fips46.specs.Fips46.{IP, IP⁻¹, iterations, E, S1, S2, S3, S4, S5, S6, S7, S8, boxes, S, P, f, PC1, PC2, shifts, scheduled, KS, computed}
use Rattle.parity.specs.Parity.{ones, is_odd, odd_parity}
use Rattle.lab.specs.Lab.{lab_answered}
use Rattle.claims_lab.specs.Refusals.{LabRefusals}

pub lab_refusals : LabRefusals
unfolding nibs xors every leading same all_of begins value_of codes.code_of contents read_row differences pin_with_natural is_framed opening run number trailer key_type hex_key lettered key lmk_field listed weak_field entries is_on key_pair keys format_field sealed shape_of validation_field offsetting weak end slices parities boxed bk_fields bk_finish bk_answer answer_by answered packs validation_row bk_ask ask_by asking bk_extract extract_by extracting ones is_odd odd_parity select spelled in_bytes IP IP⁻¹ iterations E S1 S2 S3 S4 S5 S6 S7 S8 boxes S P f PC1 PC2 shifts scheduled KS computed lab_answered
lab_refusals = refl
