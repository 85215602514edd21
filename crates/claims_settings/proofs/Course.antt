-- The ATM history course, computed.
-- Assumes nothing.
use mathlib.Core.Path.{refl}
use Rattle.nibbles.specs.Nibbles.{nibs, packs, xors, every, leading, same}
use Rattle.alphabet.specs.Alphabet.{all_of, begins, value_of}
use Rattle.codes.specs.Codes.{code_of}
use Rattle.pairs.specs.Pairs.{pair_of}
use Rattle.blocks.specs.Blocks.{contents, read_row, write_row}
use Rattle.translation.specs.Translation.{translate_block}
use Rattle.validation.specs.Validation.{shape_of, validation_row}
use Rattle.ibm3624.specs.Ibm3624.{differences}
use Rattle.offsets.specs.Offsets.{pin_with_natural}
use Rattle.frame.specs.Frame.{is_framed, opening}
use Rattle.fields.specs.Fields.{run, number, trailer}
use Rattle.lmk.specs.Lmk.{lmk_field}
use Rattle.keys.specs.Keys.{key_type, hex_key, lettered, key}
use Rattle.weak.specs.Weak.{entries, is_on}
use Rattle.weakfield.specs.WeakField.{weak_field}
use Rattle.keybox.specs.KeyBox.{slices, parities, boxed}
use Rattle.formatfield.specs.FormatField.{format_field}
use Rattle.validationfield.specs.ValidationField.{validation_field}
use Rattle.keyfields.specs.KeyFields.{key_pair, keys}
use Rattle.sealed.specs.Sealed.{sealed}
use Rattle.offsetting.specs.Offsetting.{offsetting}
use Rattle.weaklist.specs.WeakList.{weak}
use Rattle.endings.specs.Endings.{end}
use Rattle.bkfields.specs.BkFields.{bk_fields}
use Rattle.bkfinish.specs.BkFinish.{bk_finish}
use Rattle.bk.specs.Bk.{bk_ask, bk_answer}
use Rattle.commands.specs.Commands.{ask_by, answer_by, asking, answered, replying}
use Rattle.claims_settings.specs.Course.{HistoryCourse}

pub history_course : HistoryCourse
unfolding nibs packs xors every leading same all_of begins value_of code_of pair_of contents read_row write_row translate_block is_framed opening run number trailer lmk_field key_type hex_key
    lettered key weak_field entries is_on key_pair keys format_field sealed shape_of validation_field validation_row offsetting weak end slices parities boxed bk_fields pin_with_natural differences bk_finish bk_ask
    bk_answer ask_by answer_by asking answered replying
history_course = (((refl, refl), (refl, refl, refl)), ((refl, refl), (refl, refl, refl)), ((refl, refl), (refl, refl, refl)))
