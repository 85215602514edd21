-- What the server is shown of the commands of two tables, computed.
-- Assumes nothing.
use mathlib.Core.Path.{refl}
use Rattle.nibbles.specs.Nibbles.{nibs, packs, xors, every, leading, same}
use Rattle.alphabet.specs.Alphabet.{all_of, begins, value_of}
use Rattle.codes.specs.Codes.{code_of}
use Rattle.blocks.specs.Blocks.{contents, read_row}
use Rattle.validation.specs.Validation.{shape_of, validation_row}
use Rattle.ibm3624.specs.Ibm3624.{differences}
use Rattle.offsets.specs.Offsets.{pin_with_natural}
use Rattle.frame.specs.Frame.{is_framed, opening}
use Rattle.fields.specs.Fields.{run, number, trailer}
use Rattle.lmk.specs.Lmk.{lmk_field}
use Rattle.uses.specs.Uses.{begins_one, is_one, permits}
use Rattle.keylengths.specs.KeyLengths.{block_length}
use Rattle.keyblocks.specs.KeyBlocks.{key_block}
use Rattle.keys.specs.Keys.{key_type, hex_key, lettered, key}
use Rattle.weak.specs.Weak.{entries, is_on}
use Rattle.weakfield.specs.WeakField.{listed, weak_field}
use Rattle.keybox.specs.KeyBox.{slices, parities, boxed}
use Rattle.formatfield.specs.FormatField.{format_field}
use Rattle.validationfield.specs.ValidationField.{validation_field}
use Rattle.keyfields.specs.KeyFields.{key_pair, keys}
use Rattle.sealed.specs.Sealed.{sealed}
use Rattle.offsetting.specs.Offsetting.{offsetting}
use Rattle.weaklist.specs.WeakList.{weak}
use Rattle.endings.specs.Endings.{end}
use Rattle.bkfields.specs.BkFields.{bk_fields}
use Rattle.bkfinish.specs.BkFinish.{bk_finish}
use Rattle.bk.specs.Bk.{bk_ask, bk_answer}
use Rattle.offsetfield.specs.OffsetField.{offset_field}
use Rattle.verifyfields.specs.VerifyFields.{front, verify_fields}
use Rattle.verifyfinish.specs.VerifyFinish.{verify_finish}
use Rattle.verify.specs.Verify.{verify_ask, verify_answer}
use Rattle.commands.specs.Commands.{ask_by, answer_by, asking, answered, replying}
use Rattle.claims_pointed.specs.Rows.{PointedBk, PointedVerifications, PointedCommands}

pub pointed_bk : PointedBk
unfolding nibs packs xors every leading same all_of begins value_of code_of is_framed opening run number trailer lmk_field begins_one is_one permits block_length key_block key_type hex_key lettered key listed
    weak_field entries is_on key_pair keys format_field sealed shape_of validation_field validation_row offsetting weak end slices parities boxed bk_fields contents read_row pin_with_natural differences bk_finish
    bk_ask bk_answer ask_by answer_by asking answered replying
pointed_bk = (
  refl,
  refl,
  refl,
  refl,
  refl,
  refl,
  refl,
  refl,
  refl,
  refl,
  refl,
  refl,
  refl,
  refl,
  refl,
  refl,
  refl,
  refl,
  refl,
  refl,
  refl,
  refl,
  refl,
  refl,
  refl,
  refl,
  refl,
  refl,
  refl,
  refl,
  refl,
  refl,
  refl,
  refl,
  refl,
  refl,
  refl,
  refl,
  refl,
  refl,
  refl,
  refl,
  refl,
  refl,
  refl,
  refl,
  refl,
  refl,
  refl,
  refl,
  refl,
  refl,
  refl,
  refl,
  refl,
  refl,
  refl,
  refl,
  refl,
  refl,
  refl,
  refl,
  refl,
  refl,
  refl,
  refl,
  refl,
  refl,
  refl,
)

pub pointed_verifications : PointedVerifications
unfolding nibs packs xors every leading same all_of begins value_of code_of is_framed opening run number trailer lmk_field begins_one is_one permits block_length key_block hex_key lettered key key_pair
    format_field sealed shape_of validation_field validation_row offsetting offset_field end slices parities boxed front verify_fields contents read_row pin_with_natural differences verify_finish verify_ask
    verify_answer ask_by answer_by asking answered replying
pointed_verifications = (
  refl,
  refl,
  refl,
  refl,
  refl,
  refl,
  refl,
  refl,
  refl,
  refl,
  refl,
  refl,
  refl,
  refl,
  refl,
  refl,
  refl,
  refl,
  refl,
  refl,
  refl,
  refl,
  refl,
  refl,
  refl,
  refl,
  refl,
  refl,
  refl,
  refl,
  refl,
  refl,
  refl,
  refl,
)

pub pointed_commands : PointedCommands
pointed_commands = (pointed_bk, pointed_verifications)
