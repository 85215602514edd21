-- What the two calls say to DA and EA, computed.
-- Assumes nothing.
use mathlib.Core.Path.{refl}
use Rattle.nibbles.specs.Nibbles.{nibs, packs, xors, every, leading, same}
use Rattle.alphabet.specs.Alphabet.{all_of, begins, value_of}
use Rattle.codes.specs.Codes.{code_of}
use Rattle.blocks.specs.Blocks.{contents, read_row}
use Rattle.validation.specs.Validation.{shape_of, validation_row}
use Rattle.ibm3624.specs.Ibm3624.{differences}
use Rattle.offsets.specs.Offsets.{pin_with_natural}
use Rattle.frame.specs.Frame.{is_framed, opening}
use Rattle.fields.specs.Fields.{run, number, trailer}
use Rattle.lmk.specs.Lmk.{lmk_field}
use Rattle.uses.specs.Uses.{begins_one, is_one, permits}
use Rattle.keylengths.specs.KeyLengths.{block_length}
use Rattle.keyblocks.specs.KeyBlocks.{key_block}
use Rattle.keys.specs.Keys.{hex_key, lettered, key}
use Rattle.keybox.specs.KeyBox.{slices, parities, boxed}
use Rattle.formatfield.specs.FormatField.{format_field}
use Rattle.validationfield.specs.ValidationField.{validation_field}
use Rattle.keyfields.specs.KeyFields.{key_pair}
use Rattle.sealed.specs.Sealed.{sealed}
use Rattle.offsetting.specs.Offsetting.{offsetting}
use Rattle.offsetfield.specs.OffsetField.{offset_field}
use Rattle.endings.specs.Endings.{end}
use Rattle.verifyfields.specs.VerifyFields.{front, verify_fields}
use Rattle.verifyfinish.specs.VerifyFinish.{verify_finish}
use Rattle.verify.specs.Verify.{verify_ask, verify_answer}
use Rattle.commands.specs.Commands.{ask_by, answer_by, asking, answered}
use Rattle.claims_refusals.specs.Verifying.{VerifyCommands}

pub verify_commands : VerifyCommands
unfolding nibs packs xors every leading same all_of begins value_of code_of is_framed opening run number trailer lmk_field begins_one is_one permits block_length key_block hex_key lettered key key_pair format_field
    sealed shape_of validation_field validation_row offsetting offset_field end slices parities boxed front verify_fields contents read_row pin_with_natural differences verify_finish verify_ask verify_answer ask_by
    answer_by asking answered
verify_commands = (
  refl,
  refl,
  refl,
  refl,
  refl,
  refl,
  refl,
  refl,
  refl,
  refl,
  refl,
  refl,
  refl,
  refl,
  refl,
  refl,
  refl,
  refl,
  refl,
  refl,
  refl,
  refl,
  refl,
  refl,
  refl,
  refl,
  refl,
  refl,
  refl,
  refl,
  refl,
  refl,
  refl,
  refl,
  refl,
  refl,
  refl,
  refl,
  refl,
  refl,
  refl,
  refl,
  refl,
  refl,
  refl,
  refl,
  refl,
  refl,
  refl,
  refl,
  refl,
  refl,
  refl,
  refl,
  refl,
  refl,
  refl,
  refl,
  refl,
  refl,
  refl,
  refl,
  refl,
  refl,
  refl,
  refl,
  refl,
  refl,
  refl,
  refl,
)
