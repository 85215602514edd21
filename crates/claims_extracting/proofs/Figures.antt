-- The PIN blocks of printed commands, computed.
-- Assumes nothing.
use Prim.Native.Nat.{ℕ, ◌≤◌}
use mathlib.Core.Path.{◌≡◌, refl, ◌∙◌}
use mathlib.Core.List.{List}
use mathlib.Core.Bool.{true, false}
use borrow.Author.Tests.{le-leb}
use Rattle.nibbles.specs.Nibbles.{packs, leading}
use Rattle.alphabet.specs.Alphabet.{all_of, begins, value_of}
use Rattle.settings.specs.Settings.{usually, restricted_to}
use Rattle.settings.specs.declared.Settings.{Settings}
use Rattle.codes.specs.Codes.{code_of}
use Rattle.validation.specs.Validation.{shape_of}
use Rattle.frame.specs.Frame.{is_framed}
use Rattle.fields.specs.Fields.{run, number, trailer}
use Rattle.lmk.specs.Lmk.{lmk_field}
use Rattle.keys.specs.Keys.{key_type, hex_key, lettered, key}
use Rattle.weakfield.specs.WeakField.{weak_field}
use Rattle.formatfield.specs.FormatField.{format_field}
use Rattle.validationfield.specs.ValidationField.{validation_field}
use Rattle.keyfields.specs.KeyFields.{key_pair, keys}
use Rattle.sealed.specs.Sealed.{sealed}
use Rattle.offsetting.specs.Offsetting.{offsetting}
use Rattle.weaklist.specs.WeakList.{weak}
use Rattle.endings.specs.Endings.{end}
use Rattle.bkfields.specs.BkFields.{bk_fields}
use Rattle.bk.specs.Bk.{bk_extract}
use Rattle.commands.specs.Commands.{extract_by, extracting, extracted}
use Rattle.texts.specs.Characters.{printed}
use Rattle.claims_blocks.specs.Figures.{usual_account}
use Rattle.claims_commands.specs.Cores.{command_of}
use Rattle.claims_commands.specs.Runs.{zone}
use Rattle.claims_exactly.specs.Typed.{full}
use Rattle.claims_exactly.specs.VerifyTyped.{ea_parts, narrowly}
use Rattle.claims_exactly.proofs.Typed.{full_is_bk, header_is}
use Rattle.claims_exactly.proofs.VerifyTyped.{ea_is_verify}
use Rattle.claims_extracting.specs.Figures.{PapersBlock, FullBlock, EaBlock}
use Rattle.claims_extracting.proofs.Extracting.{bk_written, verify_written}

-- more room than enough changes nothing
extract_room : (settings : Settings) (s : List ℕ) (room : ℕ) → 16 ≤ room → extracted settings s room ≡ extracted settings s 16
unfolding extracting
extract_room settings s room h = rw (le-leb 16 room h)

pub papers_block : PapersBlock
unfolding packs leading all_of begins value_of code_of is_framed run number trailer key_type hex_key lettered key lmk_field weak_field key_pair keys format_field sealed shape_of validation_field offsetting weak end bk_fields
    bk_extract extract_by extracting
papers_block true room h = extract_room (restricted_to usually true) (command_of usual_account) room h ∙ refl
papers_block false room h = extract_room (restricted_to usually false) (command_of usual_account) room h ∙ refl

pub full_block : FullBlock
unfolding packs value_of
full_block restricted room roomy = bk_written (restricted_to usually restricted) room (printed "HDR1") full roomy header_is (full_is_bk.0 restricted)

pub ea_block : EaBlock
unfolding packs value_of
ea_block room roomy = verify_written zone narrowly room (printed "HDR1") ea_parts roomy header_is ea_is_verify.0
