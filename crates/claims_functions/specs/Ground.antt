-- One answer to every promise of the ground: nibbles, characters, numbers, settings, formats, PINs and accounts, and text.
-- Each line is over the contract of the function of its name, as the checker reads it for a caller. No line needs what a function
-- requires: outside it a contract promises nothing.
use Rattle.nibbles.proofs as Nibbles
use Rattle.nibbles.specs.contracts as NibblesSays
use Rattle.alphabet.proofs as Alphabet
use Rattle.alphabet.specs.contracts as AlphabetSays
use Rattle.spelling.proofs as Spelling
use Rattle.spelling.specs.contracts as SpellingSays
use Rattle.numbers.proofs as Numbers
use Rattle.numbers.specs.contracts as NumbersSays
use Rattle.settings.proofs as Settings
use Rattle.settings.specs.contracts as SettingsSays
use Rattle.formats.proofs as Formats
use Rattle.formats.specs.contracts as FormatsSays
use Rattle.codes.proofs as Codes
use Rattle.codes.specs.contracts as CodesSays
use Rattle.pins.proofs as Pins
use Rattle.pins.specs.contracts as PinsSays
use Rattle.classroom.proofs as Classroom
use Rattle.classroom.specs.contracts as ClassroomSays
use Rattle.claims_functions.specs.Once.{Settled}

-- every public function of nibbles
pub record NibblesSettled : Type 0 where
  pub nibble : Settled NibblesSays.nibble.ended Nibbles.nibble.Reads.Learnt
  pub part : Settled NibblesSays.part.ended Nibbles.part.Reads.Learnt
  pub join : Settled NibblesSays.join.ended Nibbles.join.Reads.Learnt
  pub row_of : Settled NibblesSays.row_of.ended Nibbles.row_of.Reads.Learnt
  pub put_bytes : Settled NibblesSays.put_bytes.ended Nibbles.put_bytes.Reads.Learnt
  pub put_nibbles : Settled NibblesSays.put_nibbles.ended Nibbles.put_nibbles.Reads.Learnt
  pub run_end : Settled NibblesSays.run_end.ended Nibbles.run_end.Reads.Learnt

-- every public function of alphabet
pub record AlphabetSettled : Type 0 where
  pub Class-admits : Settled AlphabetSays.Class.admits.ended Alphabet.Class.admits.Reads.Learnt
  pub all_of : Settled AlphabetSays.all_of.ended Alphabet.all_of.Reads.Learnt
  pub ahead : Settled AlphabetSays.ahead.ended Alphabet.ahead.Reads.Learnt
  pub has_at : Settled AlphabetSays.has_at.ended Alphabet.has_at.Reads.Learnt
  pub value : Settled AlphabetSays.value.ended Alphabet.value.Reads.Learnt
  pub digit : Settled AlphabetSays.digit.ended Alphabet.digit.Reads.Learnt

-- every public function of spelling
pub record SpellingSettled : Type 0 where
  pub values : Settled SpellingSays.values.ended Spelling.values.Reads.Learnt
  pub digits : Settled SpellingSays.digits.ended Spelling.digits.Reads.Learnt
  pub class_end : Settled SpellingSays.class_end.ended Spelling.class_end.Reads.Learnt
  pub put_characters : Settled SpellingSays.put_characters.ended Spelling.put_characters.Reads.Learnt

-- every public function of numbers
pub record NumbersSettled : Type 0 where
  pub Reply-refused : Settled NumbersSays.Reply.refused.ended Numbers.Reply.refused.Reads.Learnt
  pub Reply-done : Settled NumbersSays.Reply.done.ended Numbers.Reply.done.Reads.Learnt
  pub Reply-verdict : Settled NumbersSays.Reply.verdict.ended Numbers.Reply.verdict.Reads.Learnt
  pub Refusal-number : Settled NumbersSays.Refusal.number.ended Numbers.Refusal.number.Reads.Learnt

-- every public function of settings
pub record SettingsSettled : Type 0 where
  pub Settings-usual : Settled SettingsSays.Settings.usual.ended Settings.Settings.usual.Reads.Learnt
  pub Settings-with_header : Settled SettingsSays.Settings.with_header.ended Settings.Settings.with_header.Reads.Learnt
  pub Settings-with_restricted : Settled SettingsSays.Settings.with_restricted.ended Settings.Settings.with_restricted.Reads.Learnt
  pub Settings-with_variable : Settled SettingsSays.Settings.with_variable.ended Settings.Settings.with_variable.Reads.Learnt

-- every public function of formats
pub record FormatsSettled : Type 0 where
  pub Format-lead : Settled FormatsSays.Format.lead.ended Formats.Format.lead.Reads.Learnt
  pub Format-fill : Settled FormatsSays.Format.fill.ended Formats.Format.fill.Reads.Learnt
  pub Format-veiled : Settled FormatsSays.Format.veiled.ended Formats.Format.veiled.Reads.Learnt
  pub Format-is_01_or_47 : Settled FormatsSays.Format.is_01_or_47.ended Formats.Format.is_01_or_47.Reads.Learnt
  pub Lead-width : Settled FormatsSays.Lead.width.ended Formats.Lead.width.Reads.Learnt
  pub Fill-least : Settled FormatsSays.Fill.least.ended Formats.Fill.least.Reads.Learnt
  pub Fill-filled : Settled FormatsSays.Fill.filled.ended Formats.Fill.filled.Reads.Learnt

-- every public function of codes
pub record CodesSettled : Type 0 where
  pub CodeFromU32-from : Settled CodesSays.CodeFromU32.from.ended Codes.CodeFromU32.from.Reads.Learnt
  pub Code-is_known : Settled CodesSays.Code.is_known.ended Codes.Code.is_known.Reads.Learnt
  pub chosen : Settled CodesSays.chosen.ended Codes.chosen.Reads.Learnt
  pub block_width : Settled CodesSays.block_width.ended Codes.block_width.Reads.Learnt

-- every public function of pins
pub record PinsSettled : Type 0 where
  pub sized_row : Settled PinsSays.sized_row.ended Pins.sized_row.Reads.Learnt
  pub account : Settled PinsSays.account.ended Pins.account.Reads.Learnt
  pub field : Settled PinsSays.field.ended Pins.field.Reads.Learnt
  pub pin_length : Settled PinsSays.pin_length.ended Pins.pin_length.Reads.Learnt
  pub handed : Settled PinsSays.handed.ended Pins.handed.Reads.Learnt
  pub packed : Settled PinsSays.packed.ended Pins.packed.Reads.Learnt

-- every public function of classroom
pub record ClassroomSettled : Type 0 where
  pub hex : Settled ClassroomSays.hex.ended Classroom.hex.Reads.Learnt
