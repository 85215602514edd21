-- One answer to every promise of the ground: each function cites the law of its shape.
-- Assumes nothing.
use Rattle.claims_functions.specs.Ground.{NibblesSettled, AlphabetSettled, SpellingSettled, NumbersSettled, SettingsSettled, FormatsSettled, CodesSettled, PinsSettled, ClassroomSettled}
use Rattle.claims_functions.proofs.Once.{settled, left, replied, verdict}

pub nibbles_once : NibblesSettled
nibbles_once = record {
  nibble = λ κs a r r' ends ends'. settled;
  part = λ κs a r r' ends ends'. settled;
  join = λ κs a r r' ends ends'. settled;
  row_of = λ κs a r r' ends ends'. settled;
  put_bytes = λ κs a r r' ends ends'. left 1;
  put_nibbles = λ κs a r r' ends ends'. left 2;
  run_end = λ κs a r r' ends ends'. settled;
}

pub alphabet_once : AlphabetSettled
alphabet_once = record {
  Class-admits = λ κs a r r' ends ends'. settled;
  all_of = λ κs a r r' ends ends'. settled;
  ahead = λ κs a r r' ends ends'. settled;
  has_at = λ κs a r r' ends ends'. settled;
  value = λ κs a r r' ends ends'. settled;
  digit = λ κs a r r' ends ends'. settled;
}

pub spelling_once : SpellingSettled
spelling_once = record {
  values = λ κs a r r' ends ends'. settled;
  digits = λ κs a r r' ends ends'. settled;
  class_end = λ κs a r r' ends ends'. settled;
  put_characters = λ κs a r r' ends ends'. left 2;
}

pub numbers_once : NumbersSettled
numbers_once = record {
  Reply-refused = λ κs a r r' ends ends'. replied;
  Reply-done = λ κs a r r' ends ends'. replied;
  Reply-verdict = λ κs a r r' ends ends'. verdict;
  Refusal-number = λ κs a r r' ends ends'. settled;
}

pub settings_once : SettingsSettled
settings_once = record {
  Settings-usual = λ κs a r r' ends ends'. settled;
  Settings-with_header = λ κs a r r' ends ends'. settled;
  Settings-with_restricted = λ κs a r r' ends ends'. settled;
  Settings-with_variable = λ κs a r r' ends ends'. settled;
}

pub formats_once : FormatsSettled
formats_once = record {
  Format-lead = λ κs a r r' ends ends'. settled;
  Format-fill = λ κs a r r' ends ends'. settled;
  Format-veiled = λ κs a r r' ends ends'. settled;
  Format-is_01_or_47 = λ κs a r r' ends ends'. settled;
  Lead-width = λ κs a r r' ends ends'. settled;
  Fill-least = λ κs a r r' ends ends'. settled;
  Fill-filled = λ κs a r r' ends ends'. settled;
}

pub codes_once : CodesSettled
codes_once = record {
  CodeFromU32-from = λ κs a r r' ends ends'. settled;
  Code-is_known = λ κs a r r' ends ends'. settled;
  chosen = λ κs a r r' ends ends'. settled;
  block_width = λ κs a r r' ends ends'. settled;
}

pub pins_once : PinsSettled
pins_once = record {
  sized_row = λ κs a r r' ends ends'. settled;
  account = λ κs a r r' ends ends'. settled;
  field = λ κs a r r' ends ends'. settled;
  pin_length = λ κs a r r' ends ends'. settled;
  handed = λ κs a r r' ends ends'. settled;
  packed = λ κs a r r' ends ends'. settled;
}

pub classroom_once : ClassroomSettled
classroom_once = record {
  hex = λ κs a r r' ends ends'. settled;
}
