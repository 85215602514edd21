-- One answer to every promise of the crates of commands: each function cites the law of its shape.
-- Assumes nothing.
use Rattle.claims_functions.specs.Commands.{KeyBoxSettled, ResponsesSettled, FrameSettled, FieldsSettled, LmkSettled, UsesSettled, KeyLengthsSettled, KeyBlocksSettled, KeysSettled, WeakSettled, WeakFieldSettled, FormatFieldSettled, ValidationFieldSettled, OffsetFieldSettled, KeyFieldsSettled, SealedSettled, OffsettingSettled, WeakListSettled, EndingsSettled, PairingSettled, BkFieldsSettled, BkFinishSettled, BkSettled, VerifyFieldsSettled, VerifyFinishSettled, VerifySettled, CommandsSettled, LabSettled}
use Rattle.claims_functions.proofs.Once.{settled, left, told, told_refused}

pub key_box_once : KeyBoxSettled
key_box_once = record {
  key_box = λ κs a r r' ends ends' p q. settled p.0 q.0;
}

pub responses_once : ResponsesSettled
responses_once = record {
  Told-refused = λ κs a r r' ends ends'. told_refused;
  Told-done = λ κs a r r' ends ends'. told_refused;
  ask = λ κs a r r' ends ends'. told 1;
  respond = λ κs a r r' ends ends'. told 3;
}

pub frame_once : FrameSettled
frame_once = record {
  Code-at = λ κs a r r' ends ends'. settled;
  is_framed = λ κs a r r' ends ends'. settled;
  put_run = λ κs a r r' ends ends'. left 1;
  put_code = λ κs a r r' ends ends'. left 3;
  «open» = λ κs a r r' ends ends'. left 3;
}

pub fields_once : FieldsSettled
fields_once = record {
  Fault-pointer = λ κs a r r' ends ends'. settled;
  fault_at = λ κs a r r' ends ends'. settled;
  FaultFromRefusal-from = λ κs a r r' ends ends'. settled;
  two_digits = λ κs a r r' ends ends'. settled;
  Cursor-run = λ κs a r r' ends ends'. settled;
  Cursor-number = λ κs a r r' ends ends'. settled;
  Cursor-mark = λ κs a r r' ends ends'. settled;
  Cursor-trailer = λ κs a r r' ends ends'. settled;
}

pub lmk_once : LmkSettled
lmk_once = record {
  agree = λ κs a r r' ends ends'. settled;
  lmk_field = λ κs a r r' ends ends'. settled;
}

pub uses_once : UsesSettled
uses_once = record { Use-permits = λ κs a r r' ends ends'. settled }

pub key_lengths_once : KeyLengthsSettled
key_lengths_once = record { block_length = λ κs a r r' ends ends'. settled }

pub key_blocks_once : KeyBlocksSettled
key_blocks_once = record { key_block = λ κs a r r' ends ends'. settled }

pub keys_once : KeysSettled
keys_once = record {
  key_type = λ κs a r r' ends ends'. settled;
  key_field = λ κs a r r' ends ends'. settled;
}

pub weak_once : WeakSettled
weak_once = record {
  is_weak = λ κs a r r' ends ends'. settled;
}

pub weak_field_once : WeakFieldSettled
weak_field_once = record {
  weak_field = λ κs a r r' ends ends'. settled;
}

pub format_field_once : FormatFieldSettled
format_field_once = record {
  format_field = λ κs a r r' ends ends'. settled;
}

pub validation_field_once : ValidationFieldSettled
validation_field_once = record { validation_field = λ κs a r r' ends ends'. settled }

pub offset_field_once : OffsetFieldSettled
offset_field_once = record { offset_field = λ κs a r r' ends ends'. settled }

pub key_fields_once : KeyFieldsSettled
key_fields_once = record {
  read_pair = λ κs a r r' ends ends'. settled;
  read_keys = λ κs a r r' ends ends'. settled;
}

pub sealed_once : SealedSettled
sealed_once = record {
  read_sealed = λ κs a r r' ends ends'. settled;
}

pub offsetting_once : OffsettingSettled
offsetting_once = record {
  read_offsetting = λ κs a r r' ends ends'. settled;
}

pub weak_list_once : WeakListSettled
weak_list_once = record {
  read_weak = λ κs a r r' ends ends'. settled;
}

pub endings_once : EndingsSettled
endings_once = record {
  read_end = λ κs a r r' ends ends'. settled;
}

pub pairing_once : PairingSettled
pairing_once = record {
  asked = λ κs a r r' ends ends'. settled;
  block_row = λ κs a r r' ends ends'. settled;
  pair = λ κs a r r' ends ends'. settled;
}

pub bk_fields_once : BkFieldsSettled
bk_fields_once = record {
  read = λ κs a r r' ends ends'. settled;
}

pub bk_finish_once : BkFinishSettled
bk_finish_once = record { finish = λ κs a r r' ends ends'. settled }

pub bk_once : BkSettled
bk_once = record {
  ask = λ κs a r r' ends ends'. settled;
  extract = λ κs a r r' ends ends'. settled;
  answer = λ κs a r r' ends ends'. settled;
}

pub verify_fields_once : VerifyFieldsSettled
verify_fields_once = record {
  read = λ κs a r r' ends ends'. settled;
}

pub verify_finish_once : VerifyFinishSettled
verify_finish_once = record { finish = λ κs a r r' ends ends'. settled }

pub verify_once : VerifySettled
verify_once = record {
  ask = λ κs a r r' ends ends'. settled;
  extract = λ κs a r r' ends ends'. settled;
  answer = λ κs a r r' ends ends'. settled;
}

pub commands_once : CommandsSettled
commands_once = record {
  ask = λ κs a r r' ends ends'. told 2;
  pin_block = λ κs a r r' ends ends'. told 2;
  answer = λ κs a r r' ends ends'. told 3;
}

pub lab_once : LabSettled
lab_once = record { answer = λ κs a r r' ends ends'. told 4 }
