-- One answer to every promise of the C face: each call cites the law of its shape.
-- Assumes nothing.
use Rattle.claims_functions.specs.Face.{FaceSettled, QuillgimletSettled}
use Rattle.claims_functions.proofs.Once.{settled, faces, widely, wide_verdict}

pub face_once : FaceSettled
face_once = record {
  SettingsFromFaceSettings-from = λ κs a r r' ends ends'. settled;
  FaceSettingsFromSettings-from = λ κs a r r' ends ends'. settled;
  wide = λ κs a r r' ends ends'. faces;
  FaceReplyFromReply-from = λ κs a r r' ends ends'. faces;
}

pub quillgimlet_once : QuillgimletSettled
quillgimlet_once = record {
  qg_usual = λ κs a r r' ends ends'. settled;
  qg_ask = λ κs a r r' ends ends'. widely 2;
  qg_pin_block = λ κs a r r' ends ends'. widely 2;
  qg_answer = λ κs a r r' ends ends'. widely 6;
  qg_read_block = λ κs a r r' ends ends'. widely 3;
  qg_write_block = λ κs a r r' ends ends'. widely 4;
  qg_translate = λ κs a r r' ends ends'. widely 6;
  qg_validation_block = λ κs a r r' ends ends'. widely 2;
  qg_natural_pin = λ κs a r r' ends ends'. widely 3;
  qg_offset = λ κs a r r' ends ends'. widely 7;
  qg_offset_of_digits = λ κs a r r' ends ends'. widely 4;
  qg_differences = λ κs a r r' ends ends'. widely 4;
  qg_offset_verdict = λ κs a r r' ends ends'. wide_verdict;
  qg_pvv_input = λ κs a r r' ends ends'. widely 4;
  qg_pvv = λ κs a r r' ends ends'. widely 1;
  qg_pvv_verdict = λ κs a r r' ends ends'. wide_verdict;
  qg_des_encipher = λ κs a r r' ends ends'. widely 2;
  qg_des_decipher = λ κs a r r' ends ends'. widely 2;
  qg_tdes_encipher = λ κs a r r' ends ends'. widely 2;
  qg_tdes_decipher = λ κs a r r' ends ends'. widely 2;
  qg_key_check = λ κs a r r' ends ends'. widely 1;
  qg_odd_parity = λ κs a r r' ends ends'. settled;
  qg_lab_answer = λ κs a r r' ends ends'. widely 4;
}
