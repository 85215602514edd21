-- One answer to every promise of the C face: settings and replies that cross it, and the twenty-three calls that are exported.
-- Each line is over the contract of the function of its name, as the checker reads it for a caller.
use Rattle.face.proofs as Crossing
use Rattle.face.specs.contracts as CrossingSays
use Rattle.quillgimlet.proofs as Face
use Rattle.quillgimlet.specs.contracts as FaceSays
use Rattle.claims_functions.specs.Once.{Settled}

-- every public function of face
pub record FaceSettled : Type 0 where
  pub SettingsFromFaceSettings-from : Settled CrossingSays.SettingsFromFaceSettings.from.ended Crossing.SettingsFromFaceSettings.from.Reads.Learnt
  pub FaceSettingsFromSettings-from : Settled CrossingSays.FaceSettingsFromSettings.from.ended Crossing.FaceSettingsFromSettings.from.Reads.Learnt
  pub wide : Settled CrossingSays.wide.ended Crossing.wide.Reads.Learnt
  pub FaceReplyFromReply-from : Settled CrossingSays.FaceReplyFromReply.from.ended Crossing.FaceReplyFromReply.from.Reads.Learnt

-- every call of quillgimlet
pub record QuillgimletSettled : Type 0 where
  pub qg_usual : Settled FaceSays.qg_usual.ended Face.qg_usual.Reads.Learnt
  pub qg_ask : Settled FaceSays.qg_ask.ended Face.qg_ask.Reads.Learnt
  pub qg_pin_block : Settled FaceSays.qg_pin_block.ended Face.qg_pin_block.Reads.Learnt
  pub qg_answer : Settled FaceSays.qg_answer.ended Face.qg_answer.Reads.Learnt
  pub qg_read_block : Settled FaceSays.qg_read_block.ended Face.qg_read_block.Reads.Learnt
  pub qg_write_block : Settled FaceSays.qg_write_block.ended Face.qg_write_block.Reads.Learnt
  pub qg_translate : Settled FaceSays.qg_translate.ended Face.qg_translate.Reads.Learnt
  pub qg_validation_block : Settled FaceSays.qg_validation_block.ended Face.qg_validation_block.Reads.Learnt
  pub qg_natural_pin : Settled FaceSays.qg_natural_pin.ended Face.qg_natural_pin.Reads.Learnt
  pub qg_offset : Settled FaceSays.qg_offset.ended Face.qg_offset.Reads.Learnt
  pub qg_offset_of_digits : Settled FaceSays.qg_offset_of_digits.ended Face.qg_offset_of_digits.Reads.Learnt
  pub qg_differences : Settled FaceSays.qg_differences.ended Face.qg_differences.Reads.Learnt
  pub qg_offset_verdict : Settled FaceSays.qg_offset_verdict.ended Face.qg_offset_verdict.Reads.Learnt
  pub qg_pvv_input : Settled FaceSays.qg_pvv_input.ended Face.qg_pvv_input.Reads.Learnt
  pub qg_pvv : Settled FaceSays.qg_pvv.ended Face.qg_pvv.Reads.Learnt
  pub qg_pvv_verdict : Settled FaceSays.qg_pvv_verdict.ended Face.qg_pvv_verdict.Reads.Learnt
  pub qg_des_encipher : Settled FaceSays.qg_des_encipher.ended Face.qg_des_encipher.Reads.Learnt
  pub qg_des_decipher : Settled FaceSays.qg_des_decipher.ended Face.qg_des_decipher.Reads.Learnt
  pub qg_tdes_encipher : Settled FaceSays.qg_tdes_encipher.ended Face.qg_tdes_encipher.Reads.Learnt
  pub qg_tdes_decipher : Settled FaceSays.qg_tdes_decipher.ended Face.qg_tdes_decipher.Reads.Learnt
  pub qg_key_check : Settled FaceSays.qg_key_check.ended Face.qg_key_check.Reads.Learnt
  pub qg_odd_parity : Settled FaceSays.qg_odd_parity.ended Face.qg_odd_parity.Reads.Learnt
  pub qg_lab_answer : Settled FaceSays.qg_lab_answer.ended Face.qg_lab_answer.Reads.Learnt
