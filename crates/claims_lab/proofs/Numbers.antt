-- Every number that the product answers is one of the table's.
-- Assumes nothing.
use Rattle.parity.specs.Parity.{odd_parity}
use Rattle.lab.specs.Lab.{clear_block, validation_cipher, lab_answered}
use Rattle.claims_commands.proofs.Numbers.{answer_numbers_lem}
use Rattle.claims_lab.specs.Numbers.{LabNumbers}

pub lab_numbers : LabNumbers
unfolding lab_answered
lab_numbers settings s pin_key pvk room = answer_numbers_lem settings (odd_parity pin_key) (odd_parity pvk) s (clear_block settings s pin_key) (validation_cipher settings s pvk) room
