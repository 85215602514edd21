-- One answer to every promise of the crates of the ciphers: each function cites the law of its shape.
-- Assumes nothing.
use Rattle.claims_functions.specs.Ciphers.{BitsSettled, PermutationsSettled, SBoxesSettled, CipherFunctionSettled, KeyScheduleSettled, DesSettled, TripleDesSettled, WordsSettled, ParitySettled, CiphersSettled, CipherCallsSettled}
use Rattle.claims_functions.proofs.Once.{settled, settled_beside, left, answered}

pub bits_once : BitsSettled
bits_once = record {
  exchange = λ κs a r r' ends ends'. settled;
  look_up = λ κs a r r' ends ends'. settled;
}

pub permutations_once : PermutationsSettled
permutations_once = record {
  initial = λ κs a r r' ends ends'. settled;
  inverse = λ κs a r r' ends ends'. settled;
  choice1 = λ κs a r r' ends ends'. settled;
}

pub s_boxes_once : SBoxesSettled
s_boxes_once = record {
  through = λ κs a r r' ends ends'. settled_beside;
}

pub cipher_function_once : CipherFunctionSettled
cipher_function_once = record {
  f = λ κs a r r' ends ends'. settled;
}

pub key_schedule_once : KeyScheduleSettled
key_schedule_once = record {
  subkeys = λ κs a r r' ends ends'. settled;
}

pub des_once : DesSettled
des_once = record {
  onward = λ κs a r r' ends ends'. settled;
  parted = λ κs a r r' ends ends'. settled;
  interchange = λ κs a r r' ends ends'. settled;
  preoutput = λ κs a r r' ends ends'. settled;
  computed_by = λ κs a r r' ends ends'. settled;
}

pub triple_des_once : TripleDesSettled
triple_des_once = record {
  computed_by = λ κs a r r' ends ends'. settled;
}

pub words_once : WordsSettled
words_once = record {
  word_of = λ κs a r r' ends ends'. settled;
  put_bytes = λ κs a r r' ends ends'. left 2;
}

pub parity_once : ParitySettled
parity_once = record {
  odd_parity = λ κs a r r' ends ends'. settled;
}

pub ciphers_once : CiphersSettled
ciphers_once = record {
  des_word = λ κs a r r' ends ends'. settled;
  is_lab_key = λ κs a r r' ends ends'. settled;
  triple_word = λ κs a r r' ends ends'. settled;
}

pub cipher_calls_once : CipherCallsSettled
cipher_calls_once = record {
  des = λ κs a r r' ends ends'. answered 3;
  triple = λ κs a r r' ends ends'. answered 3;
  key_check = λ κs a r r' ends ends'. answered 1;
}
