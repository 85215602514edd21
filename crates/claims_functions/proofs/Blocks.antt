-- One answer to every promise of the crates of PIN blocks: each function cites the law of its shape.
-- Assumes nothing.
use Rattle.claims_functions.specs.Blocks.{RestrictionSettled, PairsSettled, AnswersSettled, BlocksSettled, BlockCallsSettled, TranslationSettled, ValidationSettled, NaturalsSettled, Ibm3624Settled, OffsetTextsSettled, PvvDigitsSettled, PvvInputSettled, PvvSettled, OffsetsSettled, VerdictsSettled}
use Rattle.claims_functions.proofs.Once.{settled, left, answered, verdict}

pub restriction_once : RestrictionSettled
restriction_once = record {
  may = λ κs a r r' ends ends'. settled;
}

pub pairs_once : PairsSettled
pairs_once = record {
  pair = λ κs a r r' ends ends'. settled;
}

pub answers_once : AnswersSettled
answers_once = record {
  answer = λ κs a r r' ends ends'. answered 1;
  answer_digits = λ κs a r r' ends ends'. answered 1;
}

pub blocks_once : BlocksSettled
blocks_once = record {
  read = λ κs a r r' ends ends'. settled;
  write = λ κs a r r' ends ends'. settled;
}

pub blockcalls_once : BlockCallsSettled
blockcalls_once = record {
  read_block = λ κs a r r' ends ends'. answered 3;
  write_block = λ κs a r r' ends ends'. answered 4;
}

pub translation_once : TranslationSettled
translation_once = record {
  translate = λ κs a r r' ends ends'. answered 6;
}

pub validation_once : ValidationSettled
validation_once = record {
  Shape-of = λ κs a r r' ends ends'. settled;
  Shape-width = λ κs a r r' ends ends'. settled;
  Shape-row = λ κs a r r' ends ends'. settled;
  validation_block = λ κs a r r' ends ends'. answered 2;
}

pub naturals_once : NaturalsSettled
naturals_once = record {
  natural = λ κs a r r' ends ends'. settled;
  natural_pin = λ κs a r r' ends ends'. answered 3;
}

pub ibm3624_once : Ibm3624Settled
ibm3624_once = record {
  covering = λ κs a r r' ends ends'. settled;
  offset = λ κs a r r' ends ends'. settled;
  put_differences = λ κs a r r' ends ends'. left 4;
}

pub offset_texts_once : OffsetTextsSettled
offset_texts_once = record {
  put_offset = λ κs a r r' ends ends'. left 2;
  presented = λ κs a r r' ends ends'. settled;
}

pub pvvdigits_once : PvvDigitsSettled
pvvdigits_once = record {
  digits_of = λ κs a r r' ends ends'. settled;
  compared = λ κs a r r' ends ends'. settled;
}

pub pvvinput_once : PvvInputSettled
pvvinput_once = record {
  key_index = λ κs a r r' ends ends'. settled;
  input_row = λ κs a r r' ends ends'. settled;
}

pub pvv_once : PvvSettled
pvv_once = record {
  pvv_input = λ κs a r r' ends ends'. answered 4;
  pvv = λ κs a r r' ends ends'. answered 1;
  pvv_verdict = λ κs a r r' ends ends'. verdict;
}

pub offsets_once : OffsetsSettled
offsets_once = record {
  taken = λ κs a r r' ends ends' p q. settled p.0 q.0;
  with_natural = λ κs a r r' ends ends'. settled;
  paired = λ κs a r r' ends ends'. settled;
  offset_for = λ κs a r r' ends ends'. settled;
  answer = λ κs a r r' ends ends'. answered 1;
  offset = λ κs a r r' ends ends'. answered 2;
  offset_of_digits = λ κs a r r' ends ends'. answered 4;
  differences = λ κs a r r' ends ends'. answered 4;
}

pub verdicts_once : VerdictsSettled
verdicts_once = record {
  verdict_on = λ κs a r r' ends ends'. settled;
  offset_verdict = λ κs a r r' ends ends'. verdict;
}
