-- One answer to every promise of the crates of PIN blocks: reading and writing, translation, validation data, offsets and PVVs.
-- Each line is over the contract of the function of its name, as the checker reads it for a caller. No line needs what a function
-- requires: outside it a contract promises nothing.
use Rattle.restriction.proofs as Restriction
use Rattle.restriction.specs.contracts as RestrictionSays
use Rattle.pairs.proofs as Pairs
use Rattle.pairs.specs.contracts as PairsSays
use Rattle.answers.proofs as Answers
use Rattle.answers.specs.contracts as AnswersSays
use Rattle.blocks.proofs as Blocks
use Rattle.blocks.specs.contracts as BlocksSays
use Rattle.blockcalls.proofs as BlockCalls
use Rattle.blockcalls.specs.contracts as BlockCallsSays
use Rattle.translation.proofs as Translation
use Rattle.translation.specs.contracts as TranslationSays
use Rattle.validation.proofs as Validation
use Rattle.validation.specs.contracts as ValidationSays
use Rattle.naturals.proofs as Naturals
use Rattle.naturals.specs.contracts as NaturalsSays
use Rattle.ibm3624.proofs as Ibm3624
use Rattle.ibm3624.specs.contracts as Ibm3624Says
use Rattle.offsettexts.proofs as OffsetTexts
use Rattle.offsettexts.specs.contracts as OffsetTextsSays
use Rattle.pvvdigits.proofs as PvvDigits
use Rattle.pvvdigits.specs.contracts as PvvDigitsSays
use Rattle.pvvinput.proofs as PvvInput
use Rattle.pvvinput.specs.contracts as PvvInputSays
use Rattle.pvv.proofs as Pvv
use Rattle.pvv.specs.contracts as PvvSays
use Rattle.offsets.proofs as Offsets
use Rattle.offsets.specs.contracts as OffsetsSays
use Rattle.verdicts.proofs as Verdicts
use Rattle.verdicts.specs.contracts as VerdictsSays
use Rattle.claims_functions.specs.Once.{Settled}

-- every public function of restriction
pub record RestrictionSettled : Type 0 where
  pub may : Settled RestrictionSays.may.ended Restriction.may.Reads.Learnt

-- every public function of pairs
pub record PairsSettled : Type 0 where
  pub pair : Settled PairsSays.pair.ended Pairs.pair.Reads.Learnt

-- every public function of answers
pub record AnswersSettled : Type 0 where
  pub answer : Settled AnswersSays.answer.ended Answers.answer.Reads.Learnt
  pub answer_digits : Settled AnswersSays.answer_digits.ended Answers.answer_digits.Reads.Learnt

-- every public function of blocks
pub record BlocksSettled : Type 0 where
  pub read : Settled BlocksSays.read.ended Blocks.read.Reads.Learnt
  pub write : Settled BlocksSays.write.ended Blocks.write.Reads.Learnt

-- every public function of blockcalls
pub record BlockCallsSettled : Type 0 where
  pub read_block : Settled BlockCallsSays.read_block.ended BlockCalls.read_block.Reads.Learnt
  pub write_block : Settled BlockCallsSays.write_block.ended BlockCalls.write_block.Reads.Learnt

-- every public function of translation
pub record TranslationSettled : Type 0 where
  pub translate : Settled TranslationSays.translate.ended Translation.translate.Reads.Learnt

-- every public function of validation
pub record ValidationSettled : Type 0 where
  pub Shape-of : Settled ValidationSays.Shape.of.ended Validation.Shape.of.Reads.Learnt
  pub Shape-width : Settled ValidationSays.Shape.width.ended Validation.Shape.width.Reads.Learnt
  pub Shape-row : Settled ValidationSays.Shape.row.ended Validation.Shape.row.Reads.Learnt
  pub validation_block : Settled ValidationSays.validation_block.ended Validation.validation_block.Reads.Learnt

-- every public function of naturals
pub record NaturalsSettled : Type 0 where
  pub natural : Settled NaturalsSays.natural.ended Naturals.natural.Reads.Learnt
  pub natural_pin : Settled NaturalsSays.natural_pin.ended Naturals.natural_pin.Reads.Learnt

-- every public function of ibm3624
pub record Ibm3624Settled : Type 0 where
  pub covering : Settled Ibm3624Says.covering.ended Ibm3624.covering.Reads.Learnt
  pub offset : Settled Ibm3624Says.offset.ended Ibm3624.offset.Reads.Learnt
  pub put_differences : Settled Ibm3624Says.put_differences.ended Ibm3624.put_differences.Reads.Learnt

-- every public function of offsettexts
pub record OffsetTextsSettled : Type 0 where
  pub put_offset : Settled OffsetTextsSays.put_offset.ended OffsetTexts.put_offset.Reads.Learnt
  pub presented : Settled OffsetTextsSays.presented.ended OffsetTexts.presented.Reads.Learnt

-- every public function of pvvdigits
pub record PvvDigitsSettled : Type 0 where
  pub digits_of : Settled PvvDigitsSays.digits_of.ended PvvDigits.digits_of.Reads.Learnt
  pub compared : Settled PvvDigitsSays.compared.ended PvvDigits.compared.Reads.Learnt

-- every public function of pvvinput
pub record PvvInputSettled : Type 0 where
  pub key_index : Settled PvvInputSays.key_index.ended PvvInput.key_index.Reads.Learnt
  pub input_row : Settled PvvInputSays.input_row.ended PvvInput.input_row.Reads.Learnt

-- every public function of pvv
pub record PvvSettled : Type 0 where
  pub pvv_input : Settled PvvSays.pvv_input.ended Pvv.pvv_input.Reads.Learnt
  pub pvv : Settled PvvSays.pvv.ended Pvv.pvv.Reads.Learnt
  pub pvv_verdict : Settled PvvSays.pvv_verdict.ended Pvv.pvv_verdict.Reads.Learnt

-- every public function of offsets
pub record OffsetsSettled : Type 0 where
  pub taken : Settled OffsetsSays.taken.ended Offsets.taken.Reads.Learnt
  pub with_natural : Settled OffsetsSays.with_natural.ended Offsets.with_natural.Reads.Learnt
  pub paired : Settled OffsetsSays.paired.ended Offsets.paired.Reads.Learnt
  pub offset_for : Settled OffsetsSays.offset_for.ended Offsets.offset_for.Reads.Learnt
  pub answer : Settled OffsetsSays.answer.ended Offsets.answer.Reads.Learnt
  pub offset : Settled OffsetsSays.offset.ended Offsets.offset.Reads.Learnt
  pub offset_of_digits : Settled OffsetsSays.offset_of_digits.ended Offsets.offset_of_digits.Reads.Learnt
  pub differences : Settled OffsetsSays.differences.ended Offsets.differences.Reads.Learnt

-- every public function of verdicts
pub record VerdictsSettled : Type 0 where
  pub verdict_on : Settled VerdictsSays.verdict_on.ended Verdicts.verdict_on.Reads.Learnt
  pub offset_verdict : Settled VerdictsSays.offset_verdict.ended Verdicts.offset_verdict.Reads.Learnt
