-- One answer to every promise of the crates of commands: key box, responses, frame, fields, LMK ids, uses, key blocks and their lengths, keys,
-- weak lists, formats, validation data, presented offsets, the stages, endings, PIN with natural PIN, BK, DA and EA, the calls,
-- and the lab's answering call above them.
-- Each line is over the contract of the function of its name, as the checker reads it for a caller. No line needs what a function
-- requires: outside it a contract promises nothing.
use Rattle.keybox.proofs as KeyBox
use Rattle.keybox.specs.contracts as KeyBoxSays
use Rattle.responses.proofs as Responses
use Rattle.responses.specs.contracts as ResponsesSays
use Rattle.frame.proofs as Frame
use Rattle.frame.specs.contracts as FrameSays
use Rattle.fields.proofs as Fields
use Rattle.fields.specs.contracts as FieldsSays
use Rattle.lmk.proofs as Lmk
use Rattle.lmk.specs.contracts as LmkSays
use Rattle.uses.proofs as Uses
use Rattle.uses.specs.contracts as UsesSays
use Rattle.keylengths.proofs as KeyLengths
use Rattle.keylengths.specs.contracts as KeyLengthsSays
use Rattle.keyblocks.proofs as KeyBlocks
use Rattle.keyblocks.specs.contracts as KeyBlocksSays
use Rattle.keys.proofs as Keys
use Rattle.keys.specs.contracts as KeysSays
use Rattle.weak.proofs as Weak
use Rattle.weak.specs.contracts as WeakSays
use Rattle.weakfield.proofs as WeakField
use Rattle.weakfield.specs.contracts as WeakFieldSays
use Rattle.formatfield.proofs as FormatField
use Rattle.formatfield.specs.contracts as FormatFieldSays
use Rattle.validationfield.proofs as ValidationField
use Rattle.validationfield.specs.contracts as ValidationFieldSays
use Rattle.offsetfield.proofs as OffsetField
use Rattle.offsetfield.specs.contracts as OffsetFieldSays
use Rattle.keyfields.proofs as KeyFields
use Rattle.keyfields.specs.contracts as KeyFieldsSays
use Rattle.sealed.proofs as Sealed
use Rattle.sealed.specs.contracts as SealedSays
use Rattle.offsetting.proofs as Offsetting
use Rattle.offsetting.specs.contracts as OffsettingSays
use Rattle.weaklist.proofs as WeakList
use Rattle.weaklist.specs.contracts as WeakListSays
use Rattle.endings.proofs as Endings
use Rattle.endings.specs.contracts as EndingsSays
use Rattle.pairing.proofs as Pairing
use Rattle.pairing.specs.contracts as PairingSays
use Rattle.bkfields.proofs as BkFields
use Rattle.bkfields.specs.contracts as BkFieldsSays
use Rattle.bkfinish.proofs as BkFinish
use Rattle.bkfinish.specs.contracts as BkFinishSays
use Rattle.bk.proofs as Bk
use Rattle.bk.specs.contracts as BkSays
use Rattle.verifyfields.proofs as VerifyFields
use Rattle.verifyfields.specs.contracts as VerifyFieldsSays
use Rattle.verifyfinish.proofs as VerifyFinish
use Rattle.verifyfinish.specs.contracts as VerifyFinishSays
use Rattle.verify.proofs as Verify
use Rattle.verify.specs.contracts as VerifySays
use Rattle.commands.proofs as Commands
use Rattle.commands.specs.contracts as CommandsSays
use Rattle.lab.proofs as Lab
use Rattle.lab.specs.contracts as LabSays
use Rattle.claims_functions.specs.Once.{Settled}

-- every public function of keybox
pub record KeyBoxSettled : Type 0 where
  pub key_box : Settled KeyBoxSays.key_box.ended KeyBox.key_box.Reads.Learnt

-- every public function of responses
pub record ResponsesSettled : Type 0 where
  pub Told-refused : Settled ResponsesSays.Told.refused.ended Responses.Told.refused.Reads.Learnt
  pub Told-done : Settled ResponsesSays.Told.done.ended Responses.Told.done.Reads.Learnt
  pub ask : Settled ResponsesSays.ask.ended Responses.ask.Reads.Learnt
  pub respond : Settled ResponsesSays.respond.ended Responses.respond.Reads.Learnt

-- every public function of frame
pub record FrameSettled : Type 0 where
  pub Code-at : Settled FrameSays.Code.at.ended Frame.Code.at.Reads.Learnt
  pub is_framed : Settled FrameSays.is_framed.ended Frame.is_framed.Reads.Learnt
  pub put_run : Settled FrameSays.put_run.ended Frame.put_run.Reads.Learnt
  pub put_code : Settled FrameSays.put_code.ended Frame.put_code.Reads.Learnt
  pub «open» : Settled FrameSays.«open».ended Frame.«open».Reads.Learnt

-- every public function of fields
pub record FieldsSettled : Type 0 where
  pub Fault-pointer : Settled FieldsSays.Fault.pointer.ended Fields.Fault.pointer.Reads.Learnt
  pub fault_at : Settled FieldsSays.fault_at.ended Fields.fault_at.Reads.Learnt
  pub FaultFromRefusal-from : Settled FieldsSays.FaultFromRefusal.from.ended Fields.FaultFromRefusal.from.Reads.Learnt
  pub two_digits : Settled FieldsSays.two_digits.ended Fields.two_digits.Reads.Learnt
  pub Cursor-run : Settled FieldsSays.Cursor.run.ended Fields.Cursor.run.Reads.Learnt
  pub Cursor-number : Settled FieldsSays.Cursor.number.ended Fields.Cursor.number.Reads.Learnt
  pub Cursor-mark : Settled FieldsSays.Cursor.mark.ended Fields.Cursor.mark.Reads.Learnt
  pub Cursor-trailer : Settled FieldsSays.Cursor.trailer.ended Fields.Cursor.trailer.Reads.Learnt

-- every public function of lmk
pub record LmkSettled : Type 0 where
  pub agree : Settled LmkSays.agree.ended Lmk.agree.Reads.Learnt
  pub lmk_field : Settled LmkSays.lmk_field.ended Lmk.lmk_field.Reads.Learnt

-- every public function of uses
pub record UsesSettled : Type 0 where
  pub Use-permits : Settled UsesSays.Use.permits.ended Uses.Use.permits.Reads.Learnt

-- every public function of keylengths
pub record KeyLengthsSettled : Type 0 where
  pub block_length : Settled KeyLengthsSays.block_length.ended KeyLengths.block_length.Reads.Learnt

-- every public function of keyblocks
pub record KeyBlocksSettled : Type 0 where
  pub key_block : Settled KeyBlocksSays.key_block.ended KeyBlocks.key_block.Reads.Learnt

-- every public function of keys
pub record KeysSettled : Type 0 where
  pub key_type : Settled KeysSays.key_type.ended Keys.key_type.Reads.Learnt
  pub key_field : Settled KeysSays.key_field.ended Keys.key_field.Reads.Learnt

-- every public function of weak
pub record WeakSettled : Type 0 where
  pub is_weak : Settled WeakSays.is_weak.ended Weak.is_weak.Reads.Learnt

-- every public function of weakfield
pub record WeakFieldSettled : Type 0 where
  pub weak_field : Settled WeakFieldSays.weak_field.ended WeakField.weak_field.Reads.Learnt

-- every public function of formatfield
pub record FormatFieldSettled : Type 0 where
  pub format_field : Settled FormatFieldSays.format_field.ended FormatField.format_field.Reads.Learnt

-- every public function of validationfield
pub record ValidationFieldSettled : Type 0 where
  pub validation_field : Settled ValidationFieldSays.validation_field.ended ValidationField.validation_field.Reads.Learnt

-- every public function of offsetfield
pub record OffsetFieldSettled : Type 0 where
  pub offset_field : Settled OffsetFieldSays.offset_field.ended OffsetField.offset_field.Reads.Learnt

-- every public function of keyfields
pub record KeyFieldsSettled : Type 0 where
  pub read_pair : Settled KeyFieldsSays.read_pair.ended KeyFields.read_pair.Reads.Learnt
  pub read_keys : Settled KeyFieldsSays.read_keys.ended KeyFields.read_keys.Reads.Learnt

-- every public function of sealed
pub record SealedSettled : Type 0 where
  pub read_sealed : Settled SealedSays.read_sealed.ended Sealed.read_sealed.Reads.Learnt

-- every public function of offsetting
pub record OffsettingSettled : Type 0 where
  pub read_offsetting : Settled OffsettingSays.read_offsetting.ended Offsetting.read_offsetting.Reads.Learnt

-- every public function of weaklist
pub record WeakListSettled : Type 0 where
  pub read_weak : Settled WeakListSays.read_weak.ended WeakList.read_weak.Reads.Learnt

-- every public function of endings
pub record EndingsSettled : Type 0 where
  pub read_end : Settled EndingsSays.read_end.ended Endings.read_end.Reads.Learnt

-- every public function of pairing
pub record PairingSettled : Type 0 where
  pub asked : Settled PairingSays.asked.ended Pairing.asked.Reads.Learnt
  pub block_row : Settled PairingSays.block_row.ended Pairing.block_row.Reads.Learnt
  pub pair : Settled PairingSays.pair.ended Pairing.pair.Reads.Learnt

-- every public function of bkfields
pub record BkFieldsSettled : Type 0 where
  pub read : Settled BkFieldsSays.read.ended BkFields.read.Reads.Learnt

-- every public function of bkfinish
pub record BkFinishSettled : Type 0 where
  pub finish : Settled BkFinishSays.finish.ended BkFinish.finish.Reads.Learnt

-- every public function of bk
pub record BkSettled : Type 0 where
  pub ask : Settled BkSays.ask.ended Bk.ask.Reads.Learnt
  pub extract : Settled BkSays.extract.ended Bk.extract.Reads.Learnt
  pub answer : Settled BkSays.answer.ended Bk.answer.Reads.Learnt

-- every public function of verifyfields
pub record VerifyFieldsSettled : Type 0 where
  pub read : Settled VerifyFieldsSays.read.ended VerifyFields.read.Reads.Learnt

-- every public function of verifyfinish
pub record VerifyFinishSettled : Type 0 where
  pub finish : Settled VerifyFinishSays.finish.ended VerifyFinish.finish.Reads.Learnt

-- every public function of verify
pub record VerifySettled : Type 0 where
  pub ask : Settled VerifySays.ask.ended Verify.ask.Reads.Learnt
  pub extract : Settled VerifySays.extract.ended Verify.extract.Reads.Learnt
  pub answer : Settled VerifySays.answer.ended Verify.answer.Reads.Learnt

-- every public function of commands
pub record CommandsSettled : Type 0 where
  pub ask : Settled CommandsSays.ask.ended Commands.ask.Reads.Learnt
  pub pin_block : Settled CommandsSays.pin_block.ended Commands.pin_block.Reads.Learnt
  pub answer : Settled CommandsSays.answer.ended Commands.answer.Reads.Learnt

-- every public function of lab
pub record LabSettled : Type 0 where
  pub answer : Settled LabSays.answer.ended Lab.answer.Reads.Learnt
