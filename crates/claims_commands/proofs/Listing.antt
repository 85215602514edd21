-- BK as it lies around its PIN block, listed once: that its fields are read exactly, and that commands alike outside the block are read
-- alike, both come of it. And BK as a command of the one shape.
-- Assumes nothing.
use Prim.Native.Nat.{ℕ}
use native.Mathlib.Omega.{arith}
use mathlib.Core.Path.{◌≡◌, refl}
use mathlib.Core.List.{List}
use mathlib.Core.Bool.{Bool}
use lib.ListN.{length, drop}
use Rattle.numbers.specs.Numbers.{done, and_then}
use Rattle.settings.specs.declared.Settings.{Settings}
use Rattle.frame.specs.declared.Code.TheVariants as code
use Rattle.fields.specs.Fields.{ruled, unpointed}
use Rattle.keybox.specs.KeyBox.{boxed}
use Rattle.responses.specs.Responses.{offset, answering}
use Rattle.pairing.specs.Pairing.{asked_at}
use Rattle.uses.specs.Uses.{pin_key, pvk}
use Rattle.keyfields.specs.declared.Keys.{Keys}
use Rattle.sealed.specs.declared.Sealed.{Sealed}
use Rattle.bkfields.specs.BkFields.{weak_mark, bk_fields}
use Rattle.bkfields.specs.declared.Bk.{Bk}
use Rattle.bkfinish.specs.BkFinish.{bk_finish}
use Rattle.bk.specs.Bk.{bk_ask, bk_answer}
use Rattle.commands.specs.Commands.{ask_by, answer_by}
use Rattle.texts.specs.Exact.{ExactAt}
use Rattle.claims_alike.specs.Alike.{Piece, Layout}
use Rattle.claims_alike.proofs.Pieces.{next, last, keys_piece, sealed_piece, inputs_piece, weak_piece, end_piece, whole}
use Rattle.claims_alike.proofs.Sealed.{sealed_passes}
use Rattle.claims_commands.proofs.Shapes.{Shape}

-- what stands behind the block and its format
abbrev bk_tail : Keys → Sealed → Piece Bk
bk_tail ks block =
    next (inputs_piece 6)
    (λ inputs _. next (weak_piece 10 weak_mark)
    (λ pins _. last (end_piece 11 ks)
    (λ mark. record { sealed = block; offsetting = inputs; weak = pins; trailer = mark })))

abbrev pub bk_layout : Bool → Layout 16 Keys Sealed Bk (List ℕ)
bk_layout restricted = record {
  front = keys_piece 1 pin_key pvk;
  block = sealed_piece 4 restricted;
  tail = bk_tail;
  whatever = λ at p rest rest' g. g;
  start = λ x. x.block;
  passes = sealed_passes 4 restricted;
  place = λ p. p.sealed.block;
  placed = λ ks block at p. refl;
  seen = λ p s. drop p.trailer s;
  looked = λ ks block at p s t from. from (((bk_tail ks block).writing at).value p).trailer (omega arith);
}

pub listed_exact : (restricted : Bool) (s : List ℕ) (at : ℕ) → ExactAt s at (bk_fields restricted s at) ((whole (bk_layout restricted)).writing at)
unfolding bk_fields
listed_exact restricted = (whole (bk_layout restricted)).exact

-- ---- the shape

pub bk_asks : (settings : Settings) (s : List ℕ) (at : ℕ) → ask_by code.Bk settings s at ≡ and_then (ruled (bk_fields settings.restricted s at)) (λ p. unpointed (asked_at s p.offsetting))
unfolding ask_by bk_ask
bk_asks settings s at = refl

pub bk_answers : (settings : Settings) (g h : Bool) (s : List ℕ) (at : ℕ) (block enciphered : List ℕ)
    → answer_by code.Bk settings g h s at block enciphered
    ≡ answering (bk_fields settings.restricted s at) (boxed (length s) g h block enciphered) (λ p rows. and_then (bk_finish settings.variable s p rows) (λ ds. done (offset ds))) (λ p. p.trailer)
unfolding answer_by bk_answer
bk_answers settings g h s at block enciphered = refl

abbrev pub bk_shape : (settings : Settings) → Shape code.Bk settings Bk (List ℕ)
bk_shape settings = record {
  reader = bk_fields settings.restricted;
  asked = λ s p. asked_at s p.offsetting;
  finish = bk_finish settings.variable;
  payload = offset;
  mark = λ p. p.trailer;
  asks = bk_asks settings;
  answers = bk_answers settings;
}
