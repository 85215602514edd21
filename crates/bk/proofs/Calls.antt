-- What the calls come to, answer by answer.
-- Assumes nothing.
use Prim.Native.Nat.{ℕ}
use mathlib.Core.Path.{◌≡◌, ap}
use mathlib.Core.List.{List}
use mathlib.Core.Bool.{Bool}
use Rattle.std.specs.Prelude.{Ok, Err}
use lib.ListN.{length}
use Rattle.numbers.specs.Numbers.{done, refused}
use Rattle.numbers.proofs.Laws.{result_ok, result_err}
use Rattle.numbers.specs.declared.Refusal.{Refusal}
use Rattle.settings.specs.declared.Settings.{Settings}
use Rattle.pins.specs.Answers.{pin_of, reading_of}
use Rattle.pins.specs.declared.Pin.{Pin}
use Rattle.keybox.specs.KeyBox.{boxed}
use Rattle.keybox.specs.Answers.{words_of, box_read}
use Rattle.keybox.specs.declared.Boxed.{Boxed}
use Rattle.fields.specs.Fields.{unpointed}
use Rattle.fields.specs.declared.Fault.{Fault}
use Rattle.responses.specs.Answers.{answered_of}
use Rattle.responses.specs.declared.Payload.TheVariants.{Offset}
use Rattle.sealed.specs.Sealed.{block_in}
use Rattle.pairing.specs.Pairing.{asked_at}
use Rattle.pairing.specs.Answers.{box_rows}
use Rattle.bkfields.proofs.Reading.{fields_found, fields_bad}
use Rattle.bkfields.specs.BkFields.{bk_fields}
use Rattle.bk.specs.Bk.{bk_ask, bk_extract, bk_answer}
use Rattle.bkfinish.specs.BkFinish.{bk_finish}
use Rattle.bkfields.specs.Answers.{bk_read}
use Rattle.bkfields.specs.declared.Bk.{Bk}

-- ---- the asking call

module _ (settings : Settings) (s : List ℕ) (at : ℕ) where
  -- a field is at fault
  pub ask_faulty : (f : Fault) → Err f ≡ bk_read (bk_fields settings.restricted s at) → bk_ask settings s at ≡ refused f
  unfolding bk_ask
  ask_faulty f e = rw (fields_bad (bk_fields settings.restricted s at) f e)

  -- behind the fields, the block that is asked for
  pub ask_read : (p : Bk) → Ok p ≡ bk_read (bk_fields settings.restricted s at) → bk_ask settings s at ≡ unpointed (asked_at s p.offsetting)
  unfolding bk_ask
  ask_read p e = rw (fields_found (bk_fields settings.restricted s at) p e).1

  -- ---- the PIN block's call

  pub extract_faulty : (f : Fault) → Err f ≡ bk_read (bk_fields settings.restricted s at) → bk_extract settings s at ≡ refused f
  unfolding bk_extract
  extract_faulty f e = rw (fields_bad (bk_fields settings.restricted s at) f e)

  pub extract_read : (p : Bk) → Ok p ≡ bk_read (bk_fields settings.restricted s at) → bk_extract settings s at ≡ done (block_in s p.sealed)
  unfolding bk_extract
  extract_read p e = rw (fields_found (bk_fields settings.restricted s at) p e).1

-- ---- the answering call

module _ (settings : Settings) (g h : Bool) (s : List ℕ) (at : ℕ) (block enciphered : List ℕ) where
  -- a field is at fault
  pub answer_faulty : (f : Fault) → Err f ≡ bk_read (bk_fields settings.restricted s at) → bk_answer settings g h s at block enciphered ≡ refused f
  unfolding bk_answer
  answer_faulty f e = rw (fields_bad (bk_fields settings.restricted s at) f e)

  module _ (p : Bk) (got : Ok p ≡ bk_read (bk_fields settings.restricted s at)) where
    -- the key box's answers are
    pub answer_unboxed : (f : Fault) → Err f ≡ box_read (boxed (length s) g h block enciphered) → bk_answer settings g h s at block enciphered ≡ refused f
    unfolding bk_answer
    answer_unboxed f e = rw ((fields_found (bk_fields settings.restricted s at) p got).1, result_err words_of (boxed (length s) g h block enciphered) f e)

    module _ (b : Boxed) (found : boxed (length s) g h block enciphered ≡ done (box_rows b)) where
      -- there is no offset
      pub answer_unfinished :
          (q : Refusal) → Err q ≡ reading_of (bk_finish settings.variable s p (box_rows b))
          → bk_answer settings g h s at block enciphered ≡ refused (record { refusal = q; field = 0; place = 0 })
      unfolding bk_answer
      answer_unfinished q e =
          rw (
            (fields_found (bk_fields settings.restricted s at) p got).1,
            found,
            result_err pin_of (bk_finish settings.variable s p (box_rows b)) q e,
          )

      -- there is one
      pub answer_made :
          (ds : Pin) → Ok ds ≡ reading_of (bk_finish settings.variable s p (box_rows b))
          → Ok (Offset ds, p.trailer) ≡ answered_of (bk_answer settings g h s at block enciphered)
      unfolding bk_answer
      answer_made ds e =
          let o = result_ok pin_of (bk_finish settings.variable s p (box_rows b)) ds e in
          rw ((fields_found (bk_fields settings.restricted s at) p got).1, found, o.1)
          (ap (λ (x : Pin). Ok (Offset x, p.trailer)) o.2)
