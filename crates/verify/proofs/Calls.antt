-- What the calls come to, answer by answer.
-- Assumes nothing.
use Prim.Native.Nat.{ℕ}
use native.Mathlib.Omega.{arith}
use mathlib.Core.Path.{◌≡◌, refl}
use mathlib.Core.List.{List}
use mathlib.Core.Bool.{Bool}
use Rattle.std.specs.Prelude.{Ok, Err}
use lib.ListN.{length}
use Rattle.numbers.specs.Numbers.{Outcome, done, refused}
use Rattle.numbers.proofs.Laws.{result_ok, result_err}
use Rattle.numbers.specs.declared.Refusal.{Refusal}
use Rattle.numbers.specs.Answers.{verdict_of}
use Rattle.keybox.specs.KeyBox.{boxed}
use Rattle.keybox.specs.Answers.{words_of, box_read}
use Rattle.keybox.specs.declared.Boxed.{Boxed}
use Rattle.fields.specs.Fields.{unpointed}
use Rattle.fields.specs.declared.Fault.{Fault}
use Rattle.responses.specs.Answers.{answered_of}
use Rattle.responses.specs.declared.Payload.TheVariants.{Nothing}
use Rattle.uses.specs.declared.Use.{Use}
use Rattle.sealed.specs.Sealed.{block_in}
use Rattle.pairing.specs.Pairing.{asked_at}
use Rattle.pairing.specs.Answers.{box_rows}
use Rattle.verifyfields.specs.VerifyFields.{verify_fields}
use Rattle.verifyfields.specs.Answers.{verification_read}
use Rattle.verifyfields.specs.declared.Verification.{Verification}
use Rattle.verifyfields.proofs.Reading.{fields_found, fields_bad}
use Rattle.verifyfinish.specs.VerifyFinish.{verify_finish}
use Rattle.verify.specs.Verify.{verify_ask, verify_extract, verify_answer}

-- ---- the verdict's answer

verdict_good : (o : Outcome (List ℕ)) (u : Unit {0}) → Ok u ≡ verdict_of o → (ws : List ℕ) × (o ≡ done ws)
verdict_good (done ws) u e = (ws, refl)
verdict_good (refused q) u e = absurd (let z : ◌≡◌ {A = ℕ} 0 1 = cc in omega arith)

verdict_bad : (o : Outcome (List ℕ)) (q : Refusal) → Err q ≡ verdict_of o → o ≡ refused q
verdict_bad (done ws) q e = absurd (let z : ◌≡◌ {A = ℕ} 0 1 = cc in omega arith)
verdict_bad (refused p) q e = cc

-- ---- the asking call

module _ (pin_key : Use) (s : List ℕ) (at : ℕ) where
  -- a field is at fault
  pub ask_faulty : (f : Fault) → Err f ≡ verification_read (verify_fields pin_key s at) → verify_ask pin_key s at ≡ refused f
  unfolding verify_ask
  ask_faulty f e = rw (fields_bad (verify_fields pin_key s at) f e)

  -- behind the fields, the block that is asked for
  pub ask_read : (v : Verification) → Ok v ≡ verification_read (verify_fields pin_key s at) → verify_ask pin_key s at ≡ unpointed (asked_at s v.offsetting)
  unfolding verify_ask
  ask_read v e = rw (fields_found (verify_fields pin_key s at) v e).1

  -- ---- the PIN block's call

  pub extract_faulty : (f : Fault) → Err f ≡ verification_read (verify_fields pin_key s at) → verify_extract pin_key s at ≡ refused f
  unfolding verify_extract
  extract_faulty f e = rw (fields_bad (verify_fields pin_key s at) f e)

  pub extract_read : (v : Verification) → Ok v ≡ verification_read (verify_fields pin_key s at) → verify_extract pin_key s at ≡ done (block_in s v.sealed)
  unfolding verify_extract
  extract_read v e = rw (fields_found (verify_fields pin_key s at) v e).1

-- ---- the answering call

module _ (pin_key : Use) (variable g h : Bool) (s : List ℕ) (at : ℕ) (block enciphered : List ℕ) where
  -- a field is at fault
  pub answer_faulty : (f : Fault) → Err f ≡ verification_read (verify_fields pin_key s at) → verify_answer pin_key variable g h s at block enciphered ≡ refused f
  unfolding verify_answer
  answer_faulty f e = rw (fields_bad (verify_fields pin_key s at) f e)

  module _ (v : Verification) (got : Ok v ≡ verification_read (verify_fields pin_key s at)) where
    -- the key box's answers are
    pub answer_unboxed : (f : Fault) → Err f ≡ box_read (boxed (length s) g h block enciphered) → verify_answer pin_key variable g h s at block enciphered ≡ refused f
    unfolding verify_answer
    answer_unboxed f e = rw ((fields_found (verify_fields pin_key s at) v got).1, result_err words_of (boxed (length s) g h block enciphered) f e)

    module _ (b : Boxed) (found : boxed (length s) g h block enciphered ≡ done (box_rows b)) where
      -- the verdict is none, or 01
      pub answer_refused :
          (q : Refusal) → Err q ≡ verdict_of (verify_finish variable s v (box_rows b))
          → verify_answer pin_key variable g h s at block enciphered ≡ refused (record { refusal = q; field = 0; place = 0 })
      unfolding verify_answer
      answer_refused q e =
          rw (
            (fields_found (verify_fields pin_key s at) v got).1,
            found,
            verdict_bad (verify_finish variable s v (box_rows b)) q e,
          )

      -- it is 00
      pub answer_verified :
          (u : Unit {0}) → Ok u ≡ verdict_of (verify_finish variable s v (box_rows b))
          → Ok (Nothing, v.trailer) ≡ answered_of (verify_answer pin_key variable g h s at block enciphered)
      unfolding verify_answer
      answer_verified u e =
          rw (
            (fields_found (verify_fields pin_key s at) v got).1,
            found,
            (verdict_good (verify_finish variable s v (box_rows b)) u e).1,
          )
