-- The calls of a DA or an EA behind its code, over the use of its PIN key.
use Rattle.std.specs.Prelude.{ℕ, List, Bool, length}
use Rattle.numbers.specs.Numbers.{done, and_then}
use Rattle.keybox.specs.KeyBox.{boxed}
use Rattle.fields.specs.Fields.{Ruling, ruled, unpointed}
use Rattle.responses.specs.Responses.{Payload, nothing, answering}
use Rattle.uses.specs.declared.Use.{Use}
use Rattle.sealed.specs.Sealed.{block_in}
use Rattle.pairing.specs.Pairing.{asked_at}
use Rattle.verifyfields.specs.VerifyFields.{verify_fields}
use Rattle.verifyfinish.specs.VerifyFinish.{verify_finish}

-- ---- the asking call

-- as BK's: the fields, then the block that the key box must encipher under the PVK
unfoldable pub verify_ask : Use → List ℕ → ℕ → Ruling (List ℕ)
verify_ask pin_key s at =
    and_then (ruled (verify_fields pin_key s at))
    (λ v. unpointed (asked_at s v.offsetting))

-- ---- the PIN block's call

-- as BK's: the same fields, and no look into the block
unfoldable pub verify_extract : Use → List ℕ → ℕ → Ruling (List ℕ)
verify_extract pin_key s at =
    and_then (ruled (verify_fields pin_key s at))
    (λ v. done (block_in s v.sealed))

-- ---- the answering call

-- as BK's: the fields, the key box's answers, the finish. 00 brings nothing but the trailer; 01 is written as a refusal is
unfoldable pub verify_answer : Use → Bool → Bool → Bool → List ℕ → ℕ → List ℕ → List ℕ → Ruling (Payload × ℕ)
verify_answer pin_key variable pin_key_good pvk_good s at block enciphered =
    answering (verify_fields pin_key s at) (boxed (length s) pin_key_good pvk_good block enciphered)
    (λ v rows. and_then (verify_finish variable s v rows) (λ _. done nothing))
    (λ v. v.trailer)
