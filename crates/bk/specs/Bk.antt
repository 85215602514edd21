-- The calls of a BK behind its code.
use Rattle.std.specs.Prelude.{ℕ, List, Bool, length}
use Rattle.numbers.specs.Numbers.{done, and_then}
use Rattle.settings.specs.declared.Settings.{Settings}
use Rattle.keybox.specs.KeyBox.{boxed}
use Rattle.fields.specs.Fields.{Ruling, ruled, unpointed}
use Rattle.responses.specs.Responses.{Payload, offset, answering}
use Rattle.sealed.specs.Sealed.{block_in}
use Rattle.pairing.specs.Pairing.{asked_at}
use Rattle.bkfields.specs.BkFields.{bk_fields}
use Rattle.bkfinish.specs.BkFinish.{bk_finish}

-- ---- the asking call

-- "the 8-byte block that the key box must encipher under the PVK"; the validation data were judged as a field, so nothing is refused
-- behind the fields
unfoldable pub bk_ask : Settings → List ℕ → ℕ → Ruling (List ℕ)
bk_ask settings s at =
    and_then (ruled (bk_fields settings.restricted s at))
    (λ p. unpointed (asked_at s p.offsetting))

-- ---- the PIN block's call

-- the same fields; the block itself is not looked into
unfoldable pub bk_extract : Settings → List ℕ → ℕ → Ruling (List ℕ)
bk_extract settings s at =
    and_then (ruled (bk_fields settings.restricted s at))
    (λ p. done (block_in s p.sealed))

-- ---- the answering call

-- the fields, then "two slices that are not 8 bytes long (15), 10, 11", then the finish: an offset, and the place of the trailer's mark
unfoldable pub bk_answer : Settings → Bool → Bool → List ℕ → ℕ → List ℕ → List ℕ → Ruling (Payload × ℕ)
bk_answer settings pin_key_good pvk_good s at block enciphered =
    answering (bk_fields settings.restricted s at) (boxed (length s) pin_key_good pvk_good block enciphered)
    (λ p rows. and_then (bk_finish settings.variable s p rows) (λ ds. done (offset ds)))
    (λ p. p.trailer)
