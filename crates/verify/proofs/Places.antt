-- What the calls make of a command that was read is as long as it should be.
-- Assumes nothing.
use Prim.Native.Nat.{ℕ}
use mathlib.Core.Path.{◌≡◌, sym, subst}
use mathlib.Core.List.{List}
use mathlib.Core.Bool.{Bool}
use lib.ListN.{length}
use Rattle.nibbles.specs.Nibbles.{packs}
use Rattle.numbers.specs.Numbers.{done, and_then}
use Rattle.numbers.proofs.Laws.{then_done, value_of_lem}
use Rattle.answers.proofs.Laws.{Sixteen}
use Rattle.keybox.specs.KeyBox.{boxed}
use Rattle.fields.specs.Fields.{ruled, unpointed}
use Rattle.fields.proofs.Reading.{ruled_read}
use Rattle.fields.proofs.Rulings.{pointing_done}
use Rattle.responses.specs.Responses.{Payload, nothing}
use Rattle.responses.proofs.Laws.{Fine, Sound}
use Rattle.pairing.specs.Pairing.{asked_at}
use Rattle.pairing.proofs.Laws as pairing
use Rattle.uses.specs.declared.Use.{Use}
use Rattle.verifyfields.specs.VerifyFields.{verify_fields}
use Rattle.verifyfields.proofs.Places.{placed, block_placed}
use Rattle.verifyfinish.specs.VerifyFinish.{verify_finish}
use Rattle.verify.specs.Verify.{verify_ask, verify_extract, verify_answer}

-- ---- the asking call

-- the block that is asked for is the bytes of a row of sixteen
pub asked_row_lem : (pin_key : Use) (s : List ℕ) (at : ℕ) (bytes : List ℕ) → verify_ask pin_key s at ≡ done bytes → (ns : List ℕ) × Sixteen ns × (bytes ≡ packs ns)
unfolding verify_ask
asked_row_lem pin_key s at bytes e =
    let f = then_done (ruled (verify_fields pin_key s at)) _ bytes e in
    let p = f.0 in
    let r = ruled_read (verify_fields pin_key s at) p f.1 in
    pairing.asked_row_lem s p.offsetting (placed pin_key s at p r.0 r.1).offsetting bytes (pointing_done 0 0 (asked_at s p.offsetting) bytes f.2)

-- ---- the PIN block's call

-- so is the block that is taken out
pub extracted_row : (pin_key : Use) (s : List ℕ) (at : ℕ) (bytes : List ℕ) → verify_extract pin_key s at ≡ done bytes → (ns : List ℕ) × Sixteen ns × (bytes ≡ packs ns)
unfolding verify_extract
extracted_row pin_key s at bytes e =
    let f = then_done (ruled (verify_fields pin_key s at)) _ bytes e in
    let p = f.0 in
    let r = ruled_read (verify_fields pin_key s at) p f.1 in
    (_, pairing.block_sixteen s p.sealed (block_placed pin_key s at p r.0 r.1), sym (value_of_lem f.2))

-- ---- the answering call

-- what it answers fits a response
pub answer_sound : (pin_key : Use) (variable g h : Bool) (s : List ℕ) (at : ℕ) (block enciphered : List ℕ) (d : Payload × ℕ) → verify_answer pin_key variable g h s at block enciphered ≡ done d → Sound s d
unfolding verify_answer
answer_sound pin_key variable g h s at block enciphered d e =
    let f = then_done (ruled (verify_fields pin_key s at)) _ d e in
    let v = f.0 in
    let r = ruled_read (verify_fields pin_key s at) v f.1 in
    let inside = placed pin_key s at v r.0 r.1 in
    let k = then_done (boxed (length s) g h block enciphered) _ d f.2 in
    let o = then_done (unpointed (and_then (verify_finish variable s v k.0) (λ _. done nothing))) _ d k.2 in
    let made = pointing_done 0 0 (and_then (verify_finish variable s v k.0) (λ _. done nothing)) o.0 o.1 in
    let n = then_done (verify_finish variable s v k.0) _ o.0 made in
    subst (Sound s) (value_of_lem o.2) (record { payload = subst Fine (value_of_lem n.2) tt; inside = inside.trailer; tail = inside.tail })
