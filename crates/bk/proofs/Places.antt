-- What the calls make of a command that was read is as long as it should be.
-- Assumes nothing.
use Prim.Native.Nat.{ℕ}
use mathlib.Core.Path.{◌≡◌, sym, subst}
use mathlib.Core.List.{List}
use mathlib.Core.Bool.{Bool}
use lib.ListN.{length}
use Rattle.nibbles.specs.Nibbles.{packs}
use Rattle.numbers.specs.Numbers.{done, and_then}
use Rattle.numbers.proofs.Laws.{then_done, value_of_lem}
use Rattle.settings.specs.declared.Settings.{Settings}
use Rattle.answers.proofs.Laws.{Sixteen}
use Rattle.keybox.specs.KeyBox.{boxed}
use Rattle.keybox.proofs.Laws.{boxed_sixteen}
use Rattle.fields.specs.Fields.{ruled, unpointed}
use Rattle.fields.proofs.Reading.{ruled_read}
use Rattle.fields.proofs.Rulings.{pointing_done}
use Rattle.responses.specs.Responses.{Payload, offset}
use Rattle.responses.proofs.Laws.{Fine, Sound}
use Rattle.pairing.specs.Pairing.{asked_at}
use Rattle.pairing.proofs.Laws as pairing
use Rattle.bkfields.specs.BkFields.{bk_fields}
use Rattle.bk.specs.Bk.{bk_ask, bk_extract, bk_answer}
use Rattle.bkfinish.specs.BkFinish.{bk_finish}
use Rattle.bkfields.proofs.Places.{placed, block_placed}
use Rattle.bkfinish.proofs.Places.{finish_within}

-- ---- the asking call

-- the block that is asked for is the bytes of a row of sixteen
pub asked_row_lem : (settings : Settings) (s : List ℕ) (at : ℕ) (bytes : List ℕ) → bk_ask settings s at ≡ done bytes → (ns : List ℕ) × Sixteen ns × (bytes ≡ packs ns)
unfolding bk_ask
asked_row_lem settings s at bytes e =
    let f = then_done (ruled (bk_fields settings.restricted s at)) _ bytes e in
    let p = f.0 in
    let r = ruled_read (bk_fields settings.restricted s at) p f.1 in
    pairing.asked_row_lem s p.offsetting (placed settings.restricted s at p r.0 r.1).offsetting bytes (pointing_done 0 0 (asked_at s p.offsetting) bytes f.2)

-- ---- the PIN block's call

-- so is the block that is taken out
pub extracted_row : (settings : Settings) (s : List ℕ) (at : ℕ) (bytes : List ℕ) → bk_extract settings s at ≡ done bytes → (ns : List ℕ) × Sixteen ns × (bytes ≡ packs ns)
unfolding bk_extract
extracted_row settings s at bytes e =
    let f = then_done (ruled (bk_fields settings.restricted s at)) _ bytes e in
    let p = f.0 in
    let r = ruled_read (bk_fields settings.restricted s at) p f.1 in
    (_, pairing.block_sixteen s p.sealed (block_placed settings.restricted s at p r.0 r.1), sym (value_of_lem f.2))

-- ---- the answering call

-- what it answers fits a response
pub answer_sound : (settings : Settings) (g h : Bool) (s : List ℕ) (at : ℕ) (block enciphered : List ℕ) (d : Payload × ℕ) → bk_answer settings g h s at block enciphered ≡ done d → Sound s d
unfolding bk_answer
answer_sound settings g h s at block enciphered d e =
    let f = then_done (ruled (bk_fields settings.restricted s at)) _ d e in
    let p = f.0 in
    let r = ruled_read (bk_fields settings.restricted s at) p f.1 in
    let inside = placed settings.restricted s at p r.0 r.1 in
    let k = then_done (boxed (length s) g h block enciphered) _ d f.2 in
    let sixteen = boxed_sixteen (length s) g h block enciphered k.0 k.1 in
    let o = then_done (unpointed (and_then (bk_finish settings.variable s p k.0) (λ ds. done (offset ds)))) _ d k.2 in
    let made = pointing_done 0 0 (and_then (bk_finish settings.variable s p k.0) (λ ds. done (offset ds))) o.0 o.1 in
    let n = then_done (bk_finish settings.variable s p k.0) _ o.0 made in
    let fine : Fine (offset n.0) = finish_within settings.variable s p k.0 n.0 inside sixteen.0 sixteen.1 n.1 in
    subst (Sound s) (value_of_lem o.2) (record { payload = subst Fine (value_of_lem n.2) fine; inside = inside.trailer; tail = inside.tail })
