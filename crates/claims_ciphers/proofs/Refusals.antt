-- What the calls of the ciphers refuse, judgement by judgement.
-- Assumes nothing.
use Prim.Native.Nat.{ℕ, ◌≤◌}
use native.Mathlib.Omega.{arith}
use mathlib.Core.Path.{◌≡◌, refl, ◌∙◌, ap, sym}
use mathlib.Core.Bool.{Bool, true, false, ◌||◌, false≢true}
use mathlib.Core.Logic.{◌↔◌, ◌⊎◌, inl, inr, ◌≢◌}
use mathlib.Core.List.{List, ◌++◌}
use lib.Dec.{leb, eqb}
use lib.ListN.{length, take, replicate}
use lib.Seq.{take_at, length-take-le}
use borrow.Author.Tests.{ne_eqb, eqb-true, eqb-false}
use Rattle.numbers.specs.Numbers.{Outcome, done, refused, unless}
use Rattle.numbers.specs.declared.Refusal.{Refusal}
use Rattle.numbers.specs.declared.Refusal.TheVariants.{Field15, Room901}
use Rattle.numbers.proofs.Laws.{then_done, passed, value_of_lem}
use Rattle.words.proofs.Words.{length_bytes}
use Rattle.ciphers.specs.Ciphers.{is_lab_key, des_block, triple_block}
use Rattle.ciphers.specs.declared.Way.TheVariants.{Encipher}
use Rattle.ciphercalls.specs.CipherCalls.{keyed, ciphered, des_call, triple_call, zeros, check_value, key_check}
use Rattle.ciphercalls.proofs.Laws.{no_room, no_key, no_block, a_block, check_no_room, check_no_key, a_check}
use Rattle.claims_ciphers.specs.Refusals.{NoLabKey, RoomFirst, DesRefused, TripleRefused, CheckRefused, CountsOfCiphers, CheckIsTheFirst}
use Rattle.claims_ciphers.proofs.Undone.{call_done}

pub room_first : RoomFirst
unfolding des_call triple_call
room_first way key block room = (
  λ h. (no_room (λ k. eqb (length k) 8) (des_block way) key block room h, no_room is_lab_key (triple_block way) key block room h),
  λ h. check_no_room key room h,
)

-- ---- which keys are none

not_8 : (n : ℕ) → (eqb n 8 ≡ false) ↔ (n ≢ 8)
not_8 n = (λ e. eqb-false n 8 e, λ h. ne_eqb n 8 h)

no_lab_key : (key : List ℕ) → (is_lab_key key ≡ false) ↔ NoLabKey key
no_lab_key key = (by (eqb (length key) 16) refl, λ h. rw (ne_eqb (length key) 16 h.0, ne_eqb (length key) 24 h.1) refl)
  where
    by : (b : Bool) → eqb (length key) 16 ≡ b → (b || eqb (length key) 24) ≡ false → NoLabKey key
    by true e t = absurd (false≢true (sym t))
    by false e t = (eqb-false (length key) 16 e, eqb-false (length key) 24 t)

-- ---- a refusal with 15, or none

-- what comes to 15 where something is so, and to bytes where it is not, is refused exactly there
exactly : (o : Outcome (List ℕ)) (Wrong : Type 0) (q : Refusal) → (Wrong × (o ≡ refused Field15)) ⊎ ((Wrong → ⊥) × ((bytes : List ℕ) × (o ≡ done bytes)))
    → (o ≡ refused q) ↔ ((q ≡ Field15) × Wrong)
exactly o Wrong q (inl (wrong, e)) = (λ r. (cc, wrong), λ h. rw h.0 e)
exactly o Wrong q (inr (right, (bytes, e))) = (λ r. absurd (let z : ◌≡◌ {A = ℕ} 0 1 = cc in omega arith), λ h. absurd (right h.1))

-- of a cipher over the test of its key
cipher_refused : (isKey : List ℕ → Bool) (NoKey : List ℕ → Type 0) → ((key : List ℕ) → (isKey key ≡ false) ↔ NoKey key)
    → (cipher : List ℕ → List ℕ → List ℕ) (key block : List ℕ) (room : ℕ) (q : Refusal) → 8 ≤ room
    → (ciphered isKey cipher key block room ≡ refused q) ↔ ((q ≡ Field15) × (NoKey key ⊎ (length block ≢ 8)))
cipher_refused isKey NoKey none cipher key block room q h = exactly (ciphered isKey cipher key block room) (NoKey key ⊎ (length block ≢ 8)) q (by (isKey key) refl (eqb (length block) 8) refl)
  where
    by : (k : Bool) → isKey key ≡ k → (b : Bool) → eqb (length block) 8 ≡ b
        → ((NoKey key ⊎ (length block ≢ 8)) × (ciphered isKey cipher key block room ≡ refused Field15))
        ⊎ (((NoKey key ⊎ (length block ≢ 8)) → ⊥) × ((bytes : List ℕ) × (ciphered isKey cipher key block room ≡ done bytes)))
    by false e b f = inl (inl ((none key).0 e), no_key isKey cipher key block room h e)
    by true e false f = inl (inr (eqb-false (length block) 8 f), no_block isKey cipher key block room h e f)
    by true e true f = inr (right, (cipher key block, a_block isKey cipher key block room h e f))
      where
        right : NoKey key ⊎ (length block ≢ 8) → ⊥
        right (inl n) = false≢true (sym ((none key).1 n) ∙ e)
        right (inr n) = n (eqb-true (length block) 8 f)

pub des_refused : DesRefused
unfolding des_call
des_refused way key block room q = cipher_refused (λ k. eqb (length k) 8) (λ k. length k ≢ 8) (λ k. not_8 (length k)) (des_block way) key block room q

pub triple_refused : TripleRefused
unfolding triple_call
triple_refused way key block room q = cipher_refused is_lab_key NoLabKey no_lab_key (triple_block way) key block room q

pub check_refused : CheckRefused
check_refused key room q h = exactly (key_check key room) (NoLabKey key) q (by (is_lab_key key) refl)
  where
    by : (k : Bool) → is_lab_key key ≡ k → (NoLabKey key × (key_check key room ≡ refused Field15)) ⊎ ((NoLabKey key → ⊥) × ((bytes : List ℕ) × (key_check key room ≡ done bytes)))
    by false e = inl ((no_lab_key key).0 e, check_no_key key room h e)
    by true e = inr (λ n. false≢true (sym ((no_lab_key key).1 n) ∙ e), (_, a_check key room h e))

-- ---- what is written

check_done : (key written : List ℕ) (room : ℕ) → key_check key room ≡ done written → check_value key ≡ written
unfolding key_check
check_done key written room e =
    let (k, keyed-done, made) = then_done (keyed 3 is_lab_key key room) _ written e in
    let (_, _, is-key) = then_done (unless Room901 (leb 3 room) room) (λ _. unless Field15 (is_lab_key key) key) k keyed-done in
    ap check_value (passed Field15 (is_lab_key key) key k is-key).1 ∙ value_of_lem made

pub counts_of_ciphers : CountsOfCiphers
unfolding des_call triple_call
counts_of_ciphers way key block written room = (
  λ e. ap length (sym (call_done (λ k. eqb (length k) 8) (des_block way) key block written room e).2) ∙ length_bytes 8 _,
  λ e. ap length (sym (call_done is_lab_key (triple_block way) key block written room e).2) ∙ length_bytes 8 _,
  λ e. ap length (sym (check_done key written room e)) ∙ length-take-le 3 (triple_block Encipher key zeros) (rw length_bytes (omega arith)),
)

pub check_is_the_first : CheckIsTheFirst
unfolding triple_call
check_is_the_first key first rest room room' three h e =
    let (is-key, _, made) = call_done is_lab_key (triple_block Encipher) key (replicate 8 0) (first ++ rest) room' e in
    a_check key room h is-key ∙ ap (λ (bytes : List ℕ). done (take 3 bytes)) made ∙ ap done (take_at first rest 3 three)
