-- A block holds a PIN exactly when one is read of it, and so exactly when a finish comes to what is judged behind the PIN.
-- Assumes nothing.
use Prim.Native.Nat.{ℕ}
use native.Mathlib.Omega.{arith}
use mathlib.Core.Path.{◌≡◌, refl, sym, ap, ◌∙◌}
use mathlib.Core.Logic.{◌↔◌, inl, inr}
use mathlib.Core.List.{List, map}
use mathlib.Core.Bool.{true, false, false≢true}
use lib.ListN.{length, length-map}
use lib.Dec.{lit<}
use Rattle.nibbles.specs.Nibbles.{nibs}
use Rattle.nibbles.proofs.Lists.{map_below}
use Rattle.alphabet.specs.Alphabet.{value_of}
use Rattle.alphabet.proofs.Laws.{value_below}
use Rattle.numbers.specs.Numbers.{Outcome, done, refused, and_then, number_of}
use Rattle.numbers.specs.declared.Refusal.{Refusal}
use Rattle.formats.specs.declared.Format.{Format}
use Rattle.pins.specs.Pins.{account_field}
use Rattle.blocks.specs.Blocks.{veil, read_row}
use Rattle.formats.specs.Formats.{veiled}
use Rattle.offsets.specs.Offsets.{pin_with_natural}
use Rattle.texts_stages.specs.StageTexts.{SealedFields, InputFields, AreInputs}
use Rattle.claims_blocks.specs.Claims.{IsRow, IsBytes}
use Rattle.claims_blocks.specs.Promises.{listed}
use Rattle.claims_blocks.proofs.Bytes.{is_row, nibs_row}
use Rattle.claims_blocks.proofs.Judged as judged
use Rattle.claims_blocks.proofs.Trips.{veil_row, fill_again, fill_row, round_trip, accepted_written, read_faults}
use Rattle.claims_exactly.specs.Sent.{response}
use Rattle.claims_exactly.specs.Responses.{account_digits, pair_of, Holds}

-- the account field is a row of nibbles
field_row : (account : List ℕ) → length account ≡ 12 → IsRow (account_field (map value_of account))
field_row account l = is_row _ (record { long = omega (arith, length-map account value_of); nibbles = (lit< tt, (lit< tt, (lit< tt, (lit< tt, map_below 16 value_of value_below account)))) })

module _ (account block : List ℕ) (row : IsRow (account_field account)) (nibbles : IsRow (nibs block)) where
  -- it is read, and what is read writes it
  holds_read : (f : Format) → Holds f account block → (pin : List ℕ) × (read_row f (account_field account) (nibs block) ≡ done pin)
  holds_read f (pin, fill, is_pin, is-fill, e) = (pin, ap (read_row f (account_field account)) (sym e) ∙ round_trip f (account_field account) pin fill row is_pin is-fill)

  read_holds : (f : Format) (pin : List ℕ) → read_row f (account_field account) (nibs block) ≡ done pin → Holds f account block
  read_holds f pin e =
      let clear = veil (veiled f) (account_field account) (nibs block) in
      let a = accepted_written f (account_field account) (nibs block) pin row nibbles e in
      (pin, fill_again f clear, a.0, fill_row f clear (veil_row (veiled f) (account_field account) (nibs block) row nibbles), a.1)

-- ---- behind the PIN

-- the number of an outcome, whatever is done
abbrev pub numbered : {A : Type 0} → Outcome A → ℕ
numbered (done a) = 0
numbered (refused q) = number_of q

-- a response says it
pub response_number : {A : Type 0} (header code : List ℕ) (text : A → List ℕ) (o : Outcome A) → (response header code (and_then o (λ a. done (text a)))).number ≡ numbered o
response_number header code text (done a) = refl
response_number header code text (refused q) = refl

-- a finish whose numbers behind the PIN are some, without 20 and 24, comes to one of them exactly when the block holds a PIN
module _ {B : Type 0} (these : List ℕ) (next : List ℕ × List ℕ → Outcome B) (behind : (pair : List ℕ × List ℕ) → listed (numbered (next pair)) these ≡ true)
    (neither : (listed 20 these ≡ false) × (listed 24 these ≡ false)) (b : SealedFields) (i : InputFields) (block enciphered : List ℕ) where
  abbrev finished : ℕ
  finished = numbered (and_then (pair_of b i block enciphered) next)

  abbrev reading : Outcome (List ℕ)
  reading = read_row b.format (account_field (account_digits i)) (nibs block)

  not_behind : (q : Refusal) → judged.Fault q → listed (number_of q) these ≡ true → ⊥
  not_behind q (inl e) h = false≢true (sym neither.0 ∙ rw e at h)
  not_behind q (inr e) h = false≢true (sym neither.1 ∙ rw e at h)

  pub held_exactly : AreInputs i → length block ≡ 8 → IsBytes block → (listed finished these ≡ true) ↔ Holds b.format (account_digits i) block
  unfolding pin_with_natural
  held_exactly g l bytes = (λ k. by_reading k reading refl, λ h. let r = holds_read (account_digits i) block row nibbles b.format h in rw r.1 (behind _))
    where
      row : IsRow (account_field (account_digits i))
      row = field_row i.account g.account.0

      nibbles : IsRow (nibs block)
      nibbles = nibs_row block l bytes

      by_reading : listed finished these ≡ true → (o : Outcome (List ℕ)) → reading ≡ o → Holds b.format (account_digits i) block
      by_reading k (done pin) e = read_holds (account_digits i) block row nibbles b.format pin e
      by_reading k (refused q) e = absurd (not_behind q (read_faults b.format (account_field (account_digits i)) (nibs block) q e) (rw e at k))
