-- What a call of a cipher comes to, judgement by judgement, over its room and the test of its key.
-- Assumes nothing.
use Prim.Native.Nat.{ℕ, ◌<◌, ◌≤◌}
use mathlib.Core.Path.{◌≡◌, refl, ◌∙◌, subst}
use mathlib.Core.Bool.{Bool, true, false, ◌&&◌}
use mathlib.Core.List.{List}
use lib.Dec.{eqb, leb}
use lib.ListN.{length, take}
use lib.Seq.{take_all}
use native.Mathlib.Omega.{arith}
use borrow.Author.Tests.{le-leb, lt-leb, leb-true}
use Rattle.numbers.specs.Numbers.{Outcome, done, refused}
use Rattle.numbers.specs.Promise.{Does, quietly}
use Rattle.numbers.specs.declared.Refusal.TheVariants.{Field15, Room901}
use Rattle.numbers.specs.declared.Reply.{Reply}
use Rattle.words.specs.Words.{in_bytes}
use Rattle.words.proofs.Words.{length_bytes}
use Rattle.ciphercalls.specs.CipherCalls.{ciphered, zeros, check_value, key_check, first_bytes}
use Rattle.ciphers.specs.Ciphers.{is_lab_key, triple_word}
use Rattle.ciphers.specs.declared.Way.TheVariants.{Encipher}

-- ---- of a cipher

module _ (is_key : List ℕ → Bool) (cipher : List ℕ → List ℕ → List ℕ) (key block : List ℕ) (room : ℕ) where
  pub no_room : room < 8 → ciphered is_key cipher key block room ≡ refused Room901
  no_room h = rw (lt-leb 8 room h) refl

  pub no_key : 8 ≤ room → is_key key ≡ false → ciphered is_key cipher key block room ≡ refused Field15
  no_key h k = rw (le-leb 8 room h, k) refl

  pub no_block : 8 ≤ room → is_key key ≡ true → eqb (length block) 8 ≡ false → ciphered is_key cipher key block room ≡ refused Field15
  no_block h k b = rw (le-leb 8 room h, k, b) refl

  pub a_block : 8 ≤ room → is_key key ≡ true → eqb (length block) 8 ≡ true → ciphered is_key cipher key block room ≡ done (cipher key block)
  a_block h k b = rw (le-leb 8 room h, k, b) refl

-- ---- of a check value

module _ (key : List ℕ) (room : ℕ) where
  pub check_no_room : room < 3 → key_check key room ≡ refused Room901
  unfolding key_check
  check_no_room h = rw (lt-leb 3 room h) refl

  pub check_no_key : 3 ≤ room → is_lab_key key ≡ false → key_check key room ≡ refused Field15
  unfolding key_check
  check_no_key h k = rw (le-leb 3 room h, k) refl

  pub a_check : 3 ≤ room → is_lab_key key ≡ true → key_check key room ≡ done (check_value key)
  unfolding key_check
  a_check h k = rw (le-leb 3 room h, k) refl

-- ---- what the code writes: the first bytes of a word, where key and block are fit

eight_of : (x : ℕ) → take 8 (in_bytes 8 x) ≡ in_bytes 8 x
eight_of x = take_all 8 (in_bytes 8 x) (rw (length_bytes 8 x) (omega arith))

-- the call of a cipher whose word is x
module _ (is_key : List ℕ → Bool) (cipher : List ℕ → List ℕ → List ℕ) (key block : List ℕ) (room : ℕ) (fit : Bool) (w x : ℕ) where
  pub first_is_ciphered : fit ≡ (is_key key && eqb (length block) 8) → cipher key block ≡ in_bytes 8 x → (fit ≡ true → 8 ≤ room → w ≡ x)
      → first_bytes 8 fit w room ≡ ciphered is_key cipher key block room
  first_is_ciphered ef ex ew = by (leb 8 room) (is_key key) (eqb (length block) 8) refl refl refl
    where
      by : (r k b : Bool) → leb 8 room ≡ r → is_key key ≡ k → eqb (length block) 8 ≡ b → first_bytes 8 fit w room ≡ ciphered is_key cipher key block room
      by false k b er ek eb = rw er refl
      by true false b er ek eb = rw (ef, er, ek) refl
      by true true false er ek eb = rw (ef, er, ek, eb) refl
      by true true true er ek eb =
          let e : fit ≡ true = rw (ef, ek, eb) refl in
          rw (e, er, ek, eb, ex, ew e (leb-true 8 room er), eight_of) refl

-- the check value of a key
pub first_is_check : (key : List ℕ) (room : ℕ) (fit : Bool) (w : ℕ) → fit ≡ is_lab_key key → (fit ≡ true → 3 ≤ room → w ≡ triple_word Encipher key zeros)
    → first_bytes 3 fit w room ≡ key_check key room
unfolding key_check
first_is_check key room fit w ef ew = by (leb 3 room) (is_lab_key key) refl refl
  where
    by : (r k : Bool) → leb 3 room ≡ r → is_lab_key key ≡ k → first_bytes 3 fit w room ≡ key_check key room
    by false k er ek = rw er refl
    by true false er ek = rw (ef, er, ek) refl
    by true true er ek =
        let e : fit ≡ true = ef ∙ ek in
        rw (e, er, ek, ew e (leb-true 3 room er)) refl

-- so the promise is that of the call
pub does_as : {o o' : Outcome (List ℕ)} {before after : List ℕ} {r : Reply} → o ≡ o' → Does (quietly o) before r after → Does (quietly o') before r after
does_as {before = before} {after = after} {r = r} e d = subst (λ (x : Outcome (List ℕ)). Does (quietly x) before r after) e d
