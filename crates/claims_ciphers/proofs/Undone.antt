-- Each way of a cipher undoes the other: of words FIPS 46-3's laws say it, and bytes and words are settled by each other.
-- Assumes nothing.
use Prim.Native.Nat.{ℕ, ◌*◌, ◌^◌, ◌<◌, ◌≤◌}
use native.Mathlib.Nat.{mod-eq_of_lt}
use mathlib.Core.Path.{◌≡◌, ◌∙◌, ap, sym}
use mathlib.Core.Bool.{Bool, true}
use mathlib.Core.List.{List, reverse}
use lib.Dec.{leb, eqb}
use lib.ListN.{length}
use borrow.Author.Tests.{eq-eqb, eqb-true}
use Rattle.nibbles.proofs.Runs.{every_below, below_every}
use Rattle.numbers.specs.Numbers.{done, unless}
use Rattle.numbers.specs.declared.Refusal.TheVariants.{Field15, Room901}
use Rattle.numbers.proofs.Laws.{then_done, passed, value_of_lem}
use Rattle.fips46.specs.Fips46.{KS, encipher, decipher, triple_encipher, triple_decipher}
use Rattle.fips46.proofs.Undo.{computed_lt, des_undo, des_redo, triple_undo, triple_redo}
use Rattle.words.specs.Words.{spelled, in_bytes}
use Rattle.words.proofs.Words.{length_bytes, bytes_below, spelled_lt, spelled_bytes, bytes_spelled}
use Rattle.ciphers.specs.Ciphers.{des_block, key_at, third_at, triple_block, is_lab_key}
use Rattle.ciphers.specs.declared.Way.TheVariants.{Encipher, Decipher}
use Rattle.ciphercalls.specs.CipherCalls.{keyed, ciphered, des_call, triple_call}
use Rattle.ciphercalls.proofs.Laws.{a_block}
use Rattle.claims_blocks.specs.Claims.{IsBytes}
use Rattle.claims_ciphers.specs.Undone.{other, IsBlock, DesUndone, TripleUndone, CallsUndone}

-- ---- blocks and words

-- a word of 64 bits, through its bytes
pub word_back : (w : ℕ) → w < 2 ^ 64 → spelled (in_bytes 8 w) ≡ w
word_back w h = spelled_bytes 8 w ∙ mod-eq_of_lt h

pub block_back : (block : List ℕ) → IsBlock block → in_bytes 8 (spelled block) ≡ block
block_back block (l, b) = ap (λ (n : ℕ). in_bytes n (spelled block)) (sym l) ∙ bytes_spelled block (every_below 255 block b)

pub block_lt : (block : List ℕ) → IsBlock block → spelled block < 2 ^ 64
block_lt block (l, b) = let h : spelled block < 2 ^ (8 * length block) = spelled_lt block (every_below 255 block b) in rw l at h

-- the bytes of a word are a block
pub made_block : (w : ℕ) → IsBlock (in_bytes 8 w)
made_block w = (length_bytes 8 w, below_every 255 (in_bytes 8 w) (bytes_below 8 w))

-- ---- the ciphers

-- two functions of words of which the second undoes the first
undone : (f g : ℕ → ℕ) → ((w : ℕ) → f w < 2 ^ 64) → ((w : ℕ) → w < 2 ^ 64 → g (f w) ≡ w)
    → (block : List ℕ) → IsBlock block → in_bytes 8 (g (spelled (in_bytes 8 (f (spelled block))))) ≡ block
undone f g fits undo block is =
    let w : ℕ = spelled block in
    ap (λ (x : ℕ). in_bytes 8 (g x)) (word_back (f w) (fits w)) ∙ ap (in_bytes 8) (undo w (block_lt block is)) ∙ block_back block is

pub des_undone : DesUndone
des_undone Encipher key = undone (encipher (spelled key)) (decipher (spelled key)) (computed_lt (KS (spelled key))) (des_undo (spelled key))
des_undone Decipher key = undone (decipher (spelled key)) (encipher (spelled key)) (computed_lt (reverse (KS (spelled key)))) (des_redo (spelled key))

pub triple_undone : TripleUndone
triple_undone Encipher key =
    let k1 : ℕ = key_at key 0 in
    let k2 : ℕ = key_at key 8 in
    let k3 : ℕ = key_at key (third_at key) in
    undone (triple_encipher k1 k2 k3) (triple_decipher k1 k2 k3) (λ w. computed_lt (KS k3) (decipher k2 (encipher k1 w))) (triple_undo k1 k2 k3)
triple_undone Decipher key =
    let k1 : ℕ = key_at key 0 in
    let k2 : ℕ = key_at key 8 in
    let k3 : ℕ = key_at key (third_at key) in
    undone (triple_decipher k1 k2 k3) (triple_encipher k1 k2 k3) (λ w. computed_lt (reverse (KS k1)) (encipher k2 (decipher k3 w))) (triple_redo k1 k2 k3)

-- ---- the calls

-- what a call that is not refused was handed, and what it writes
pub call_done : (isKey : List ℕ → Bool) (cipher : List ℕ → List ℕ → List ℕ) (key block written : List ℕ) (room : ℕ) → ciphered isKey cipher key block room ≡ done written
    → (isKey key ≡ true) × (length block ≡ 8) × (cipher key block ≡ written)
call_done isKey cipher key block written room e =
    let (k, keyed-done, next) = then_done (keyed 8 isKey key room) _ written e in
    let (b, sized, made) = then_done (unless Field15 (eqb (length block) 8) block) _ written next in
    let (_, _, is-key) = then_done (unless Room901 (leb 8 room) room) (λ _. unless Field15 (isKey key) key) k keyed-done in
    let (right_key, same_key) = passed Field15 (isKey key) key k is-key in
    let (right-size, same_block) = passed Field15 (eqb (length block) 8) block b sized in
    (right_key, eqb-true (length block) 8 right-size, ap (λ (x : List ℕ). cipher x block) same_key ∙ ap (cipher k) same_block ∙ value_of_lem made)

call_undone : (isKey : List ℕ → Bool) (cipher back : List ℕ → List ℕ → List ℕ) (key block written : List ℕ) (room room' : ℕ)
    → length (cipher key block) ≡ 8 → (IsBlock block → back key (cipher key block) ≡ block) → IsBytes block → 8 ≤ room'
    → ciphered isKey cipher key block room ≡ done written → ciphered isKey back key written room' ≡ done block
call_undone isKey cipher back key block written room room' l undo b roomy e =
    let (is-key, sized, made) = call_done isKey cipher key block written room e in
    a_block isKey back key written room' roomy is-key (eq-eqb _ _ (ap length (sym made) ∙ l))
    ∙ ap done (ap (back key) (sym made) ∙ undo (sized, b))

pub calls_undone : CallsUndone
unfolding des_call triple_call
calls_undone = (
  λ way key block written room room'. call_undone (λ k. eqb (length k) 8) (des_block way) (des_block (other way)) key block written room room' (length_bytes 8 _) (des_undone way key block),
  λ way key block written room room'. call_undone is_lab_key (triple_block way) (triple_block (other way)) key block written room room' (length_bytes 8 _) (triple_undone way key block),
)
