-- The order in which the product judges its keys.
-- Assumes nothing.
use Prim.Native.Nat.{ℕ, ◌+◌, ◌≤◌}
use native.Mathlib.Omega.{arith}
use mathlib.Core.Path.{◌≡◌, refl, sym, ap, ◌∙◌}
use mathlib.Core.Logic.{◌⊎◌, inl, inr}
use mathlib.Core.List.{List, []}
use mathlib.Core.Bool.{Bool, true, false, cond}
use lib.Dec.{eqb}
use lib.ListN.{length, drop}
use borrow.Author.Tests.{ne_eqb, le-leb}
use Rattle.nibbles.specs.Nibbles.{nibs}
use Rattle.numbers.specs.Numbers.{Outcome, done, refused, and_then, unless, number_of}
use Rattle.numbers.specs.declared.Refusal.TheVariants.{PinKeyParity10, PvkParity11, Field15}
use Rattle.numbers.proofs.Laws.{then_done}
use Rattle.settings.specs.declared.Settings.{Settings}
use Rattle.frame.specs.Frame.{code_of, opening}
use Rattle.frame.specs.declared.Code.{Code}
use Rattle.frame.specs.declared.Code.TheVariants.{Bk, Da, Ea, Other}
use Rattle.fields.specs.Fields.{ruled, pointing, unpointed}
use Rattle.fields.specs.declared.Fault.{Fault}
use Rattle.fields.proofs.Reading.{ruled_read}
use Rattle.fields.proofs.Rulings.{pointing_done, heard_done}
use Rattle.keybox.specs.KeyBox.{slices, parities, boxed}
use Rattle.words.proofs.Words.{length_bytes}
use Rattle.commands.specs.Commands.{opened, ask_by, answer_by, asking, asked, extracting, extracted, answered, replying}
use Rattle.parity.specs.Parity.{odd_parity}
use Rattle.ciphers.specs.Ciphers.{is_lab_key, triple_word, triple_block}
use Rattle.ciphers.specs.declared.Way.{Way}
use Rattle.ciphers.specs.declared.Way.TheVariants.{Encipher, Decipher}
use Rattle.lab.specs.Lab.{made_of_written, clear_block, validation_cipher, lab_answered, lab_replying}
use Rattle.claims_commands.specs.Runs.{terminal, zone}
use Rattle.claims_commands.proofs.Shapes.{Shape}
use Rattle.claims_commands.proofs.Listing.{bk_shape}
use Rattle.claims_commands.proofs.Verifying.{verify_shape}
use Rattle.claims_lab.specs.Product.{IsLabKey}
use Rattle.claims_lab.specs.KeysJudged.{NeitherLength, at_the_end, KeyLengthFirst, KeyOf8, KeyOf20, PinKeyParityNext, PvkParityNext}
use Rattle.claims_lab.proofs.Product.{both_or_neither, clear_made, cipher_made}

-- ---- what the key box's judgements come to

-- a fault in what it answered is the command's, where the asking call takes the command
module _ {command : Code} {settings : Settings} {A B : Type 0} (c : Shape command settings A B) where
  box_refuses : (g h : Bool) (s : List ℕ) (at : ℕ) (block enciphered v : List ℕ) (f : Fault) → ask_by command settings s at ≡ done v
      → boxed (length s) g h block enciphered ≡ refused f → answer_by command settings g h s at block enciphered ≡ refused f
  box_refuses g h s at block enciphered v f e short =
      let r = then_done (ruled (c.reader s at)) _ v (sym (c.asks s at) ∙ e) in
      let past = ruled_read (c.reader s at) r.0 r.1 in
      c.answers g h s at block enciphered ∙ rw (past.1, short)

module _ (settings : Settings) (g h : Bool) (s block enciphered v : List ℕ) (f : Fault) (b : boxed (length s) g h block enciphered ≡ refused f) where
  by_code : (code : Code) (at : ℕ) → ask_by code settings s at ≡ done v → answer_by code settings g h s at block enciphered ≡ refused f
  unfolding ask_by answer_by
  by_code Bk at e = box_refuses (bk_shape settings) g h s at block enciphered v f e b
  by_code Da at e = box_refuses (verify_shape terminal settings) g h s at block enciphered v f e b
  by_code Ea at e = box_refuses (verify_shape zone settings) g h s at block enciphered v f e b
  by_code Other at e = absurd (let z : ◌≡◌ {A = ℕ} 0 1 = cc in omega arith)

  -- and the short response is written
  judged : (room : ℕ) → 65 ≤ room → asked settings s 8 ≡ done v
      → (replying settings g h s block enciphered room ≡ refused f)
      × (answered settings g h s block enciphered room ≡ record { number = number_of f.refusal; written = opening settings.header s (number_of f.refusal) })
  unfolding asking replying answered
  judged room k e =
      let o = then_done (unpointed (opened 8 8 settings.header s)) _ v (heard_done (asking settings s 8) v e) in
      let code = pointing_done 0 0 (opened 8 8 settings.header s) o.0 o.1 in
      let said = by_code (code_of (drop o.0 s)) (o.0 + 2) o.2 in
      (rw (le-leb 65 room k, code, said) refl, rw (le-leb 65 room k, code, said) refl)

-- ---- the slices

-- the second is empty, by the test of the first's length
abbrev one_row : Bool → List ℕ → Outcome (List ℕ × List ℕ)
one_row x block = and_then (unless Field15 x (nibs block)) (λ ns. and_then (unless Field15 false (nibs [])) (λ es. done (ns, es)))

-- one of them is empty
box_short : (end : ℕ) (g h : Bool) (block enciphered : List ℕ) → (block ≡ []) ⊎ (enciphered ≡ []) → boxed end g h block enciphered ≡ refused (record { refusal = Field15; field = 0; place = end })
unfolding boxed slices
box_short end g h block enciphered (inl e) = rw e refl
box_short end g h block enciphered (inr e) = rw e (by_test (eqb (length block) 8))
  where
    by_test : (x : Bool) → and_then (pointing 0 end (one_row x block)) (λ rows. and_then (unpointed (parities g h)) (λ _. done rows)) ≡ refused (record { refusal = Field15; field = 0; place = end })
    by_test true = refl
    by_test false = refl

-- ---- the parities, where both slices have eight bytes

box_10 : (end : ℕ) (g h : Bool) (block enciphered : List ℕ) → length block ≡ 8 → length enciphered ≡ 8 → g ≡ false
    → boxed end g h block enciphered ≡ refused (record { refusal = PinKeyParity10; field = 0; place = 0 })
unfolding boxed slices parities
box_10 end g h block enciphered l l' e = rw (l, l', e) refl

box_11 : (end : ℕ) (g h : Bool) (block enciphered : List ℕ) → length block ≡ 8 → length enciphered ≡ 8 → g ≡ true → h ≡ false
    → boxed end g h block enciphered ≡ refused (record { refusal = PvkParity11; field = 0; place = 0 })
unfolding boxed slices parities
box_11 end g h block enciphered l l' e e' = rw (l, l', e, e') refl

-- ---- the keys

no_lab_key : (key : List ℕ) → NeitherLength key → is_lab_key key ≡ false
no_lab_key key n = rw (ne_eqb (length key) 16 n.0, ne_eqb (length key) 24 n.1) refl

neither_made : (way : Way) (key : List ℕ) (o : Outcome (List ℕ)) → NeitherLength key → made_of_written way key o ≡ []
neither_made way key (done block) n = ap (λ (b : Bool). cond b (triple_block way key block) []) (no_lab_key key n)
neither_made way key (refused q) n = refl

eight_made : (way : Way) (key block : List ℕ) → length (triple_block way key block) ≡ 8
eight_made way key block = length_bytes 8 (triple_word way key block)

pub key_length_first : KeyLengthFirst
unfolding lab_replying lab_answered
key_length_first settings s pin_key pvk v room k e n =
    judged settings (odd_parity pin_key) (odd_parity pvk) s (clear_block settings s pin_key) (validation_cipher settings s pvk) v (at_the_end s)
    (box_short (length s) (odd_parity pin_key) (odd_parity pvk) (clear_block settings s pin_key) (validation_cipher settings s pvk) (which n)) room k e
  where
    which : NeitherLength pin_key ⊎ NeitherLength pvk → (clear_block settings s pin_key ≡ []) ⊎ (validation_cipher settings s pvk ≡ [])
    which (inl p) = inl (neither_made Decipher pin_key (extracted settings s 16) p)
    which (inr p) = inr (neither_made Encipher pvk (asked settings s 8) p)

-- a length that is neither
other_length : (n : ℕ) (key : List ℕ) → (n ≡ 16 → ⊥) → (n ≡ 24 → ⊥) → length key ≡ n → NeitherLength key
other_length n key a b e = (λ x. a (sym e ∙ x), λ x. b (sym e ∙ x))

one_of : (n : ℕ) (pin_key pvk : List ℕ) → (n ≡ 16 → ⊥) → (n ≡ 24 → ⊥) → (length pin_key ≡ n) ⊎ (length pvk ≡ n) → NeitherLength pin_key ⊎ NeitherLength pvk
one_of n pin_key pvk a b (inl e) = inl (other_length n pin_key a b e)
one_of n pin_key pvk a b (inr e) = inr (other_length n pvk a b e)

pub key_of_8_lem : KeyOf8
key_of_8_lem settings s pin_key pvk v room k e n = key_length_first settings s pin_key pvk v room k e (one_of 8 pin_key pvk (omega arith) (omega arith) n)

pub key_of_20 : KeyOf20
key_of_20 settings s pin_key pvk v room k e n = key_length_first settings s pin_key pvk v room k e (one_of 20 pin_key pvk (omega arith) (omega arith) n)

-- both lengths right: both slices have eight bytes
module _ (settings : Settings) (s pin_key pvk v : List ℕ) (e : asked settings s 8 ≡ done v) (kp : IsLabKey pin_key) (kv : IsLabKey pvk) where
  eights : (length (clear_block settings s pin_key) ≡ 8) × (length (validation_cipher settings s pvk) ≡ 8)
  eights = by (both_or_neither settings s)
    where
      by : ((f : Fault) × (asking settings s 8 ≡ refused f) × (extracting settings s 16 ≡ refused f)) ⊎ ((v : List ℕ) × (b : List ℕ) × (asked settings s 8 ≡ done v) × (extracted settings s 16 ≡ done b))
          → (length (clear_block settings s pin_key) ≡ 8) × (length (validation_cipher settings s pvk) ≡ 8)
      by (inl (f, a, _)) = absurd (let x = sym (heard_done (asking settings s 8) v e) ∙ a in let z : ◌≡◌ {A = ℕ} 0 1 = cc in omega arith)
      by (inr (v, b, a, x)) = (ap length (clear_made settings s pin_key b kp x) ∙ eight_made Decipher pin_key b, ap length (cipher_made settings s pvk v kv a) ∙ eight_made Encipher pvk v)

pub pin_key_parity_next : PinKeyParityNext
unfolding lab_replying lab_answered
pin_key_parity_next settings s pin_key pvk v room k e kp kv p =
    let (l, l') = eights settings s pin_key pvk v e kp kv in
    judged settings (odd_parity pin_key) (odd_parity pvk) s (clear_block settings s pin_key) (validation_cipher settings s pvk) v _
    (box_10 (length s) (odd_parity pin_key) (odd_parity pvk) (clear_block settings s pin_key) (validation_cipher settings s pvk) l l' p) room k e

pub pvk_parity_next : PvkParityNext
unfolding lab_replying lab_answered
pvk_parity_next settings s pin_key pvk v room k e kp kv p p' =
    let (l, l') = eights settings s pin_key pvk v e kp kv in
    judged settings (odd_parity pin_key) (odd_parity pvk) s (clear_block settings s pin_key) (validation_cipher settings s pvk) v _
    (box_11 (length s) (odd_parity pin_key) (odd_parity pvk) (clear_block settings s pin_key) (validation_cipher settings s pvk) l l' p p') room k e
