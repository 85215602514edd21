-- The readers of key type, key and LMK id are exact.
-- Assumes nothing.
use Rattle.std.specs.Prelude.{Option, Some, None}
use Prim.Native.Nat.{ℕ, suc, ◌≤◌}
use native.Mathlib.Omega.{arith}
use mathlib.Core.Path.{◌≡◌, refl, sym, ap, ◌∙◌}
use mathlib.Core.Logic.{inl, inr, ◌↔◌}
use mathlib.Core.List.{List, [], ◌∷◌, ◌++◌}
use mathlib.Core.Bool.{Bool, true, false, cond, ◌&&◌}
use lib.ListN.{length, get_or, drop}
use lib.Dec.{eqb}
use borrow.Author.Tests.{eqb-true, eq-eqb}
use Rattle.nibbles.proofs.Lists.{and_left, and_right}
use Rattle.alphabet.specs.Alphabet.{admits, begins}
use Rattle.alphabet.specs.declared.Class.TheVariants.{CapitalHex}
use Rattle.numbers.specs.Numbers.{done, refused}
use Rattle.numbers.specs.declared.Refusal.TheVariants.{Field15}
use Rattle.numbers.proofs.Laws.{value_of_lem}
use Rattle.fields.specs.Fields.{Found, run, number, marked}
use Rattle.lmk.specs.Lmk.{lmk_mark, lmk_field, agree}
use Rattle.uses.specs.Uses.{pin_key, pvk, terminal_key, zone_key, verifying_pvk}
use Rattle.uses.specs.declared.Use.{Use}
use Rattle.keyblocks.specs.KeyBlocks.{key_block}
use Rattle.keys.specs.Keys as reader
use Rattle.keys.specs.Keys.{only_u_or_t, only_s, any_letter, key_type, hex_key, letter_u, letter_t, letter_s, admitted, lettered, key}
use Rattle.keys.specs.declared.Letters.{Letters}
use Rattle.texts.specs.Texts.{Run, Optional, absent, present}
use Rattle.texts.specs.Exact.{Writing, Opens, Exact}
use Rattle.texts.specs.Joining.{Same, mapped, either}
use Rattle.texts.specs.Writings.{runs, numbers}
use Rattle.texts.proofs.Runs.{begins_split, all_first}
use Rattle.texts.proofs.Closing.{apart_of, exact_as}
use Rattle.texts.proofs.Readers.{mapped_exact, some_exact, either_exact, optional_exact, run_exact, number_exact}
use Rattle.texts_keys.specs.KeyTexts.{KeyType, is001, is002, isFFF, type_text, pin_key_rule, pvk_rule, terminal_key_rule, zone_key_rule, verifying_pvk_rule, Key, bare, double, triple, block, key_text, Wants, HasLetter, key_ids, own_ids, AllSame}
use Rattle.texts_keys.specs.KeyWritings.{letters_of, types, rule_for, blocks, Admits, lmk_of, keyed, ids, ids_read}
use Rattle.texts_keys.proofs.KeyBlocks.{block_exact}

-- ---- key type

-- a text tells its type
type_of : List ℕ → KeyType
type_of cs = cond (begins (type_text is001) cs) is001 (cond (begins (type_text is002) cs) is002 isFFF)

type_told : (p : KeyType) → type_of (type_text p) ≡ p
unfolding type_of begins
type_told is001 = refl
type_told is002 = refl
type_told isFFF = refl

type_back : (p : KeyType) (rest : List ℕ) → key_type (type_text p ++ rest) ≡ done (letters_of p, length (type_text p))
unfolding key_type begins
type_back is001 rest = refl
type_back is002 rest = refl
type_back isFFF rest = refl

type_only : (cs : List ℕ) (l : Letters) (n : ℕ) → key_type cs ≡ done (l, n) → Opens types cs n l
unfolding key_type
type_only cs l n e = by (begins reader.type001 cs) (begins reader.type002 cs) (begins reader.type_fff cs) refl refl refl e
  where
    opened : (p : KeyType) → begins (type_text p) cs ≡ true → ◌≡◌ {A = Found Letters} (done (letters_of p, length (type_text p))) (done (l, n)) → Opens types cs n l
    opened p h e =
        let w = value_of_lem e in
        record { part = p; rest = drop (length (type_text p)) cs; good = tt; whole = begins_split (type_text p) cs h; count = sym (ap (λ (r : Letters × ℕ). r.1) w); same = sym (ap (λ (r : Letters × ℕ). r.0) w) }

    by : (x y z : Bool) → begins reader.type001 cs ≡ x → begins reader.type002 cs ≡ y → begins reader.type_fff cs ≡ z
        → cond {A = Found Letters} x (done (only_u_or_t, 3)) (cond y (done (only_u_or_t, 3)) (cond z (done (only_s, 3)) (refused Field15))) ≡ done (l, n) → Opens types cs n l
    by true y z hx hy hz e = opened is001 hx e
    by false true z hx hy hz e = opened is002 hy e
    by false false true hx hy hz e = opened isFFF hz e
    by false false false hx hy hz e = absurd (let z : ◌≡◌ {A = ℕ} 0 1 = cc in omega arith)

pub type_exact : Exact key_type types
type_exact = record {
  back = λ p rest g. type_back p rest;
  only = type_only;
  apart = apart_of key_type types (λ p rest g. type_back p rest) (λ p q _ _ _ _ t _. sym (type_told p) ∙ ap type_of t ∙ type_told q);
}

-- ---- keys

abbrev hex : ℕ → Writing (Option ℕ)
hex n = mapped (λ _. None) (runs CapitalHex n)

hex_exact : (n : ℕ) → Exact (hex_key n) (hex n)
unfolding hex_key
hex_exact n = mapped_exact (λ _. None) (run CapitalHex Field15 Field15 n) (runs CapitalHex n) (run_exact CapitalHex Field15 Field15 n)

-- a bare key begins with a hex character, so it has no letter
bare_first : (n : ℕ) (cs rest : List ℕ) → Run CapitalHex (suc n) cs → admits CapitalHex (get_or (cs ++ rest) 0 0) ≡ true
bare_first n [] rest g = absurd (omega (arith, g.0))
bare_first n (c ∷ cs) rest g = (all_first CapitalHex c cs g.1).0

-- what a field may not admit
abbrev gated : Bool → Writing (Option ℕ) → Writing (Option ℕ)
gated b w = record { Part = w.Part; fine = λ p rest. (b ≡ true) × w.fine p rest; text = w.text; value = w.value }

admitted_exact : (b : Bool) (reader : List ℕ → Found (Option ℕ)) (w : Writing (Option ℕ)) → Exact reader w → Exact (λ cs. admitted b (reader cs)) (gated b w)
admitted_exact b reader w x = record {
  back = λ p rest g. rw g.0 (x.back p rest g.1);
  only = only b;
  apart = λ p q rest rest' g h e. x.apart p q rest rest' g.1 h.1 e;
}
  where
    only : (b : Bool) (cs : List ℕ) (l : Option ℕ) (n : ℕ) → admitted b (reader cs) ≡ done (l, n) → Opens (gated b w) cs n l
    only true cs l n e =
        let o = x.only cs l n e in
        record { part = o.part; rest = o.rest; good = (refl, o.good); whole = o.whole; count = o.count; same = o.same }
    only false cs l n e = absurd (let z : ◌≡◌ {A = ℕ} 0 1 = cc in omega arith)

-- a bare key, whose first character the reader looks at before
bare_exact : (b : Bool) → Exact (λ cs. admitted (b && admits CapitalHex (get_or cs 0 0)) (hex_key 32 cs)) (gated b (hex 32))
bare_exact b = record {
  back = λ p rest g. rw (g.0, bare_first 31 p rest g.1) ((hex_exact 32).back p rest g.1);
  only = λ cs l n e. only cs l n (b && admits CapitalHex (get_or cs 0 0)) refl e;
  apart = λ p q rest rest' g h e. (hex_exact 32).apart p q rest rest' g.1 h.1 e;
}
  where
    only : (cs : List ℕ) (l : Option ℕ) (n : ℕ) (t : Bool) → (b && admits CapitalHex (get_or cs 0 0)) ≡ t → admitted t (hex_key 32 cs) ≡ done (l, n) → Opens (gated b (hex 32)) cs n l
    only cs l n true h e =
        let o = (hex_exact 32).only cs l n e in
        record { part = o.part; rest = o.rest; good = (and_left b (admits CapitalHex (get_or cs 0 0)) h, o.good); whole = o.whole; count = o.count; same = o.same }
    only cs l n false h e = absurd (let z : ◌≡◌ {A = ℕ} 0 1 = cc in omega arith)

module _ (letters : Letters) (for : Use) where
  -- letter by letter
  abbrev by_letter : Writing (Option ℕ)
  by_letter =
      either letter_u (gated letters.double (hex 32))
      (either letter_t (gated letters.triple (hex 48))
      (either letter_s (gated letters.block (blocks for)) (gated letters.bare (hex 32))))

  letter_same : Same by_letter (keyed letters for)
  unfolding begins
  letter_same = record { to = to; text = text; value = value; good = good; from = from }
    where
      to : by_letter.Part → Key
      to (inl cs) = double cs
      to (inr (inl cs)) = triple cs
      to (inr (inr (inl k))) = block k
      to (inr (inr (inr cs))) = bare cs

      text : (p : by_letter.Part) → key_text (to p) ≡ by_letter.text p
      text (inl cs) = refl
      text (inr (inl cs)) = refl
      text (inr (inr (inl k))) = refl
      text (inr (inr (inr cs))) = refl

      value : (p : by_letter.Part) → (keyed letters for).value (to p) ≡ by_letter.value p
      value (inl cs) = refl
      value (inr (inl cs)) = refl
      value (inr (inr (inl k))) = refl
      value (inr (inr (inr cs))) = refl

      good : (p : by_letter.Part) (rest : List ℕ) → by_letter.fine p rest → (keyed letters for).fine (to p) rest
      good (inl cs) rest g = g
      good (inr (inl cs)) rest g = g.1
      good (inr (inr (inl k))) rest g = g.1.1
      good (inr (inr (inr cs))) rest g = g.1.1.1

      -- no letter is a hex character
      other : (m : ℕ) → admits CapitalHex m ≡ false → (cs rest : List ℕ) → Run CapitalHex 32 cs → marked m (cs ++ rest) ≡ false
      other m n [] rest g = absurd (omega (arith, g.0))
      other m n (c ∷ cs) rest g = apart (eqb m c) refl
        where
          apart : (b : Bool) → eqb m c ≡ b → (b && true) ≡ false
          apart true e = sym (all_first CapitalHex c cs g.1).0 ∙ ap (admits CapitalHex) (sym (eqb-true m c e)) ∙ n
          apart false e = refl

      from : (q : Key) (rest : List ℕ) → (keyed letters for).fine q rest → (p : by_letter.Part) × (to p ≡ q) × by_letter.fine p rest
      from (bare cs) rest g = (inr (inr (inr cs)), refl, (other letter_u refl cs rest g.1, (other letter_t refl cs rest g.1, (other letter_s refl cs rest g.1, g))))
      from (double cs) rest g = (inl cs, refl, g)
      from (triple cs) rest g = (inr (inl cs), refl, (refl, g))
      from (block k) rest g = (inr (inr (inl k)), refl, (refl, (refl, g)))

  lettered_exact : Exact (lettered letters for) (keyed letters for)
  unfolding lettered
  lettered_exact =
      exact_as by_letter (keyed letters for) letter_same (lettered letters for)
      (either_exact letter_u _ _ _ _ (admitted_exact letters.double (hex_key 32) (hex 32) (hex_exact 32))
      (either_exact letter_t _ _ _ _ (admitted_exact letters.triple (hex_key 48) (hex 48) (hex_exact 48))
      (either_exact letter_s _ _ _ _ (admitted_exact letters.block (key_block for) (blocks for) (block_exact for)) (bare_exact letters.bare))))

  pub key_exact : Exact (key letters for) (keyed letters for)
  unfolding key
  key_exact =
      some_exact Field15 (lettered letters for) (keyed letters for) lettered_exact some
    where
      some : (p : Key) (rest : List ℕ) → (keyed letters for).fine p rest → 1 ≤ length (key_text p)
      some (bare cs) rest g = omega (arith, g.1.0)
      some (double cs) rest g = omega arith
      some (triple cs) rest g = omega arith
      some (block k) rest g = omega arith

-- ---- LMK id

pub id_exact : Exact lmk_field ids
unfolding lmk_field
id_exact = optional_exact lmk_mark _ (mapped Some (numbers 0 9)) None (mapped_exact Some (number 0 9 Field15) (numbers 0 9) (number_exact 0 9 Field15 (omega arith)))

-- ---- in the paper's words

-- the letter itself, where there is one
abbrev lead : List ℕ → ℕ
lead cs = get_or cs 0 0

never_admitted : {A : Type 0} → false ≡ true → A
never_admitted e = absurd (let z : ◌≡◌ {A = ℕ} 0 1 = cc in omega arith)

hex_wanted : (k : Key) → Wants is001 k ↔ Admits only_u_or_t k
hex_wanted k = (to k, from k)
  where
    to : (k : Key) → Wants is001 k → Admits only_u_or_t k
    to (bare cs) (inl e) = absurd (omega (arith, ap lead e))
    to (bare cs) (inr (inl e)) = absurd (omega (arith, ap lead e))
    to (bare cs) (inr (inr z)) = absurd z
    to (double cs) w = refl
    to (triple cs) w = refl
    to (block k) (inl e) = absurd (omega (arith, ap lead e))
    to (block k) (inr (inl e)) = absurd (omega (arith, ap lead e))
    to (block k) (inr (inr z)) = absurd z

    from : (k : Key) → Admits only_u_or_t k → Wants is001 k
    from (bare cs) a = never_admitted a
    from (double cs) a = inl refl
    from (triple cs) a = inr (inl refl)
    from (block k) a = never_admitted a

block_wanted : (k : Key) → Wants isFFF k ↔ Admits only_s k
block_wanted k = (to k, from k)
  where
    to : (k : Key) → Wants isFFF k → Admits only_s k
    to (bare cs) (inl e) = absurd (omega (arith, ap lead e))
    to (bare cs) (inr z) = absurd z
    to (double cs) (inl e) = absurd (omega (arith, ap lead e))
    to (double cs) (inr z) = absurd z
    to (triple cs) (inl e) = absurd (omega (arith, ap lead e))
    to (triple cs) (inr z) = absurd z
    to (block k) w = refl

    from : (k : Key) → Admits only_s k → Wants isFFF k
    from (bare cs) a = never_admitted a
    from (double cs) a = never_admitted a
    from (triple cs) a = never_admitted a
    from (block k) a = inl refl

-- the keys that a type wants are those that its letters admit
pub wanted_admitted : (t : KeyType) (k : Key) → Wants t k ↔ Admits (letters_of t) k
wanted_admitted is001 k = hex_wanted k
wanted_admitted is002 k = hex_wanted k
wanted_admitted isFFF k = block_wanted k

-- where there is no type, those of any letter
pub letter_admitted : (k : Key) → HasLetter k ↔ Admits any_letter k
letter_admitted k = (to k, from k)
  where
    to : (k : Key) → HasLetter k → Admits any_letter k
    to (bare cs) (inl e) = absurd (omega (arith, ap lead e))
    to (bare cs) (inr (inl e)) = absurd (omega (arith, ap lead e))
    to (bare cs) (inr (inr (inl e))) = absurd (omega (arith, ap lead e))
    to (bare cs) (inr (inr (inr z))) = absurd z
    to (double cs) w = refl
    to (triple cs) w = refl
    to (block k) w = refl

    from : (k : Key) → Admits any_letter k → HasLetter k
    from (bare cs) a = never_admitted a
    from (double cs) a = inl refl
    from (triple cs) a = inr (inl refl)
    from (block k) a = inr (inr (inl refl))

-- the uses of PIN keys and of PVKs are the paper's rules
pub pin_key_ruled : rule_for pin_key ≡ pin_key_rule
pin_key_ruled = refl

pub pvk_ruled : rule_for pvk ≡ pvk_rule
pvk_ruled = refl

pub terminal_key_ruled : rule_for terminal_key ≡ terminal_key_rule
terminal_key_ruled = refl

pub zone_key_ruled : rule_for zone_key ≡ zone_key_rule
zone_key_ruled = refl

pub verifying_pvk_ruled : rule_for verifying_pvk ≡ verifying_pvk_rule
verifying_pvk_ruled = refl

-- the ids that are read are those that are present
pub key_ids_lem : (k : Key) → ids_read (lmk_of k) ≡ key_ids k
key_ids_lem (bare cs) = refl
key_ids_lem (double cs) = refl
key_ids_lem (triple cs) = refl
key_ids_lem (block k) = refl

pub own_ids_lem : (v : Optional ℕ) → ids_read (ids.value v) ≡ own_ids v
own_ids_lem absent = refl
own_ids_lem (present v) = refl

-- two agree where one is not there, or both are the same
agree_all : (a b c : Option ℕ) → (agree a b && (agree a c && agree b c)) ≡ true → AllSame (ids_read a ++ (ids_read b ++ ids_read c))
agree_all None None None h = tt
agree_all None None (Some z) h = tt
agree_all None (Some y) None h = tt
agree_all None (Some y) (Some z) h = (eqb-true y z h, tt)
agree_all (Some x) None None h = tt
agree_all (Some x) None (Some z) h = (eqb-true x z (and_left (eqb x z) true h), tt)
agree_all (Some x) (Some y) None h = (eqb-true x y (and_left (eqb x y) true h), tt)
agree_all (Some x) (Some y) (Some z) h =
    let more = and_right (eqb x y) (eqb x z && eqb y z) h in
    (eqb-true x y (and_left (eqb x y) (eqb x z && eqb y z) h), (eqb-true y z (and_right (eqb x z) (eqb y z) more), tt))

all_agree_lem : (a b c : Option ℕ) → AllSame (ids_read a ++ (ids_read b ++ ids_read c)) → (agree a b && (agree a c && agree b c)) ≡ true
all_agree_lem None None None h = refl
all_agree_lem None None (Some z) h = refl
all_agree_lem None (Some y) None h = refl
all_agree_lem None (Some y) (Some z) h = eq-eqb y z h.0
all_agree_lem (Some x) None None h = refl
all_agree_lem (Some x) None (Some z) h = rw (eq-eqb x z h.0)
all_agree_lem (Some x) (Some y) None h = rw (eq-eqb x y h.0)
all_agree_lem (Some x) (Some y) (Some z) h = rw (eq-eqb x y h.0, eq-eqb x z (h.0 ∙ h.1.0), eq-eqb y z h.1.0)

-- all that are present agree
pub ids_agree_lem : (a b c : Option ℕ) → ((agree a b && (agree a c && agree b c)) ≡ true) ↔ AllSame (ids_read a ++ (ids_read b ++ ids_read c))
ids_agree_lem a b c = (agree_all a b c, all_agree_lem a b c)
