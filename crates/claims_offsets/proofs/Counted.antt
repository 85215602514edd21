-- What validation data are, by counting.
-- Assumes nothing.
use Prim.Native.Nat.{ℕ, suc, ◌+◌, ◌≤◌}
use native.Mathlib.Omega.{arith}
use mathlib.Core.Path.{◌≡◌, refl, sym, ap, ◌∙◌}
use mathlib.Core.Logic.{◌↔◌, ◌⊎◌, inl, inr, ⊎_elim}
use mathlib.Core.List.{List, [], ◌∷◌}
use mathlib.Core.Bool.{Bool, true, false, ◌&&◌, cond, false≢true}
use lib.ListN.{length, get_or, drop}
use lib.Dec.{eqb}
use borrow.Author.Tests.{le-leb, eq-eqb, eqb-true, ne_eqb}
use Rattle.nibbles.specs.Nibbles.{packs, leading}
use Rattle.nibbles.proofs.Lists.{and_left, and_right}
use Rattle.alphabet.specs.Alphabet.{admits, all_of}
use Rattle.alphabet.specs.declared.Class.TheVariants.{CapitalHex}
use Rattle.numbers.specs.Numbers.{done, and_then}
use Rattle.numbers.specs.Promise.{quietly}
use Rattle.validation.specs.Validation.{letter_p, hex_end, is_template, is_whole, shape_of, validation_row, validation_block}
use Rattle.claims_offsets.specs.Counted.{how_many, hexes, ens, ElevenAndN, PAndSixteen, ValidationExactly}

-- ---- counting

abbrev is_hex : ℕ → Bool
is_hex c = admits CapitalHex c

abbrev is_n : ℕ → Bool
is_n c = eqb c 0x4E

counts : (test : ℕ → Bool) (c : ℕ) (cs : List ℕ) → test c ≡ true → how_many test (c ∷ cs) ≡ suc (how_many test cs)
counts test c cs h = rw h refl

skips : (test : ℕ → Bool) (c : ℕ) (cs : List ℕ) → test c ≡ false → how_many test (c ∷ cs) ≡ how_many test cs
skips test c cs h = rw h refl

-- no hex character is an N, and none is a P
hex_no_n : (c : ℕ) → is_hex c ≡ true → is_n c ≡ false
hex_no_n c h = ne_eqb c 0x4E (λ e. false≢true (ap is_hex (sym e) ∙ h))

-- never more than there are characters, both together
most : (cs : List ℕ) → hexes cs + ens cs ≤ length cs
most [] = omega arith
most (c ∷ cs) = by (most cs) (is_hex c) (is_n c) refl refl
  where
    by : hexes cs + ens cs ≤ length cs → (h n : Bool) → is_hex c ≡ h → is_n c ≡ n → hexes (c ∷ cs) + ens (c ∷ cs) ≤ suc (length cs)
    by m true n h e = rw (counts is_hex c cs h, skips is_n c cs (hex_no_n c h)) (omega arith)
    by m false true h e = rw (skips is_hex c cs h, counts is_n c cs e) (omega arith)
    by m false false h e = rw (skips is_hex c cs h, skips is_n c cs e) (omega arith)

-- all are hex where as many are as there are characters
all_counted : (cs : List ℕ) → (all_of CapitalHex cs ≡ true) ↔ (hexes cs ≡ length cs)
unfolding all_of
all_counted [] = (λ _. refl, λ _. refl)
all_counted (c ∷ cs) = by (all_counted cs) (most cs) (is_hex c) refl
  where
    by : ((all_of CapitalHex cs ≡ true) ↔ (hexes cs ≡ length cs)) → hexes cs + ens cs ≤ length cs → (h : Bool) → is_hex c ≡ h → (all_of CapitalHex (c ∷ cs) ≡ true) ↔ (hexes (c ∷ cs) ≡ suc (length cs))
    by rest m true h = (
      λ a. counts is_hex c cs h ∙ ap suc (rest.0 (and_right (is_hex c) (all_of CapitalHex cs) a)),
      λ n. rw h (rest.1 (omega (arith, counts is_hex c cs h, n))),
    )
    by rest m false h = (
      λ a. absurd (false≢true (sym h ∙ and_left (is_hex c) (all_of CapitalHex cs) a)),
      λ n. absurd (omega (arith, skips is_hex c cs h, n, m)),
    )

-- ---- one N among hex characters

-- hex characters, an N, and hex characters again, as the definition says it
abbrev around_n : List ℕ → Bool
around_n cs = eqb (get_or cs (hex_end cs) 0) 0x4E && all_of CapitalHex (drop (suc (hex_end cs)) cs)

around_hex : (c : ℕ) (cs : List ℕ) → is_hex c ≡ true → around_n (c ∷ cs) ≡ around_n cs
unfolding leading
around_hex c cs h = rw h refl

around_other : (c : ℕ) (cs : List ℕ) → is_hex c ≡ false → around_n (c ∷ cs) ≡ (is_n c && all_of CapitalHex cs)
unfolding leading
around_other c cs h = rw h refl

-- one N, and every other character hex
abbrev OneN : List ℕ → Type 0
OneN cs = (suc (hexes cs) ≡ length cs) × (ens cs ≡ 1)

one_n : (cs : List ℕ) → (around_n cs ≡ true) ↔ OneN cs
one_n [] = (λ h. absurd (false≢true h), λ o. absurd (let z = o.1 in omega arith))
one_n (c ∷ cs) = by (one_n cs) (most cs) (all_counted cs) (is_hex c) (is_n c) refl refl
  where
    by : ((around_n cs ≡ true) ↔ OneN cs) → hexes cs + ens cs ≤ length cs → ((all_of CapitalHex cs ≡ true) ↔ (hexes cs ≡ length cs)) → (h n : Bool) → is_hex c ≡ h → is_n c ≡ n → (around_n (c ∷ cs) ≡ true) ↔ OneN (c ∷ cs)
    by rest m all true n h e =
        let k = counts is_hex c cs h in
        let l = skips is_n c cs (hex_no_n c h) in (
          λ a. let o = rest.0 (sym (around_hex c cs h) ∙ a) in (omega (arith, k, o.0), l ∙ o.1),
          λ o. around_hex c cs h ∙ rest.1 (omega (arith, k, o.0), sym l ∙ o.1),
        )
    by rest m all false true h e =
        let k = skips is_hex c cs h in
        let l = counts is_n c cs e in
        let whole : around_n (c ∷ cs) ≡ all_of CapitalHex cs = around_other c cs h ∙ rw e refl in (
          λ a. let t = all.0 (sym whole ∙ a) in (omega (arith, k, t), omega (arith, l, t, m)),
          λ o. whole ∙ all.1 (omega (arith, k, o.0)),
        )
    by rest m all false false h e =
        let k = skips is_hex c cs h in
        let l = skips is_n c cs e in (
          λ a. absurd (false≢true (sym (around_other c cs h ∙ rw e refl) ∙ a)),
          λ o. absurd (omega (arith, k, l, o.0, o.1, m)),
        )

-- ---- the two kinds

template_counted : (cs : List ℕ) → (is_template cs ≡ true) ↔ ElevenAndN cs
template_counted cs = (
  λ t.
      let l = eqb-true (length cs) 12 (and_left (eqb (length cs) 12) (around_n cs) t) in
      let o = (one_n cs).0 (and_right (eqb (length cs) 12) (around_n cs) t) in
      (l, omega (arith, l, o.0), o.1),
  λ e. rw (eq-eqb (length cs) 12 e.0) ((one_n cs).1 (omega (arith, e.0, e.1), e.2)),
)

whole_counted : (cs : List ℕ) → eqb (get_or cs 0 0) letter_p ≡ true → (is_whole cs ≡ true) ↔ PAndSixteen cs
whole_counted [] p = absurd (false≢true p)
whole_counted (c ∷ cs) p = (
  λ w.
      let l = eqb-true (suc (length cs)) 17 (and_left (eqb (suc (length cs)) 17) (all_of CapitalHex cs) w) in
      let h = (all_counted cs).0 (and_right (eqb (suc (length cs)) 17) (all_of CapitalHex cs) w) in
      (cs, ap (λ (x : ℕ). x ∷ cs) (eqb-true c letter_p p), omega (arith, l), omega (arith, l, h)),
  λ e.
      let same : cs ≡ e.0 = ap (drop 1) e.1 in
      let l : length cs ≡ 16 = ap length same ∙ e.2 in
      rw (eq-eqb (suc (length cs)) 17 (omega (arith, l))) ((all_counted cs).1 (ap hexes same ∙ e.3 ∙ sym l)),
)

-- what begins with a P is no eleven and an N: it would be a thirteenth character
no_p : (cs : List ℕ) → eqb (get_or cs 0 0) letter_p ≡ true → ElevenAndN cs → ⊥
no_p [] p e = false≢true p
no_p (c ∷ cs) p e =
    let first = eqb-true c letter_p p in
    let k = skips is_hex c cs (ap is_hex first) in
    let l = skips is_n c cs (ap is_n first) in
    omega (arith, k, l, e.0, e.1, e.2, most cs)

-- and what does not, is no P and sixteen
no_other : (cs : List ℕ) → eqb (get_or cs 0 0) letter_p ≡ false → PAndSixteen cs → ⊥
no_other cs p e = false≢true (sym p ∙ ap (λ (x : List ℕ). eqb (get_or x 0 0) letter_p) e.1)

-- what the definitions judge: by the first character, the one kind or the other
abbrev valid : List ℕ → Bool
valid cs = cond (eqb (get_or cs 0 0) letter_p) (is_whole cs) (is_template cs)

valid_counted : (cs : List ℕ) → (valid cs ≡ true) ↔ (ElevenAndN cs ⊎ PAndSixteen cs)
valid_counted cs = by (eqb (get_or cs 0 0) letter_p) refl
  where
    by : (b : Bool) → eqb (get_or cs 0 0) letter_p ≡ b → (cond b (is_whole cs) (is_template cs) ≡ true) ↔ (ElevenAndN cs ⊎ PAndSixteen cs)
    by true p = (λ w. inr ((whole_counted cs p).0 w), ⊎_elim (λ e. absurd (no_p cs p e)) (whole_counted cs p).1)
    by false p = (λ t. inl ((template_counted cs).0 t), ⊎_elim (template_counted cs).1 (λ e. absurd (no_other cs p e)))

-- ---- the call

row_number : (digits cs : List ℕ) → (quietly (and_then (validation_row digits cs) (λ ns. done (packs ns)))).number ≡ cond (valid cs) 0 15
unfolding shape_of validation_row
row_number digits cs = by (eqb (get_or cs 0 0) letter_p) (is_whole cs) (is_template cs) refl refl refl
  where
    by : (p w t : Bool) → eqb (get_or cs 0 0) letter_p ≡ p → is_whole cs ≡ w → is_template cs ≡ t → (quietly (and_then (validation_row digits cs) (λ ns. done (packs ns)))).number ≡ cond (valid cs) 0 15
    by true true t e f g = rw (e, f) refl
    by true false t e f g = rw (e, f) refl
    by false w true e f g = rw (e, g) refl
    by false w false e f g = rw (e, g) refl

-- 0 and 15 by a test
else_15 : (n : ℕ) (t : Bool) (C : Type 0) → n ≡ cond t 0 15 → (t ≡ true) ↔ C → ((n ≡ 0) ↔ C) × ((C → ⊥) → n ≡ 15)
else_15 n true C e h = ((λ _. h.0 refl, λ _. e), λ r. absurd (r (h.0 refl)))
else_15 n false C e h = ((λ z. absurd (omega (arith, e, z)), λ c. absurd (false≢true (h.1 c))), λ _. e)

pub validation_exactly : ValidationExactly
unfolding validation_block
validation_exactly validation account digits room a r =
    else_15 (quietly (validation_block validation account room)).number (valid validation) (ElevenAndN validation ⊎ PAndSixteen validation)
    (rw (le-leb 8 room r, a) (row_number digits validation)) (valid_counted validation)
