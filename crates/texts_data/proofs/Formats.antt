-- The reader of a format is exact.
-- Assumes nothing.
use Prim.Native.Nat.{ℕ, ◌≤◌}
use native.Mathlib.Omega.{arith}
use mathlib.Core.Path.{◌≡◌, refl, sym, ap, ◌∙◌}
use mathlib.Core.List.{List, ◌++◌}
use mathlib.Core.Logic.{inl, inr}
use mathlib.Core.Bool.{Bool, true, false, cond, false≢true}
use lib.ListN.{length}
use lib.Dec.{eqb}
use borrow.Author.Tests.{eqb-true}
use Rattle.numbers.specs.Numbers.{done, and_then, unless}
use Rattle.numbers.specs.declared.Refusal.TheVariants.{Field15, NotHere69}
use Rattle.numbers.proofs.Laws.{then_done, passed, value_of_lem}
use Rattle.codes.specs.Codes.{code_of, format_of}
use Rattle.formats.specs.declared.Format.{Format}
use Rattle.formats.specs.declared.Format.TheVariants.{F01, F03, F05, F34, F35, F47}
use Rattle.codes.specs.declared.Code.{Code}
use Rattle.codes.specs.declared.Code.TheVariants.{Built, Known, Unknown}
use Rattle.fields.specs.Fields.{number}
use Rattle.formatfield.specs.FormatField.{allows, format_field}
use Rattle.texts.specs.Texts.{as_two_digits}
use Rattle.texts.specs.Exact.{Opens, Exact}
use Rattle.texts.proofs.Closing.{apart_of}
use Rattle.texts.proofs.Readers.{number_exact}
use Rattle.texts_data.specs.DataTexts.{format_text, Allows}
use Rattle.texts_data.specs.DataWritings.{formats}

-- the number that a format's two digits make
number_of : Format → ℕ
number_of F01 = 1
number_of F03 = 3
number_of F05 = 5
number_of F34 = 34
number_of F35 = 35
number_of F47 = 47

text_number : (f : Format) → (format_text f ≡ as_two_digits (number_of f)) × (number_of f ≤ 99) × (code_of (number_of f) ≡ Built f)
unfolding number_of code_of
text_number F01 = (refl, omega arith, refl)
text_number F03 = (refl, omega arith, refl)
text_number F05 = (refl, omega arith, refl)
text_number F34 = (refl, omega arith, refl)
text_number F35 = (refl, omega arith, refl)
text_number F47 = (refl, omega arith, refl)

-- no other number is a format that is built
code_only : (v : ℕ) (f : Format) → code_of v ≡ Built f → v ≡ number_of f
unfolding code_of number_of
code_only v f e = by (eqb v 1) (eqb v 3) (eqb v 5) (eqb v 34) (eqb v 35) (eqb v 47) (eqb v 41) (eqb v 42) (eqb v 48) refl refl refl refl refl refl e
  where
    named : (g : Format) → v ≡ number_of g → Built g ≡ Built f → v ≡ number_of f
    named g p h = p ∙ ap number_of (let z : g ≡ f = cc in z)

    unbuilt : (x y z : Bool) → cond x Known (cond y Known (cond z Known Unknown)) ≡ Built f → ⊥
    unbuilt true y z h = let z : ◌≡◌ {A = ℕ} 0 1 = cc in omega arith
    unbuilt false true z h = let z : ◌≡◌ {A = ℕ} 0 1 = cc in omega arith
    unbuilt false false true h = let z : ◌≡◌ {A = ℕ} 0 1 = cc in omega arith
    unbuilt false false false h = let z : ◌≡◌ {A = ℕ} 0 1 = cc in omega arith

    by : (a b c d g h x y z : Bool) → eqb v 1 ≡ a → eqb v 3 ≡ b → eqb v 5 ≡ c → eqb v 34 ≡ d → eqb v 35 ≡ g → eqb v 47 ≡ h
        → cond a (Built F01) (cond b (Built F03) (cond c (Built F05) (cond d (Built F34) (cond g (Built F35) (cond h (Built F47) (cond x Known (cond y Known (cond z Known Unknown)))))))) ≡ Built f
        → v ≡ number_of f
    by true b c d g h x y z p₁ p₂ p₃ p₄ p₅ p₆ e = named F01 (eqb-true v 1 p₁) e
    by false true c d g h x y z p₁ p₂ p₃ p₄ p₅ p₆ e = named F03 (eqb-true v 3 p₂) e
    by false false true d g h x y z p₁ p₂ p₃ p₄ p₅ p₆ e = named F05 (eqb-true v 5 p₃) e
    by false false false true g h x y z p₁ p₂ p₃ p₄ p₅ p₆ e = named F34 (eqb-true v 34 p₄) e
    by false false false false true h x y z p₁ p₂ p₃ p₄ p₅ p₆ e = named F35 (eqb-true v 35 p₅) e
    by false false false false false true x y z p₁ p₂ p₃ p₄ p₅ p₆ e = named F47 (eqb-true v 47 p₆) e
    by false false false false false false x y z p₁ p₂ p₃ p₄ p₅ p₆ e = absurd (unbuilt x y z e)

-- which are allowed
allowed_back : (restricted : Bool) (f : Format) → Allows restricted f → allows restricted f ≡ true
allowed_back false f g = refl
allowed_back true f (inl e) = rw e
allowed_back true f (inr (inl e)) = rw e
allowed_back true f (inr (inr z)) = absurd z

allowed_only : (restricted : Bool) (f : Format) → allows restricted f ≡ true → Allows restricted f
allowed_only false f h = tt
allowed_only true F01 h = inl refl
allowed_only true F03 h = absurd (false≢true h)
allowed_only true F05 h = absurd (false≢true h)
allowed_only true F34 h = absurd (false≢true h)
allowed_only true F35 h = absurd (false≢true h)
allowed_only true F47 h = inr (inl refl)

format_back : (restricted : Bool) (f : Format) (rest : List ℕ) → Allows restricted f → format_field restricted (format_text f ++ rest) ≡ done (f, length (format_text f))
unfolding format_field
format_back restricted f rest g =
    let t = text_number f in
    rw (t.0, (number_exact 0 99 Field15 (omega arith)).back (number_of f) rest (omega arith, t.1), t.2, allowed_back restricted f g)

format_only : (restricted : Bool) (cs : List ℕ) (f : Format) (n : ℕ) → format_field restricted cs ≡ done (f, n) → Opens (formats restricted) cs n f
unfolding format_field
format_only restricted cs f n e =
    let t = then_done (number 0 99 Field15 cs) (λ (code : ℕ × ℕ). and_then (format_of (code_of code.0)) (λ (f : Format). unless NotHere69 (allows restricted f) (f, code.1))) (f, n) e in
    let u = then_done (format_of (code_of t.0.0)) (λ (f : Format). unless NotHere69 (allows restricted f) (f, t.0.1)) (f, n) t.2 in
    let w = passed {A = Format × ℕ} NotHere69 (allows restricted u.0) (u.0, t.0.1) (f, n) u.2 in
    let o = (number_exact 0 99 Field15 (omega arith)).only cs t.0.0 t.0.1 t.1 in
    let same : u.0 ≡ f = ap (λ (r : Format × ℕ). r.0) w.1 in
    let code : t.0.0 ≡ number_of f = code_only t.0.0 f (built (code_of t.0.0) f (u.1 ∙ ap done same)) in
    let text : as_two_digits o.part ≡ format_text f = ap as_two_digits (sym o.same ∙ code) ∙ sym (text_number f).0 in
    record {
      part = f;
      rest = o.rest;
      good = allowed_only restricted f (ap (allows restricted) (sym same) ∙ w.0);
      whole = o.whole ∙ ap (λ (t : List ℕ). t ++ o.rest) text;
      count = sym (ap (λ (r : Format × ℕ). r.1) w.1) ∙ o.count ∙ ap length text;
      same = refl;
    }
  where
    built : (c : Code) (f : Format) → format_of c ≡ done f → c ≡ Built f
    built (Built g) f h = ap Built (value_of_lem h)
    built Known f h = absurd (let z : ◌≡◌ {A = ℕ} 0 1 = cc in omega arith)
    built Unknown f h = absurd (let z : ◌≡◌ {A = ℕ} 0 1 = cc in omega arith)

pub format_exact : (restricted : Bool) → Exact (format_field restricted) (formats restricted)
format_exact restricted = record {
  back = format_back restricted;
  only = format_only restricted;
  apart = apart_of (format_field restricted) (formats restricted) (format_back restricted) (λ _ _ _ _ _ _ _ v. v);
}
