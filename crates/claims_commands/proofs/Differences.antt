-- Offsets tell the digit differences and a PIN's place on the weak list, and nothing else.
-- Assumes nothing.
use Prim.Native.Nat.{ℕ, ◌+◌}
use native.Mathlib.Omega.{arith}
use mathlib.Core.Path.{◌≡◌, refl, sym, ap, ap₂, ◌∙◌}
use mathlib.Core.Logic.{◌⊎◌, inl, inr}
use mathlib.Core.List.{List}
use mathlib.Core.Bool.{Bool, true, false, not}
use lib.ListN.{length}
use Rattle.numbers.specs.Numbers.{done, unless}
use Rattle.numbers.specs.declared.Refusal.{Refusal}
use Rattle.numbers.specs.declared.Refusal.TheVariants.{Weak86}
use Rattle.numbers.proofs.Laws.{value_of_lem}
use Rattle.settings.specs.declared.Settings.{Settings}
use Rattle.ibm3624.specs.Ibm3624.{covers, offset_of}
use Rattle.weak.specs.Weak.{is_on, weak_pins}
use Rattle.bkfinish.specs.BkFinish.{bk_finish}
use Rattle.bkfields.specs.declared.Bk.{Bk}
use Rattle.claims_commands.specs.Runs.{Reads}
use Rattle.claims_commands.specs.Claims.{OffsetsTellDifferences}
use Rattle.claims_commands.proofs.Alike.{read_alike}
use Rattle.claims_commands.proofs.Told.{answer_alike}

-- two judgements by a test are alike exactly where both refuse, or neither does and the values are the same: to and fro
module _ {A : Type 0} (q : Refusal) (x y : A) where
  abbrev Same : Bool → Bool → Type 0
  Same a b = ((a ≡ true) × (b ≡ true)) ⊎ ((a ≡ false) × (b ≡ false) × (x ≡ y))

  unless_told : (a b : Bool) → unless q (not a) x ≡ unless q (not b) y → Same a b
  unless_told true true e = inl (refl, refl)
  unless_told true false e = absurd (let z : ◌≡◌ {A = ℕ} 0 1 = cc in omega arith)
  unless_told false true e = absurd (let z : ◌≡◌ {A = ℕ} 0 1 = cc in omega arith)
  unless_told false false e = inr (refl, refl, value_of_lem e)

  unless_same : (a b : Bool) → Same a b → unless q (not a) x ≡ unless q (not b) y
  unless_same a b (inl e) = rw (e.0, e.1)
  unless_same a b (inr e) = rw (e.0, e.1) (ap done e.2)

-- the finish of a run whose PIN is read and whose check length fits
finish_read :
    (settings : Settings) (g h : Bool) (room : ℕ) (s block enciphered : List ℕ) (r : Reads settings g h room s block enciphered) (m : ℕ)
    → covers settings.variable r.reaches.fields.offsetting.check (length r.found.0) ≡ done m
    → bk_finish settings.variable s r.reaches.fields r.reaches.rows
    ≡ unless Weak86 (not (is_on r.found.0 (weak_pins r.reaches.fields.weak s))) (offset_of m r.found.0 r.found.1)
unfolding bk_finish
finish_read settings g h room s block enciphered r m c = rw (r.paired, c)

pub offsets_tell_differences : OffsetsTellDifferences
offsets_tell_differences settings g h room room' s t block block' enciphered enciphered' r r' m alike long c =
    let a = r.reaches in
    let b = r'.reaches in
    let same = read_alike settings.restricted s t (settings.header + 2) a.fields b.fields a.past b.past a.read b.read alike in
    let here = finish_read settings g h room s block enciphered r m c in
    let there = finish_read settings g h room' t block' enciphered' r' m (ap₂ (λ (p : Bk) (n : ℕ). covers settings.variable p.offsetting.check n) (sym same) (sym long) ∙ c) in
    let answers = answer_alike settings g h room room' s t block block' enciphered enciphered' a b alike in
    let offset = offset_of m r.found.0 r.found.1 in
    let offset' = offset_of m r'.found.0 r'.found.1 in
    let weak = is_on r.found.0 (weak_pins a.fields.weak s) in
    let weak' = is_on r'.found.0 (weak_pins b.fields.weak t) in (
      λ e. unless_told Weak86 offset offset' weak weak' (sym here ∙ answers.0 e ∙ there),
      λ e. answers.1 (here ∙ unless_same Weak86 offset offset' weak weak' e ∙ sym there),
    )
