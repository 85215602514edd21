-- What stands behind the PIN block is judged alike, its faults with it, where what is ahead is the same and the commands end in the same
-- place.
-- Assumes nothing.
use Prim.Native.Nat.{ℕ, ◌+◌}
use mathlib.Core.Path.{◌≡◌, refl, sym, ap, ◌∙◌}
use mathlib.Core.List.{List}
use mathlib.Core.Bool.{Bool}
use lib.ListN.{length, drop}
use lib.Seq.{drop-drop}
use Rattle.alphabet.specs.declared.Class.TheVariants.{Digit}
use Rattle.numbers.specs.Numbers.{done, refused}
use Rattle.numbers.specs.declared.Refusal.TheVariants.{Field15, Table25}
use Rattle.fields.specs.Fields.{Found, Stage, read, faulty, field, fielded, onward, run, number, trailer}
use Rattle.lmk.specs.Lmk.{lmk_field}
use Rattle.keyfields.specs.declared.Keys.{Keys}
use Rattle.validationfield.specs.ValidationField.{validation_field}
use Rattle.weakfield.specs.WeakField.{weak_field}
use Rattle.offsetfield.specs.OffsetField.{offset_field}
use Rattle.sealed.specs.declared.Sealed.{Sealed}
use Rattle.offsetting.specs.Offsetting.{offsetting}
use Rattle.weaklist.specs.WeakList.{weak}
use Rattle.endings.specs.Endings.{end}
use Rattle.bkfields.specs.BkFields.{weak_mark}
use Rattle.uses.specs.declared.Use.{Use}
use Rattle.texts_stages.proofs.Stages.{inputs_exact, weak_stage_exact}
use Rattle.claims_commands.proofs.Listing.{bk_layout}
use Rattle.claims_commands.proofs.VerifyLayout.{verify_layout}

-- a field and a stage, where what comes next is alike
fielded_alike : {A B : Type 0} (k at : ℕ) (o : Found A) (next next' : A → ℕ → Stage B) → ((a : A) (n : ℕ) → next a (at + n) ≡ next' a (at + n)) → fielded k at o next ≡ fielded k at o next'
fielded_alike k at (done r) next next' same = same r.0 r.1
fielded_alike k at (refused q) next next' same = refl

pub onward_alike : {A B : Type 0} (x y : Stage A) (next next' : A → ℕ → Stage B) → x ≡ y → ((a : A) (past : ℕ) → x ≡ read a past → next a past ≡ next' a past) → onward x next ≡ onward y next'
onward_alike (read a past) y next next' e same = same a past refl ∙ ap (λ (z : Stage _). onward z next') e
onward_alike (faulty f) y next next' e same = ap (λ (z : Stage _). onward z next') e

module _ (s t : List ℕ) where
  -- the same further on
  pub further : (at n : ℕ) → drop at s ≡ drop at t → drop (at + n) s ≡ drop (at + n) t
  further at n e = sym (drop-drop n at s) ∙ ap (drop n) e ∙ drop-drop n at t

  field_alike : {A B : Type 0} (k at : ℕ) (reader : List ℕ → Found A) (next next' : A → ℕ → Stage B) → drop at s ≡ drop at t
      → ((a : A) (n : ℕ) → drop (at + n) s ≡ drop (at + n) t → next a (at + n) ≡ next' a (at + n)) → field k reader s at next ≡ field k reader t at next'
  field_alike k at reader next next' e same = rw e (fielded_alike k at (reader (drop at t)) next next' (λ a n. same a n (further at n e)))

  -- ---- the stages behind the block

  offsetting_alike : (at : ℕ) → drop at s ≡ drop at t → offsetting 6 s at ≡ offsetting 6 t at
  unfolding offsetting
  offsetting_alike at e =
      field_alike 6 at (number 4 12 Field15) _ _ e
      (λ _ n₁ e₁. field_alike 7 (at + n₁) (run Digit Field15 Field15 12) _ _ e₁
      (λ _ n₂ e₂. field_alike 8 (at + n₁ + n₂) (run Digit Field15 Table25 16) _ _ e₂
      (λ _ n₃ e₃. field_alike 9 (at + n₁ + n₂ + n₃) validation_field _ _ e₃ (λ _ _ _. refl))))

  weak_alike : (at : ℕ) → drop at s ≡ drop at t → weak 10 weak_mark s at ≡ weak 10 weak_mark t at
  unfolding weak
  weak_alike at e = field_alike 10 at (weak_field weak_mark at) _ _ e (λ _ _ _. refl)

  end_alike : (ks : Keys) (at : ℕ) → length s ≡ length t → drop at s ≡ drop at t → end 11 ks s at ≡ end 11 ks t at
  unfolding end
  end_alike ks at long e =
      field_alike 11 at lmk_field _ _ e
      (λ _ n₁ e₁. field_alike 12 (at + n₁) trailer _ _ e₁ (λ _ _ _. rw long))

  -- where a stage that was read goes on
  past_inputs : (at : ℕ) → drop at s ≡ drop at t → (x : _) (past : ℕ) → offsetting 6 s at ≡ read x past → drop past s ≡ drop past t
  past_inputs at e x past r = let h = (inputs_exact 6 s at).only x past r in rw h.1 (further at h.0 e)

  past_weak : (at : ℕ) → drop at s ≡ drop at t → (x : _) (past : ℕ) → weak 10 weak_mark s at ≡ read x past → drop past s ≡ drop past t
  past_weak at e x past r = let h = (weak_stage_exact 10 weak_mark s at).only x past r in rw h.1 (further at h.0 e)

  -- ---- the commands behind the block

  module _ (ks : Keys) (block : Sealed) (at : ℕ) (long : length s ≡ length t) (e : drop at s ≡ drop at t) where
    pub bk_tail_lem : (restricted : Bool) → ((bk_layout restricted).tail ks block).stage s at ≡ ((bk_layout restricted).tail ks block).stage t at
    bk_tail_lem restricted =
        onward_alike (offsetting 6 s at) (offsetting 6 t at) _ _ (offsetting_alike at e)
        (λ inputs at₁₀ r. let e₁₀ = past_inputs at e inputs at₁₀ r in onward_alike (weak 10 weak_mark s at₁₀) (weak 10 weak_mark t at₁₀) _ _ (weak_alike at₁₀ e₁₀)
        (λ pins at₁₁ r₂. onward_alike (end 11 ks s at₁₁) (end 11 ks t at₁₁) _ _ (end_alike ks at₁₁ long (past_weak at₁₀ e₁₀ pins at₁₁ r₂)) (λ _ _ _. refl)))

    pub verify_tail_lem : (pin_key : Use) → ((verify_layout pin_key).tail ks block).stage s at ≡ ((verify_layout pin_key).tail ks block).stage t at
    verify_tail_lem pin_key =
        onward_alike (offsetting 6 s at) (offsetting 6 t at) _ _ (offsetting_alike at e)
        (λ inputs at₁₀ r. field_alike 10 at₁₀ offset_field _ _ (past_inputs at e inputs at₁₀ r)
        (λ digits n e₁₁. onward_alike (end 11 ks s (at₁₀ + n)) (end 11 ks t (at₁₀ + n)) _ _ (end_alike ks (at₁₀ + n) long e₁₁) (λ _ _ _. refl)))
