-- The claims about the fields of BK, and of DA and EA.
-- Assumes nothing.
use Prim.Native.Nat.{ℕ, ◌+◌}
use mathlib.Core.Path.{◌≡◌, refl, sym, ap, ◌∙◌}
use mathlib.Core.List.{List, [], ◌∷◌, ◌++◌, map, append_assoc}
use lib.ListN.{length, drop}
use lib.Seq.{take_at, drop_at, drop-drop}
use Rattle.alphabet.specs.Alphabet.{value_of}
use Rattle.weak.specs.Weak.{entries, weak_pins}
use Rattle.bkfields.specs.BkFields.{bk_fields}
use Rattle.verifyfields.specs.VerifyFields.{verify_fields}
use Rattle.texts.specs.Texts.{together, Optional, absent, present, WherePresent, optional_text}
use Rattle.texts.proofs.Closing.{past_text, stands_at}
use Rattle.texts.proofs.Whole.{exactly}
use Rattle.texts_keys.specs.KeyTexts.{id_text}
use Rattle.texts_data.specs.DataTexts.{WeakList, no_pins, pins, weak_text, AreEntries, IsWeakList, mark_of_weak_list, weak_pins_of, format_text, presented_text}
use Rattle.texts_data.specs.DataWritings.{weak_in}
use Rattle.texts_stages.specs.StageTexts.{keys_text, sealed_text, inputs_text}
use Rattle.texts_stages.proofs.Stages.{inputs_stand}
use Rattle.claims_commands.specs.Runs.{key_for}
use Rattle.claims_exactly.specs.VerifyText.{front_text}
use Rattle.claims_exactly.specs.Claims.{bk_command, BkExactly, PartsStand, verify_command, VerifyExactly, VerifyPartsStand}
use Rattle.claims_exactly.proofs.BkFields.{bk_exact}
use Rattle.claims_exactly.proofs.VerifyFields.{verify_exact}

pub bk_exactly : BkExactly
bk_exactly restricted = exactly (bk_command restricted) (bk_fields restricted) (bk_exact restricted)

pub verify_exactly : VerifyExactly
verify_exactly w = exactly (verify_command w) (verify_fields (key_for w)) (verify_exact w)

-- ---- what stands at the places

entries_read : (n : ℕ) (es : List (List ℕ)) (rest : List ℕ) → AreEntries n es → entries (length es) n (together es ++ rest) ≡ map (map value_of) es
unfolding entries
entries_read n [] rest g = refl
entries_read n (e ∷ es) rest g =
    rw (append_assoc e (together es) rest, take_at e (together es ++ rest) n g.0.0, drop_at e (together es ++ rest) n g.0.0)
    (ap (λ (x : List (List ℕ)). map value_of e ∷ x) (entries_read n es rest g.1))

weak_read : (s : List ℕ) (at : ℕ) (w : Optional WeakList) (rest : List ℕ) → WherePresent IsWeakList w → drop at s ≡ optional_text mark_of_weak_list weak_text w ++ rest
    → weak_pins (weak_in at w) s ≡ weak_pins_of w
unfolding entries
weak_read s at absent rest g e = refl
weak_read s at (present no_pins) rest g e = refl
weak_read s at (present (pins n es)) rest g e = rw (sym (drop-drop 5 at s) ∙ ap (drop 5) e) (entries_read n es rest g.2)

pub parts_stand : PartsStand
parts_stand restricted s at₁ p g e₁ =
    let at₄ = at₁ + length (keys_text p.keys) in
    let at₆ = at₄ + length (sealed_text p.sealed) in
    let at₁₀ = at₆ + length (inputs_text p.inputs) in
    let weak = optional_text mark_of_weak_list weak_text p.weak in
    let at₁₁ = at₁₀ + length weak in
    let e₄ = past_text s at₁ (keys_text p.keys) _ e₁ in
    let e₆ = past_text s at₄ (sealed_text p.sealed) _ e₄ in
    let e₁₀ = past_text s at₆ (inputs_text p.inputs) _ e₆ in
    let e₁₁ = past_text s at₁₀ weak _ e₁₀ in
    record {
      block = stands_at s at₄ 16 p.sealed.block _ g.sealed.block.0 (e₄ ∙ append_assoc p.sealed.block (format_text p.sealed.format) _);
      inputs = inputs_stand s at₆ p.inputs _ g.inputs e₆;
      weak = weak_read s at₁₀ p.weak _ g.weak e₁₀;
      trailer = past_text s at₁₁ (id_text p.end.id) _ e₁₁;
    }

pub verify_parts_stand : VerifyPartsStand
verify_parts_stand w s at₁ p g e₁ =
    let at₄ = at₁ + length (front_text p.keys) in
    let at₆ = at₄ + length (sealed_text p.sealed) in
    let at₁₀ = at₆ + length (inputs_text p.inputs) in
    let at₁₁ = at₁₀ + length (presented_text p.offset) in
    let e₄ = past_text s at₁ (front_text p.keys) _ e₁ in
    let e₆ = past_text s at₄ (sealed_text p.sealed) _ e₄ in
    let e₁₀ = past_text s at₆ (inputs_text p.inputs) _ e₆ in
    let e₁₁ = past_text s at₁₀ (presented_text p.offset) _ e₁₀ in
    record {
      block = stands_at s at₄ 16 p.sealed.block _ g.sealed.block.0 (e₄ ∙ append_assoc p.sealed.block (format_text p.sealed.format) _);
      inputs = inputs_stand s at₆ p.inputs _ g.inputs e₆;
      offset = stands_at s at₁₀ (length p.offset) p.offset _ refl (e₁₀ ∙ append_assoc p.offset _ _);
      trailer = past_text s at₁₁ (id_text p.end.id) _ e₁₁;
    }
