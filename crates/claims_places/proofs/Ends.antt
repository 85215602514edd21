-- A command whose first ten fields stand is judged at its end.
-- Assumes nothing.
use Prim.Native.Nat.{ℕ, ◌+◌}
use native.Mathlib.Omega.{arith}
use mathlib.Core.Path.{◌≡◌, sym, ◌∙◌, subst}
use mathlib.Core.List.{List, [], ◌∷◌, ◌++◌, append_assoc, append-nil}
use mathlib.Core.Bool.{Bool}
use lib.ListN.{length, take, drop, length-append}
use Rattle.fields.specs.Fields.{Stage, faulty}
use Rattle.fields.specs.declared.Fault.{Fault}
use Rattle.uses.specs.Uses.{pin_key, pvk, verifying_pvk}
use Rattle.keys.specs.Keys.{any_letter}
use Rattle.keyfields.specs.declared.Keys.{Keys}
use Rattle.endings.specs.Endings.{closed, end}
use Rattle.bkfields.specs.BkFields.{weak_mark, bk_fields}
use Rattle.verifyfields.specs.VerifyFields.{restricted, verify_fields}
use Rattle.texts.specs.Texts.{optional_text, trailer_text, together}
use Rattle.texts.specs.Writings.{trailers}
use Rattle.texts.proofs.Closing.{past_text}
use Rattle.texts.proofs.Readers.{trailer_exact}
use Rattle.texts_keys.specs.KeyTexts.{KeyRule, IsKey, id_text}
use Rattle.texts_keys.specs.KeyWritings.{ids}
use Rattle.texts_keys.proofs.KeyFields.{id_exact, letter_admitted}
use Rattle.texts_data.specs.DataTexts.{weak_text, mark_of_weak_list, maximum_text, presented_text}
use Rattle.texts_data.specs.DataWritings.{WeakFine}
use Rattle.texts_data.proofs.Offsets.{offset_exact}
use Rattle.texts_stages.specs.StageTexts.{pair_text, keys_text, sealed_text, inputs_text, EndFields, end_text}
use Rattle.texts_stages.specs.StageWritings.{keys_at}
use Rattle.texts_stages.proofs.Stages.{keys_exact, sealed_exact, inputs_exact, weak_stage_exact}
use Rattle.claims_commands.specs.Runs.{Verifying, key_for}
use Rattle.claims_exactly.specs.BkText.{BkParts, bk_text}
use Rattle.claims_exactly.specs.VerifyText.{VerifyParts, verify_text, pin_key_rule_of}
use Rattle.claims_exactly.proofs.VerifyFields.{key_ruled}
use Rattle.claims_places.specs.FieldTexts.{key_fields, sealed_fields, input_fields, bk_field_texts, verify_field_texts}
use Rattle.claims_places.specs.Begins.{AreBk, AreVerify}
use Rattle.claims_places.proofs.Stages.{ArePair}
use Rattle.claims_places.proofs.Between.{together_append}
use Rattle.claims_places.proofs.FieldTexts.{key_fields_lem, sealed_fields_lem, input_fields_lem}
use Rattle.claims_places.proofs.VerifyBegins.{front_at, front_exact, front_fields, front_fields_lem}

-- ---- the end, where it is read to its last byte

-- what is judged then are leftovers and ids
pub end_read : (ks : Keys) (s : List ℕ) (from : ℕ) (e : EndFields) (left : List ℕ) → ids.fine e.id (trailer_text e.trailer ++ left) → trailers.fine e.trailer left → drop from s ≡ end_text e ++ left
    → end 11 ks s from ≡ closed ks (ids.value e.id) 11 from s (from + length (id_text e.id)) (from + length (id_text e.id) + length (trailer_text e.trailer))
unfolding end
end_read ks s from e left g₁ g₂ w =
    let t₁ = id_text e.id in
    let t₂ = trailer_text e.trailer in
    let w₁ : drop from s ≡ t₁ ++ (t₂ ++ left) = w ∙ append_assoc t₁ t₂ left in
    rw (w₁, id_exact.back e.id (t₂ ++ left) g₁, past_text s from t₁ (t₂ ++ left) w₁, trailer_exact.back e.trailer left g₂)

-- ---- the ten fields before it

-- the end begins behind their texts, with these bytes ahead, and its fault is the command's
pub record Ends {A : Type 0} (command : Stage A) (ks : Keys) (s : List ℕ) (start : ℕ) (texts : List (List ℕ)) (ahead : List ℕ) : Type 0 where
  pub from : ℕ
  pub reached : from ≡ start + length (together (take 10 texts))
  pub bytes : drop from s ≡ ahead
  pub fault : (f : Fault) → end 11 ks s from ≡ faulty f → command ≡ faulty f

-- four texts, an end and what is left
in_four : (a b c d e left : List ℕ) → (a ++ (b ++ (c ++ (d ++ e)))) ++ left ≡ a ++ (b ++ (c ++ (d ++ (e ++ left))))
in_four a b c d e left = rw (append_assoc a (b ++ (c ++ (d ++ e))) left, append_assoc b (c ++ (d ++ e)) left, append_assoc c (d ++ e) left, append_assoc d e left)

-- the place behind four texts that are each made of some
behind_four : (start : ℕ) (a b c d : List ℕ) (ts us vs xs : List (List ℕ)) → a ≡ together ts → b ≡ together us → c ≡ together vs → d ≡ together xs
    → start + length a + length b + length c + length d ≡ start + length (together (ts ++ (us ++ (vs ++ xs))))
behind_four start a b c d ts us vs xs p q r t =
    rw (
      p,
      q,
      r,
      t,
      together_append ts (us ++ (vs ++ xs)),
      together_append us (vs ++ xs),
      together_append vs xs,
      length-append (together ts) (together us ++ (together vs ++ together xs)),
      length-append (together us) (together vs ++ together xs),
      length-append (together vs) (together xs),
    )
    (omega arith)

-- of a BK
pub bk_ends : (limited : Bool) (s : List ℕ) (start : ℕ) (p : BkParts) (left : List ℕ) → AreBk limited p → WeakFine weak_mark p.weak (end_text p.end ++ left) → drop start s ≡ bk_text p ++ left
    → Ends (bk_fields limited s start) ((keys_at 1 pin_key pvk start).value p.keys) s start (bk_field_texts p) (end_text p.end ++ left)
unfolding bk_fields
bk_ends limited s start p left g fine whole =
    let weakly = optional_text mark_of_weak_list weak_text p.weak in
    let at₄ = start + length (keys_text p.keys) in
    let at₆ = at₄ + length (sealed_text p.sealed) in
    let at₁₀ = at₆ + length (inputs_text p.inputs) in
    let w = whole ∙ in_four (keys_text p.keys) (sealed_text p.sealed) (inputs_text p.inputs) weakly (end_text p.end) left in
    let w₄ = past_text s start (keys_text p.keys) _ w in
    let w₆ = past_text s at₄ (sealed_text p.sealed) _ w₄ in
    let w₁₀ = past_text s at₆ (inputs_text p.inputs) _ w₆ in
    record {
      from = at₁₀ + length weakly;
      reached = behind_four start (keys_text p.keys) (sealed_text p.sealed) (inputs_text p.inputs) weakly (key_fields p.keys) (sealed_fields p.sealed) (input_fields p.inputs) (weakly ∷ [])
          (key_fields_lem p.keys) (sealed_fields_lem p.sealed) (input_fields_lem p.inputs) (sym (append-nil weakly));
      bytes = past_text s at₁₀ weakly _ w₁₀;
      fault = λ f e. rw (
        (keys_exact 1 pin_key pvk s start).back p.keys _ g.keys w,
        (sealed_exact 4 limited s at₄).back p.sealed _ g.sealed w₄,
        (inputs_exact 6 s at₆).back p.inputs _ g.inputs w₆,
        (weak_stage_exact 10 weak_mark s at₁₀).back p.weak _ fine w₁₀,
        e,
      );
    }

-- of a DA or an EA
pub verify_ends : (v : Verifying) (s : List ℕ) (start : ℕ) (p : VerifyParts) (left : List ℕ) → AreVerify (pin_key_rule_of v) p → drop start s ≡ verify_text p ++ left
    → Ends (verify_fields (key_for v) s start) ((front_at (key_for v) start).value (p.keys, tt)) s start (verify_field_texts p) (end_text p.end ++ left)
unfolding verify_fields
verify_ends v s start p left g whole =
    let front = pair_text p.keys ++ maximum_text in
    let shown = presented_text p.offset in
    let at₄ = start + length front in
    let at₆ = at₄ + length (sealed_text p.sealed) in
    let at₁₀ = at₆ + length (inputs_text p.inputs) in
    let w = whole ∙ in_four front (sealed_text p.sealed) (inputs_text p.inputs) shown (end_text p.end) left in
    let w₄ = past_text s start front _ w in
    let w₆ = past_text s at₄ (sealed_text p.sealed) _ w₄ in
    let w₁₀ = past_text s at₆ (inputs_text p.inputs) _ w₆ in
    record {
      from = at₁₀ + length shown;
      reached = behind_four start front (sealed_text p.sealed) (inputs_text p.inputs) shown (front_fields p.keys) (sealed_fields p.sealed) (input_fields p.inputs) (shown ∷ [])
          (front_fields_lem p.keys) (sealed_fields_lem p.sealed) (input_fields_lem p.inputs) (sym (append-nil shown));
      bytes = past_text s at₁₀ shown _ w₁₀;
      fault = λ f e. rw (
        (front_exact (key_for v) s start).back (p.keys, tt) _ (admitted_keys, tt) w,
        (sealed_exact 4 restricted s at₄).back p.sealed _ g.sealed w₄,
        (inputs_exact 6 s at₆).back p.inputs _ g.inputs w₆,
        w₁₀,
        offset_exact.back p.offset (end_text p.end ++ left) g.offset,
        e,
      );
    }
  where
    admitted_keys : ArePair any_letter (key_for v) any_letter verifying_pvk p.keys
    admitted_keys = (
      ((letter_admitted p.keys.first).0 g.pin_key.letter, subst (λ (r : KeyRule). IsKey r p.keys.first) (sym (key_ruled v)) g.pin_key.is),
      ((letter_admitted p.keys.second).0 g.pvk.letter, g.pvk.is),
    )
