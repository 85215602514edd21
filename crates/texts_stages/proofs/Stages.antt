-- The stages of a command are read exactly: a line for each field, and then the parts by name.
-- Assumes nothing.
use Rattle.std.specs.Prelude.{Option}
use Prim.Native.Nat.{ℕ, ◌+◌, ◌≤◌}
use native.Mathlib.Nat.{add-zero}
use native.Mathlib.Omega.{arith}
use mathlib.Core.Path.{◌≡◌, refl, sym, ap, ◌∙◌, subst}
use mathlib.Core.Logic.{inl}
use mathlib.Core.List.{List, [], ◌∷◌, ◌++◌, append_assoc, append-nil}
use mathlib.Core.Bool.{Bool, true, false, cond}
use lib.ListN.{length, drop, length-append, length-drop, drop_of_length-le}
use lib.Dec.{leb}
use borrow.Author.Tests.{leb-true}
use Rattle.alphabet.specs.Alphabet.{begins}
use Rattle.alphabet.specs.declared.Class.TheVariants.{Digit, CapitalHex}
use Rattle.numbers.specs.declared.Refusal.TheVariants.{Field15, Table25}
use Rattle.formats.specs.declared.Format.{Format}
use Rattle.validation.specs.Validation.{shape_width}
use Rattle.validation.specs.declared.Shape.{Shape}
use Rattle.fields.specs.Fields.{read, faulty, run, number, trailer}
use Rattle.fields.proofs.Reading.{read_once}
use Rattle.lmk.specs.Lmk.{lmk_field}
use Rattle.uses.specs.declared.Use.{Use}
use Rattle.keys.specs.Keys.{key_type, key}
use Rattle.keys.specs.declared.Letters.{Letters}
use Rattle.weakfield.specs.WeakField.{weak_field}
use Rattle.formatfield.specs.FormatField.{format_field}
use Rattle.validationfield.specs.ValidationField.{validation_field}
use Rattle.keyfields.specs.KeyFields.{key_pair, keys}
use Rattle.sealed.specs.Sealed.{sealed}
use Rattle.offsetting.specs.Offsetting.{offsetting}
use Rattle.weaklist.specs.WeakList.{weak}
use Rattle.keyfields.specs.declared.Keys.{Keys}
use Rattle.sealed.specs.declared.Sealed.{Sealed}
use Rattle.offsetting.specs.declared.Offsetting.{Offsetting}
use Rattle.endings.specs.Endings.{all_agree, last_id, closed, end}
use Rattle.endings.proofs.Laws.{closed_whole}
use Rattle.texts.specs.Texts.{as_two_digits, Optional, absent, present, WherePresent, IsTrailer, trailer_text}
use Rattle.texts.specs.Exact.{Writing, ExactAt}
use Rattle.texts.specs.Joining.{Same, joined, mapped}
use Rattle.texts.specs.Writings.{runs, numbers, trailers}
use Rattle.texts.proofs.Closing.{past_text, stands_at, field_alone, field_exact, field_last_lem, stage_as}
use Rattle.texts.proofs.Readers.{run_exact, number_exact, trailer_exact}
use Rattle.texts_keys.specs.KeyTexts.{IsId, own_ids, AllSame}
use Rattle.texts_keys.specs.KeyWritings.{types, keyed, ids, ids_read}
use Rattle.texts_keys.proofs.KeyFields.{type_exact, key_exact, id_exact, wanted_admitted, own_ids_lem, ids_agree_lem}
use Rattle.texts_data.specs.DataTexts.{Validation, with_n, with_p, validation_text, IsValidation}
use Rattle.texts_data.specs.DataWritings.{shape, formats, validations, weak_lists}
use Rattle.texts_data.proofs.Formats.{format_exact}
use Rattle.texts_data.proofs.ValidationData.{data_exact}
use Rattle.texts_data.proofs.WeakLists.{weak_exact}
use Rattle.texts_stages.specs.StageTexts.{InputFields, inputs_text, AreInputs}
use Rattle.texts_stages.specs.StageWritings.{pair_at, keys_at, sealed_at, inputs_placed, inputs_at, InputsStand, end_at}

-- ---- two keys

abbrev pair_joined : ℕ → Letters → Use → Letters → Use → ℕ → Writing Keys
pair_joined first letters₁ use₁ letters₂ use₂ at₁ =
    joined at₁ (keyed letters₁ use₁)
    (λ lmk₁ at₂. mapped (λ (lmk₂ : Option ℕ). record { first = lmk₁; second = lmk₂; field = first + 1; place = at₂ }) (keyed letters₂ use₂))

pair_same : (first : ℕ) (letters₁ : Letters) (use₁ : Use) (letters₂ : Letters) (use₂ : Use) (at : ℕ)
    → Same (pair_joined first letters₁ use₁ letters₂ use₂ at) (pair_at first letters₁ use₁ letters₂ use₂ at)
pair_same first letters₁ use₁ letters₂ use₂ at = record {
  to = λ p. record { first = p.0; second = p.1 };
  text = λ p. refl;
  value = λ p. refl;
  good = λ p rest g. g;
  from = λ k rest g. ((k.first, k.second), refl, g);
}

pub pair_exact : (first : ℕ) (letters₁ : Letters) (use₁ : Use) (letters₂ : Letters) (use₂ : Use) (s : List ℕ) (at : ℕ)
    → ExactAt s at (key_pair first letters₁ use₁ letters₂ use₂ s at) (pair_at first letters₁ use₁ letters₂ use₂ at)
unfolding key_pair
pair_exact first letters₁ use₁ letters₂ use₂ s at =
    stage_as (pair_joined first letters₁ use₁ letters₂ use₂ at) (pair_at first letters₁ use₁ letters₂ use₂ at) (pair_same first letters₁ use₁ letters₂ use₂ at) s at _
    (field_exact s at first (key letters₁ use₁) (keyed letters₁ use₁) _ _ (key_exact letters₁ use₁)
    (λ lmk₁ at₂. field_last_lem s at₂ (first + 1) (key letters₂ use₂) (keyed letters₂ use₂) _ (key_exact letters₂ use₂)))

-- ---- key type, and two keys

abbrev keys_joined : ℕ → Use → Use → ℕ → Writing Keys
keys_joined first use₁ use₂ at₁ = joined at₁ types (λ letters at₂. pair_at (first + 1) letters use₁ letters use₂ at₂)

-- the letters that the type wants
keys_same : (first : ℕ) (use₁ use₂ : Use) (at : ℕ) → Same (keys_joined first use₁ use₂ at) (keys_at first use₁ use₂ at)
keys_same first use₁ use₂ at = record {
  to = λ p. record { type = p.0; first = p.1.first; second = p.1.second };
  text = λ p. refl;
  value = λ p. refl;
  good = λ p rest g. record {
    wanted = ((wanted_admitted p.0 p.1.first).1 g.1.0.0, (wanted_admitted p.0 p.1.second).1 g.1.1.0);
    first = g.1.0.1;
    second = g.1.1.1;
  };
  from = λ k rest g. (
    (k.type, record { first = k.first; second = k.second }),
    refl,
    (tt, (((wanted_admitted k.type k.first).0 g.wanted.0, g.first), ((wanted_admitted k.type k.second).0 g.wanted.1, g.second))),
  );
}

pub keys_exact : (first : ℕ) (use₁ use₂ : Use) (s : List ℕ) (at : ℕ) → ExactAt s at (keys first use₁ use₂ s at) (keys_at first use₁ use₂ at)
unfolding keys
keys_exact first use₁ use₂ s at =
    stage_as (keys_joined first use₁ use₂ at) (keys_at first use₁ use₂ at) (keys_same first use₁ use₂ at) s at _
    (field_exact s at first key_type types _ _ type_exact
    (λ letters at₂. pair_exact (first + 1) letters use₁ letters use₂ s at₂))

-- ---- PIN block and format

abbrev sealed_joined : Bool → ℕ → Writing Sealed
sealed_joined restricted at = joined at (runs CapitalHex 16) (λ _ _. mapped (λ (f : Format). record { block = at; format = f }) (formats restricted))

sealed_same : (restricted : Bool) (at : ℕ) → Same (sealed_joined restricted at) (sealed_at restricted at)
sealed_same restricted at = record {
  to = λ p. record { block = p.0; format = p.1 };
  text = λ p. refl;
  value = λ p. refl;
  good = λ p rest g. record { block = g.0; format = g.1 };
  from = λ p rest g. ((p.block, p.format), refl, (g.block, g.format));
}

pub sealed_exact : (first : ℕ) (restricted : Bool) (s : List ℕ) (at : ℕ) → ExactAt s at (sealed first restricted s at) (sealed_at restricted at)
unfolding sealed
sealed_exact first restricted s at =
    stage_as (sealed_joined restricted at) (sealed_at restricted at) (sealed_same restricted at) s at _
    (field_exact s at first (run CapitalHex Field15 Field15 16) (runs CapitalHex 16) _ _ (run_exact CapitalHex Field15 Field15 16)
    (λ _ at₂. field_last_lem s at₂ (first + 1) (format_field restricted) (formats restricted) _ (format_exact restricted)))

-- ---- check length, account, decimalisation table, validation data

abbrev inputs_joined : ℕ → Writing Offsetting
inputs_joined at =
    joined at (numbers 4 12)
    (λ check at₂. joined at₂ (runs Digit 12)
    (λ _ at₃. joined at₃ (runs Digit 16)
    (λ _ at₄. mapped (λ (x : Shape). record { check = check; account = at₂; table = at₃; validation = at₄; shape = x }) validations)))

inputs_same : (at : ℕ) → Same (inputs_joined at) (inputs_at at)
inputs_same at = record {
  to = λ p. record { check = p.0; account = p.1.0; table = p.1.1.0; validation = p.1.1.1 };
  text = λ p. refl;
  value = λ p. refl;
  good = λ p rest g. record { check = g.0; account = g.1.0; table = g.1.1.0; validation = g.1.1.1 };
  from = λ p rest g. ((p.check, (p.account, (p.table, p.validation))), refl, (g.check, (g.account, (g.table, g.validation))));
}

pub inputs_exact : (first : ℕ) (s : List ℕ) (at : ℕ) → ExactAt s at (offsetting first s at) (inputs_at at)
unfolding offsetting
inputs_exact first s at =
    stage_as (inputs_joined at) (inputs_at at) (inputs_same at) s at _
    (field_exact s at first (number 4 12 Field15) (numbers 4 12) _ _ (number_exact 4 12 Field15 (omega arith))
    (λ check at₂. field_exact s at₂ (first + 1) (run Digit Field15 Field15 12) (runs Digit 12) _ _ (run_exact Digit Field15 Field15 12)
    (λ _ at₃. field_exact s at₃ (first + 2) (run Digit Field15 Table25 16) (runs Digit 16) _ _ (run_exact Digit Field15 Table25 16)
    (λ _ at₄. field_last_lem s at₄ (first + 3) validation_field validations _ data_exact))))

data_width : (d : Validation) → IsValidation d → length (validation_text d) ≡ shape_width (shape d)
data_width (with_n front back) g = length-append front (0x4E ∷ back) ∙ omega (arith, g.0, length-append front back)
data_width (with_p cs) g = omega (arith, g.0)

-- what is read of them stands there
pub inputs_stand : (s : List ℕ) (at : ℕ) (p : InputFields) (rest : List ℕ) → AreInputs p → drop at s ≡ inputs_text p ++ rest → InputsStand s (inputs_placed at p) p
inputs_stand s at p rest g e =
    let check = as_two_digits p.check in
    let data-text = validation_text p.validation in
    let o = inputs_placed at p in
    let e₂ = past_text s at check _ (e ∙ append_assoc check (p.account ++ (p.table ++ data-text)) rest) ∙ append_assoc p.account (p.table ++ data-text) rest in
    let e₃ = past_text s o.account p.account _ e₂ ∙ append_assoc p.table data-text rest in
    let e₄ = past_text s o.table p.table _ e₃ in
    record {
      account = stands_at s o.account 12 p.account _ g.account.0 e₂;
      table = stands_at s o.table 16 p.table _ g.table.0 e₃;
      validation = stands_at s o.validation (shape_width (shape p.validation)) data-text rest (data_width p.validation g.validation) e₄;
    }

-- ---- a weak list

pub weak_stage_exact : (first mark : ℕ) (s : List ℕ) (at : ℕ) → ExactAt s at (weak first mark s at) (weak_lists mark at)
unfolding weak
weak_stage_exact first mark s at = field_alone s at first (weak_field mark at) (weak_lists mark at) (weak_exact mark at)

-- ---- the end

-- nothing: what is behind is nothing too, and the ids agree
abbrev closing : Keys → Option ℕ → ℕ → Writing ℕ
closing ks own mark = record { Part = Unit {0}; fine = λ _ rest. (rest ≡ []) × (all_agree ks own ≡ true); text = λ _. []; value = λ _. mark }

module _ (ks : Keys) (own : Option ℕ) (first at : ℕ) (s : List ℕ) (mark past : ℕ) where
  -- it was read: nothing is left over, and the ids agree
  closed_read : (m p : ℕ) → closed ks own first at s mark past ≡ read m p → (length s ≤ past) × (all_agree ks own ≡ true) × (m ≡ mark) × (p ≡ past)
  closed_read m p e = by_rest (leb (length s) past) (all_agree ks own) refl refl e
    where
      by_rest : (x y : Bool) → leb (length s) past ≡ x → all_agree ks own ≡ y
          → cond x (cond y (read mark past) (faulty (last_id ks own first at))) (faulty (record { refusal = Field15; field = 0; place = past })) ≡ read m p
          → (length s ≤ past) × (all_agree ks own ≡ true) × (m ≡ mark) × (p ≡ past)
      by_rest true true hx hy h = (leb-true (length s) past hx, hy, sym (read_once h).0, sym (read_once h).1)
      by_rest true false hx hy h = absurd (let z : ◌≡◌ {A = ℕ} 0 1 = cc in omega arith)
      by_rest false y hx hy h = absurd (let z : ◌≡◌ {A = ℕ} 0 1 = cc in omega arith)

  closed_exact : ExactAt s past (closed ks own first at s mark past) (closing ks own mark)
  closed_exact = record {
    back = λ p rest g e.
        let gone : drop past s ≡ [] = e ∙ g.0 in
        let short : length s ≤ past = omega (arith, length-drop past s, ap length gone) in
        closed_whole ks own first at s mark past short g.1 ∙ rw (add-zero past);
    only = λ a p e.
        let r = closed_read a p e in
        (0, r.3 ∙ sym (add-zero past), record { part = tt; rest = []; good = (refl, r.1); whole = drop_of_length-le s r.0; count = refl; same = r.2 });
    apart = λ p q rest rest' g h e. (refl, e);
  }

abbrev end_joined : Keys → ℕ → Writing ℕ
end_joined ks at = joined at ids (λ own mark. joined mark trailers (λ _ _. closing ks own mark))

module _ (ks : Keys) (at : ℕ) where
  ids_as : (v : Optional ℕ) → AllSame (ids_read ks.first ++ (ids_read ks.second ++ ids_read (ids.value v))) ≡ AllSame (ids_read ks.first ++ (ids_read ks.second ++ own_ids v))
  ids_as v = ap (λ (l : List ℕ). AllSame (ids_read ks.first ++ (ids_read ks.second ++ l))) (own_ids_lem v)

  -- at the end of a command no mark can be mistaken
  id_good : (v : Optional ℕ) (t : Optional (List ℕ)) → WherePresent IsId v → ids.fine v ((trailer_text t ++ []) ++ [])
  unfolding begins
  id_good absent absent g = refl
  id_good absent (present cs) g = refl
  id_good (present n) t g = g

  trailer_good : (t : Optional (List ℕ)) → WherePresent IsTrailer t → trailers.fine t []
  unfolding begins
  trailer_good absent g = refl
  trailer_good (present cs) g = (g, inl refl)

  id_is : (v : Optional ℕ) (rest : List ℕ) → ids.fine v rest → WherePresent IsId v
  id_is absent rest g = tt
  id_is (present n) rest g = g

  trailer_is : (t : Optional (List ℕ)) (rest : List ℕ) → trailers.fine t rest → WherePresent IsTrailer t
  trailer_is absent rest g = tt
  trailer_is (present cs) rest g = g.0

  end_same : Same (end_joined ks at) (end_at ks at)
  end_same = record {
    to = λ p. record { id = p.0; trailer = p.1.0 };
    text = λ p. ap (λ (l : List ℕ). ids.text p.0 ++ l) (sym (append-nil (trailer_text p.1.0)));
    value = λ p. refl;
    good = λ p rest g. (
      g.1.1.0,
      record { id = id_is p.0 _ g.0; trailer = trailer_is p.1.0 _ g.1.0 },
      subst (λ (T : Type 0). T) (ids_as p.0) ((ids_agree_lem ks.first ks.second (ids.value p.0)).0 g.1.1.1),
    );
    from = λ p rest g.
        let agree = (ids_agree_lem ks.first ks.second (ids.value p.id)).1 (subst (λ (T : Type 0). T) (sym (ids_as p.id)) g.2) in (
          (p.id, (p.trailer, tt)),
          refl,
          rw g.0 (id_good p.id p.trailer g.1.id, (trailer_good p.trailer g.1.trailer, (refl, agree))),
        );
  }

pub end_exact : (first : ℕ) (ks : Keys) (s : List ℕ) (at : ℕ) → ExactAt s at (end first ks s at) (end_at ks at)
unfolding end
end_exact first ks s at =
    stage_as (end_joined ks at) (end_at ks at) (end_same ks at) s at _
    (field_exact s at first lmk_field ids _ _ id_exact
    (λ own mark. field_exact s mark (first + 1) trailer trailers _ _ trailer_exact (λ _ past. closed_exact ks own first at s mark past)))
