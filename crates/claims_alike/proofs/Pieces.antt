-- Pieces made of pieces: each stage and each command is listed once, as it is read.
-- Assumes nothing.
use Prim.Native.Nat.{ℕ}
use mathlib.Core.List.{List}
use mathlib.Core.Bool.{Bool}
use Rattle.fields.specs.Fields.{Found, read, field, onward}
use Rattle.uses.specs.declared.Use.{Use}
use Rattle.keys.specs.declared.Letters.{Letters}
use Rattle.weak.specs.declared.Weak.{Weak}
use Rattle.keyfields.specs.KeyFields.{key_pair, keys}
use Rattle.sealed.specs.Sealed.{sealed}
use Rattle.offsetting.specs.Offsetting.{offsetting}
use Rattle.weaklist.specs.WeakList.{weak}
use Rattle.keyfields.specs.declared.Keys.{Keys}
use Rattle.sealed.specs.declared.Sealed.{Sealed}
use Rattle.offsetting.specs.declared.Offsetting.{Offsetting}
use Rattle.endings.specs.Endings.{end}
use Rattle.texts.specs.Exact.{Writing, Exact}
use Rattle.texts.specs.Joining.{joined, mapped}
use Rattle.texts_data.specs.DataWritings.{weak_lists}
use Rattle.texts.proofs.Closing.{onward_exact, onward_last, field_exact, field_last_lem}
use Rattle.texts_stages.specs.StageWritings.{pair_at, keys_at, sealed_at, inputs_at, end_at}
use Rattle.texts_stages.proofs.Stages.{pair_exact, keys_exact, sealed_exact, inputs_exact, weak_stage_exact, end_exact}
use Rattle.claims_alike.specs.Alike.{Piece, Layout}

-- a stage, and what comes next; a last stage
abbrev pub next : {A B : Type 0} → Piece A → (A → ℕ → Piece B) → Piece B
next r more = record {
  stage = λ s at. onward (r.stage s at) (λ a past. (more a past).stage s past);
  writing = λ at. joined at (r.writing at) (λ a past. (more a past).writing past);
  exact = λ s at. onward_exact s at (r.writing at) _ (λ a past. (more a past).writing past) _ (r.exact s at) (λ a past. (more a past).exact s past);
}

abbrev pub last : {A B : Type 0} → Piece A → (A → B) → Piece B
last r f = record {
  stage = λ s at. onward (r.stage s at) (λ a past. read (f a) past);
  writing = λ at. mapped f (r.writing at);
  exact = λ s at. onward_last s at (r.stage s at) (r.writing at) f (r.exact s at);
}

-- a field, and what comes next; a last field
abbrev pub field_next : {A B : Type 0} → ℕ → (reader : List ℕ → Found A) (w : Writing A) → Exact reader w → (A → ℕ → Piece B) → Piece B
field_next k reader w x more = record {
  stage = λ s at. field k reader s at (λ a past. (more a past).stage s past);
  writing = λ at. joined at w (λ a past. (more a past).writing past);
  exact = λ s at. field_exact s at k reader w _ (λ a past. (more a past).writing past) x (λ a past. (more a past).exact s past);
}

abbrev pub field_last : {A B : Type 0} → ℕ → (reader : List ℕ → Found A) (w : Writing A) → Exact reader w → (A → B) → Piece B
field_last k reader w x f = record {
  stage = λ s at. field k reader s at (λ a past. read (f a) past);
  writing = λ at. mapped f w;
  exact = λ s at. field_last_lem s at k reader w f x;
}

-- ---- the stages that commands share

abbrev pub pair_piece : ℕ → Letters → Use → Letters → Use → Piece Keys
pair_piece first letters₁ use₁ letters₂ use₂ = record {
  stage = key_pair first letters₁ use₁ letters₂ use₂;
  writing = pair_at first letters₁ use₁ letters₂ use₂;
  exact = pair_exact first letters₁ use₁ letters₂ use₂;
}

abbrev pub keys_piece : ℕ → Use → Use → Piece Keys
keys_piece first use₁ use₂ = record { stage = keys first use₁ use₂; writing = keys_at first use₁ use₂; exact = keys_exact first use₁ use₂ }

abbrev pub sealed_piece : ℕ → Bool → Piece Sealed
sealed_piece first restricted = record { stage = sealed first restricted; writing = sealed_at restricted; exact = sealed_exact first restricted }

abbrev pub inputs_piece : ℕ → Piece Offsetting
inputs_piece first = record { stage = offsetting first; writing = inputs_at; exact = inputs_exact first }

abbrev pub weak_piece : ℕ → ℕ → Piece Weak
weak_piece first mark = record { stage = weak first mark; writing = weak_lists mark; exact = weak_stage_exact first mark }

abbrev pub end_piece : ℕ → Keys → Piece ℕ
end_piece first ks = record { stage = end first ks; writing = end_at ks; exact = end_exact first ks }

-- ---- a command

-- all of it: what it reads is accepted exactly
abbrev pub whole : {n : ℕ} {F X A S : Type 0} → Layout n F X A S → Piece A
whole c = next c.front (λ f _. next c.block (λ x _. c.tail f x))
