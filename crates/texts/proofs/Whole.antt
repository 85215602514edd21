-- A command whose fields are read exactly is accepted exactly when parts write it.
-- Assumes nothing.
use Prim.Native.Nat.{ℕ, ◌+◌}
use native.Mathlib.Omega.{arith}
use mathlib.Core.Path.{◌≡◌, refl, sym, ap, ◌∙◌}
use mathlib.Core.List.{List, [], ◌++◌, append-nil}
use lib.ListN.{drop}
use Rattle.fields.specs.Fields.{Stage, read, faulty}
use Rattle.fields.specs.declared.Fault.{Fault}
use Rattle.texts.specs.Exact.{ExactAt}
use Rattle.texts.specs.Whole.{Command, written, ReadBack, NothingElse, RefusedExactly, PartsSettled, Exactly}

module _ {A : Type 0} (c : Command A) (fields : List ℕ → ℕ → Stage A) (x : (s : List ℕ) (at : ℕ) → ExactAt s at (fields s at) (written c at)) where
  read_back_lem : ReadBack c fields
  read_back_lem s at p g e = (x s at).back p [] (refl, g) (e ∙ sym (append-nil (c.text p)))

  nothing_else_lem : NothingElse c fields
  nothing_else_lem s at v past e =
      let f = (x s at).only v past e in
      let o = f.2 in
      let t = c.text o.part in
      (o.part, o.good.1, o.whole ∙ ap (λ (l : List ℕ). t ++ l) o.good.0 ∙ append-nil t, o.same, f.1 ∙ ap (λ (n : ℕ). at + n) o.count)

  refused_exactly_lem : RefusedExactly c fields
  refused_exactly_lem s at = (refuses, finds (fields s at) refl)
    where
      refuses : (f : Fault) × (fields s at ≡ faulty f) → (p : c.Parts) → c.is p → drop at s ≡ c.text p → ⊥
      refuses (f, e) p g w = let r = read_back_lem s at p g w in let z : ◌≡◌ {A = ℕ} 0 1 = cc in omega arith

      finds : (o : Stage A) → fields s at ≡ o → ((p : c.Parts) → c.is p → drop at s ≡ c.text p → ⊥) → (f : Fault) × (fields s at ≡ faulty f)
      finds (read v past) e none = let h = nothing_else_lem s at v past e in absurd (none h.0 h.1 h.2)
      finds (faulty f) e none = (f, e)

  parts_settled_lem : PartsSettled c
  parts_settled_lem p q g h e = ((x [] 0).apart p q [] [] (refl, g) (refl, h) (ap (λ (l : List ℕ). l ++ []) e)).0

  pub exactly : Exactly c fields
  exactly = record { read_back = read_back_lem; nothing_else = nothing_else_lem; refused_exactly = refused_exactly_lem; parts_settled = parts_settled_lem }
