-- What the field of an LMK id comes to, and how far it goes.
-- Assumes nothing.
use Prim.Native.Nat.{ℕ, ◌+◌, ◌≤◌}
use native.Mathlib.Nat.{add_assoc}
use native.Mathlib.Omega.{arith}
use mathlib.Core.Path.{◌≡◌, ap, ◌∙◌}
use mathlib.Core.List.{List}
use mathlib.Core.Bool.{Bool, true, false, cond}
use Rattle.std.specs.Prelude.{Option, Some, None, Ok, Err}
use lib.ListN.{length, drop, length-drop}
use lib.Seq.{drop-drop}
use Rattle.numbers.specs.Numbers.{done, refused, and_then}
use Rattle.numbers.proofs.Laws.{then_done, value_of_lem}
use Rattle.numbers.specs.declared.Refusal.{Refusal}
use Rattle.numbers.specs.declared.Refusal.TheVariants.{Field15}
use Rattle.fields.specs.Fields.{number, marked, behind}
use Rattle.fields.specs.Answers.{cursor_at, found_at, mark_from}
use Rattle.fields.specs.declared.Cursor.{Cursor}
use Rattle.fields.proofs.Laws.{found_ok, found_err, mark_there, number_found}
use Rattle.fields.proofs.Reading.{behind_done}
use Rattle.lmk.specs.Lmk.{lmk_mark, lmk_field}

-- ---- what the code answers behind a mark

module _ (s : List ℕ) (at : ℕ) (c : Cursor) (there : Some c ≡ mark_from at (marked lmk_mark (drop at s))) where
  -- no LMK id stands there
  pub lmk_bad : (q : Refusal) → Err q ≡ found_at c.at (number 0 9 Field15 (drop c.at s)) → Err q ≡ found_at at (lmk_field (drop at s))
  unfolding lmk_field
  lmk_bad q e =
      let m = mark_there at (marked lmk_mark (drop at s)) c there in
      let bad : number 0 9 Field15 (drop (at + 1) s) ≡ refused q = found_err (at + 1) (number 0 9 Field15 (drop (at + 1) s)) q (rw m.1 at e) in
      rw (m.0, drop-drop 1 at s, bad)

  -- an LMK id does
  pub lmk_there : (v : ℕ) (next : Cursor) → Ok (v, next) ≡ found_at c.at (number 0 9 Field15 (drop c.at s)) → Ok (Some v, next) ≡ found_at at (lmk_field (drop at s))
  unfolding lmk_field
  lmk_there v next e =
      let m = mark_there at (marked lmk_mark (drop at s)) c there in
      let got = found_ok (at + 1) (number 0 9 Field15 (drop (at + 1) s)) v next (rw m.1 at e) in
      rw (m.0, drop-drop 1 at s, got.1) (ap (λ (n : Cursor). Ok (Some v, n)) (got.2 ∙ ap cursor_at (add_assoc at 1 got.0)))

-- ---- an LMK id that was found

-- it ends with the characters ahead or before
pub lmk_onward : (cs : List ℕ) (l : Option ℕ) (n : ℕ) → lmk_field cs ≡ done (l, n) → n ≤ length cs
unfolding lmk_field
lmk_onward cs l n e = by_mark (marked lmk_mark cs) e
  where
    by_mark : (there : Bool) → cond there (behind 1 (and_then (number 0 9 Field15 (drop 1 cs)) (λ id. done (Some id.0, id.1)))) (done (None, 0)) ≡ done (l, n) → n ≤ length cs
    by_mark true h =
        let r = behind_done (and_then (number 0 9 Field15 (drop 1 cs)) (λ id. done (Some id.0, id.1))) l n h in
        let t = then_done (number 0 9 Field15 (drop 1 cs)) (λ (id : ℕ × ℕ). done (Some id.0, id.1)) (l, r.0) r.1 in
        let f = number_found 0 9 Field15 (drop 1 cs) t.0.0 t.0.1 t.1 in
        let k : t.0.1 ≡ r.0 = ap (λ (x : Option ℕ × ℕ). x.1) (value_of_lem t.2) in
        omega (arith, r.2, f.0, f.1, length-drop 1 cs)
    by_mark false h = let z : 0 ≡ n = ap (λ (x : Option ℕ × ℕ). x.1) (value_of_lem h) in omega arith
