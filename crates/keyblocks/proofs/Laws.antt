-- What the reader of a key block answers, and what an answer tells of the characters ahead.
-- Assumes nothing.
use Prim.Native.Nat.{ℕ, ◌+◌, ◌-◌, ◌≤◌}
use native.Mathlib.Nat.{add_assoc}
use native.Mathlib.Omega.{arith}
use mathlib.Core.Path.{◌≡◌, sym, ap, ◌∙◌}
use mathlib.Core.List.{List}
use mathlib.Core.Bool.{true}
use Rattle.std.specs.Prelude.{Option, Some, Ok, Err}
use lib.ListN.{length, drop, length-drop}
use lib.Seq.{drop-drop}
use Rattle.alphabet.specs.declared.Class.TheVariants.{Printable}
use Rattle.numbers.specs.Numbers.{done, refused, and_then, unless}
use Rattle.numbers.proofs.Laws.{then_done, passed, value_of_lem}
use Rattle.numbers.specs.declared.Refusal.{Refusal}
use Rattle.numbers.specs.declared.Refusal.TheVariants.{Field15, Use29}
use Rattle.fields.specs.Fields.{Found, run, number}
use Rattle.fields.specs.Answers.{cursor_at, found_at}
use Rattle.fields.specs.declared.Cursor.{Cursor}
use Rattle.fields.proofs.Laws.{found_ok, found_err, run_found, run_refuses, number_found, number_refuses}
use Rattle.uses.specs.Uses.{permits}
use Rattle.uses.specs.declared.Use.{Use}
use Rattle.keylengths.specs.KeyLengths.{block_length}
use Rattle.keylengths.proofs.Laws.{length_found}
use Rattle.keyblocks.specs.KeyBlocks.{key_block}

-- ---- what the code's answers tell of a key block

module _ (s : List ℕ) (at v : ℕ) (rest : Cursor) (e : Ok (v, rest) ≡ found_at at (block_length (drop at s))) where
  -- its length is there
  pub length_read : (block_length (drop at s) ≡ done (v, 5)) × (rest ≡ cursor_at (at + 5)) × (5 ≤ length s - at) × (16 ≤ v) × (v ≤ 512)
  length_read =
      let got = found_ok at (block_length (drop at s)) v rest e in
      let f = length_found (drop at s) v got.0 got.1 in
      (got.1 ∙ ap (λ (m : ℕ). done (v, m)) f.1, got.2 ∙ ap (λ (m : ℕ). cursor_at (at + m)) f.1, rw length-drop at f.2, f.3, f.4)

  -- characters are missing, or not printable
  pub text_torn : (q : Refusal) → Err q ≡ found_at rest.at (run Printable Field15 Field15 (v - 5) (drop rest.at s)) → run Printable Field15 Field15 (v - 5) (drop 5 (drop at s)) ≡ refused q
  text_torn q a = rw (drop-drop 5 at s) (found_err (at + 5) (run Printable Field15 Field15 (v - 5) (drop (at + 5) s)) q (rw length_read.1 at a))

  -- its characters are there
  pub text_read : (w : ℕ) (next : Cursor) → Ok (w, next) ≡ found_at rest.at (run Printable Field15 Field15 (v - 5) (drop rest.at s))
      → (run Printable Field15 Field15 (v - 5) (drop 5 (drop at s)) ≡ done (w, v - 5)) × (next ≡ cursor_at (at + (5 + (v - 5)))) × (at + 16 ≤ length s)
  text_read w next a =
      let text = run Printable Field15 Field15 (v - 5) (drop (at + 5) s) in
      let got = found_ok (at + 5) text w next (rw length_read.1 at a) in
      let f = run_found Printable Field15 Field15 (v - 5) (drop (at + 5) s) w got.0 got.1 in
      let l = length_read in
      let n : got.0 ≡ v - 5 = f.1 in
      (rw (drop-drop 5 at s) (got.1 ∙ ap (λ (m : ℕ). done (w, m)) n), got.2 ∙ ap cursor_at (add_assoc at 5 got.0 ∙ ap (λ (m : ℕ). at + (5 + m)) n), omega (arith, length-drop (at + 5) s))

module _ (s : List ℕ) (at : ℕ) where
  -- its LMK id is not there
  pub id_missing : (q : Refusal) → Err q ≡ found_at (at + 14) (number 0 9 Field15 (drop (at + 14) s)) → number 0 9 Field15 (drop 14 (drop at s)) ≡ refused q
  id_missing q e = rw (drop-drop 14 at s) (found_err (at + 14) (number 0 9 Field15 (drop (at + 14) s)) q e)

  -- it is there
  pub id_read : (id : ℕ) (c : Cursor) → Ok (id, c) ≡ found_at (at + 14) (number 0 9 Field15 (drop (at + 14) s)) → (n : ℕ) × (number 0 9 Field15 (drop 14 (drop at s)) ≡ done (id, n))
  id_read id c e = let got = found_ok (at + 14) (number 0 9 Field15 (drop (at + 14) s)) id c e in (got.0, rw (drop-drop 14 at s) got.1)

-- what the code goes by
pub ruleset block_parts = (length_read, text_torn, text_read, id_missing, id_read, found_err)

-- ---- what a key block that was found tells

-- a key block of n characters with an LMK id
pub record Block (for : Use) (cs : List ℕ) (id n : ℕ) : Type 0 where
  pub sized : block_length cs ≡ done (n, 5)
  pub text : run Printable Field15 Field15 (n - 5) (drop 5 cs) ≡ done (n - 5, n - 5)
  pub permitted : permits for cs ≡ true
  pub named : number 0 9 Field15 (drop 14 cs) ≡ done (id, 2)

module _ (for : Use) (cs : List ℕ) where
  -- it is as long as it says
  pub block_long : (id n : ℕ) → Block for cs id n → 5 + (n - 5) ≡ n
  block_long id n b = let f = length_found cs n 5 b.sized in omega arith

  -- it is found
  pub block_done : (id n : ℕ) → Block for cs id n → key_block for cs ≡ done (Some id, n)
  unfolding key_block
  block_done id n b = rw (b.sized, b.text, b.permitted, b.named) (ap (λ (m : ℕ). done (Some id, m)) (block_long id n b))

  -- what is found is one
  pub block_found : (l : Option ℕ) (n : ℕ) → key_block for cs ≡ done (l, n) → (id : ℕ) × (l ≡ Some id) × Block for cs id n
  unfolding key_block
  block_found l n e =
      let named : ℕ × ℕ → Found (Option ℕ) = λ rest. and_then (number 0 9 Field15 (drop 14 cs)) (λ id. done (Some id.0, 5 + rest.1)) in
      let judged : ℕ × ℕ → Found (Option ℕ) = λ rest. and_then (unless Use29 (permits for cs) cs) (λ _. named rest) in
      let text : ℕ × ℕ → Found ℕ = λ said. run Printable Field15 Field15 (said.0 - 5) (drop 5 cs) in
      let a = then_done (block_length cs) (λ said. and_then (text said) judged) (l, n) e in
      let b = then_done (text a.0) judged (l, n) a.2 in
      let c = then_done (unless Use29 (permits for cs) cs) (λ _. named b.0) (l, n) b.2 in
      let d = then_done (number 0 9 Field15 (drop 14 cs)) (λ id. done (Some id.0, 5 + b.0.1)) (l, n) c.2 in
      read a.0 b.0 c.0 d.0 a.1 b.1 c.1 d.1 d.2
    where
      read : (said rest : ℕ × ℕ) (x : List ℕ) (id : ℕ × ℕ) → block_length cs ≡ done said → run Printable Field15 Field15 (said.0 - 5) (drop 5 cs) ≡ done rest
          → unless Use29 (permits for cs) cs ≡ done x → number 0 9 Field15 (drop 14 cs) ≡ done id → ◌≡◌ {A = Found (Option ℕ)} (done (Some id.0, 5 + rest.1)) (done (l, n))
          → (id : ℕ) × (l ≡ Some id) × Block for cs id n
      read (v, m) (w, k) x (id, j) p q r t u =
          let f = length_found cs v m p in
          let g = run_found Printable Field15 Field15 (v - 5) (drop 5 cs) w k q in
          let h = number_found 0 9 Field15 (drop 14 cs) id j t in
          let found = value_of_lem u in
          let same : v ≡ n = omega (arith, ap (λ (r : Option ℕ × ℕ). r.1) found) in (
            id,
            sym (ap (λ (r : Option ℕ × ℕ). r.0) found),
            record {
              sized = p ∙ rw (same, f.1);
              text = rw (← same) (q ∙ rw (g.0, g.1));
              permitted = (passed Use29 (permits for cs) cs x r).0;
              named = t ∙ rw h.0;
            },
          )
