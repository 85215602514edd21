-- What the code's answers tell of what the key box answered.
-- Assumes nothing.
use Prim.Native.Nat.{ℕ}
use native.Mathlib.Omega.{arith}
use mathlib.Core.Path.{◌≡◌, refl, sym, ap, ◌∙◌}
use mathlib.Core.List.{List}
use mathlib.Core.Bool.{Bool}
use Rattle.std.specs.Prelude.{Result, Ok, Err, MatchResult, IsErrAnd, IfOk}
use Rattle.std.proofs.lemmas.Result.{err_from_is_err_and, IfOk-at_ok}
use lib.ListN.{length}
use Rattle.nibbles.proofs.Lists.{Below}
use Rattle.nibbles.proofs.Bytes.{nibs_length}
use Rattle.numbers.specs.Numbers.{Outcome, done, refused, and_then}
use Rattle.numbers.specs.declared.Refusal.{Refusal}
use Rattle.numbers.proofs.Laws.{then_done, value_of_lem, result_ok, result_err}
use Rattle.nibbles.specs.Nibbles.{word}
use Rattle.pins.specs.Pins.{sized}
use Rattle.pins.specs.Answers.{row_of}
use Rattle.pins.proofs.Laws.{sized_done, block_row}
use Rattle.fields.specs.Fields.{pointing, unpointed, heard}
use Rattle.fields.specs.declared.Fault.{Fault}
use Rattle.keybox.specs.KeyBox.{slices, parities, boxed}
use Rattle.keybox.specs.Answers.{words_of, rows_held, sliced_of, parity_of, box_read}
use Rattle.keybox.specs.declared.Boxed.{Boxed}

-- ---- what the key box answered

-- two rows, and good parities
pub boxed_done : (end : ℕ) (g h : Bool) (block enciphered : List ℕ) (rows : List ℕ × List ℕ) → boxed end g h block enciphered ≡ done rows
    → (slices block enciphered ≡ done rows) × (parities g h ≡ done tt)
unfolding boxed
boxed_done end g h block enciphered rows e = by_both (slices block enciphered) (parities g h) e
  where
    by_both : (o : Outcome (List ℕ × List ℕ)) (p : Outcome (Unit {0})) → and_then (pointing 0 end o) (λ rs. and_then (unpointed p) (λ _. done rs)) ≡ done rows → (o ≡ done rows) × (p ≡ done tt)
    by_both (done rs) (done u) d = (ap done (value_of_lem d), refl)
    by_both (done rs) (refused q) d = absurd (let z : ◌≡◌ {A = ℕ} 0 1 = cc in omega arith)
    by_both (refused q) p d = absurd (let z : ◌≡◌ {A = ℕ} 0 1 = cc in omega arith)

-- the two slices
slices_done : (block enciphered : List ℕ) (rows : List ℕ × List ℕ) → slices block enciphered ≡ done rows → (sized 8 block ≡ done rows.0) × (sized 8 enciphered ≡ done rows.1)
unfolding slices
slices_done block enciphered rows e =
    let b = then_done (sized 8 block) _ rows e in
    let c = then_done (sized 8 enciphered) _ rows b.2 in
    let q = value_of_lem c.2 in
    (b.1 ∙ ap (λ (r : List ℕ × List ℕ). done r.0) q, c.1 ∙ ap (λ (r : List ℕ × List ℕ). done r.1) q)

-- have sixteen nibbles each
pub boxed_sixteen : (end : ℕ) (g h : Bool) (block enciphered : List ℕ) (rows : List ℕ × List ℕ) → boxed end g h block enciphered ≡ done rows → (length rows.0 ≡ 16) × (length rows.1 ≡ 16)
boxed_sixteen end g h block enciphered rows e =
    let s = slices_done block enciphered rows (boxed_done end g h block enciphered rows e).0 in
    (long block rows.0 s.0, long enciphered rows.1 s.1)
  where
    long : (bs ns : List ℕ) → sized 8 bs ≡ done ns → length ns ≡ 16
    long bs ns d = let z = sized_done 8 bs ns d in ap length (sym z.1) ∙ nibs_length bs ∙ (let n = z.0 in omega arith)

-- what the host hears of them
pub boxed_heard : (end : ℕ) (g h : Bool) (block enciphered : List ℕ) → heard (boxed end g h block enciphered) ≡ and_then (slices block enciphered) (λ rows. and_then (parities g h) (λ _. done rows))
unfolding boxed
boxed_heard end g h block enciphered = by_both (slices block enciphered) (parities g h)
  where
    by_both : (o : Outcome (List ℕ × List ℕ)) (p : Outcome (Unit {0}))
        → heard (and_then (pointing 0 end o) (λ rows. and_then (unpointed p) (λ _. done rows))) ≡ and_then o (λ rows. and_then p (λ _. done rows))
    by_both (done rows) (done u) = refl
    by_both (done rows) (refused q) = refl
    by_both (refused q) p = refl

-- ---- behind an answer that `map_err` points

-- the refusal behind its fault
pub pointed_err : {A : Type 0} (r : Result A Refusal) (p : Result A Fault) (k at : ℕ) (f : Fault)
    → MatchResult r (λ x. p ≡ Ok x) (λ e. IsErrAnd p (λ f. f ≡ record { refusal = e; field = k; place = at })) → p ≡ Err f
    → (q : Refusal) × (r ≡ Err q) × (f ≡ record { refusal = q; field = k; place = at })
pointed_err (Ok x) p k at f m e = absurd (let z : ◌≡◌ {A = ℕ} 0 1 = cc in omega arith)
pointed_err (Err q) p k at f m e = let w = err_from_is_err_and p m in (q, refl, (let z : f ≡ w.0 = cc in z) ∙ w.2)

-- its value
pub pointed_ok : {A : Type 0} (r : Result A Refusal) (p : Result A Fault) (k at : ℕ) (x : A)
    → MatchResult r (λ x. p ≡ Ok x) (λ e. IsErrAnd p (λ f. f ≡ record { refusal = e; field = k; place = at })) → p ≡ Ok x → r ≡ Ok x
pointed_ok (Ok y) p k at x m e = let z : y ≡ x = cc in ap Ok z
pointed_ok (Err q) p k at x m e = let w = err_from_is_err_and p m in absurd (let z : ◌≡◌ {A = ℕ} 0 1 = cc in omega arith)

-- ---- the one, then the other

module _ (end : ℕ) (g h : Bool) (block enciphered : List ℕ) where
  -- a slice has another length
  pub box_short : (q : Refusal) → Err q ≡ sliced_of (slices block enciphered) → boxed end g h block enciphered ≡ refused (record { refusal = q; field = 0; place = end })
  unfolding boxed
  box_short q e = rw (result_err words_of (slices block enciphered) q e)

  -- which `map_err` points at the command's end
  pub box_refused : (r : Result Boxed Refusal) (p : Result Boxed Fault) (f : Fault) → r ≡ sliced_of (slices block enciphered)
      → MatchResult r (λ x. p ≡ Ok x) (λ e. IsErrAnd p (λ f. f ≡ record { refusal = e; field = 0; place = end })) → p ≡ Err f → boxed end g h block enciphered ≡ refused f
  box_refused r p f e m h = let w = pointed_err r p 0 end f m h in box_short w.0 (sym w.1 ∙ e) ∙ ap refused (sym w.2)

  module _ (b : Boxed) (held : Ok b ≡ sliced_of (slices block enciphered)) where
    -- a parity is wrong
    pub box_parity : (q : Refusal) → Err q ≡ parity_of (parities g h) → boxed end g h block enciphered ≡ refused (record { refusal = q; field = 0; place = 0 })
    unfolding boxed
    box_parity q e = rw ((result_ok words_of (slices block enciphered) b held).1, result_err (λ (u : Unit {0}). u) (parities g h) q e)

    -- nothing is
    pub box_good : (u : Unit {0}) → Ok u ≡ parity_of (parities g h) → Ok b ≡ box_read (boxed end g h block enciphered)
    unfolding boxed
    box_good u e =
        let r = result_ok words_of (slices block enciphered) b held in
        rw (r.1, (result_ok (λ (u : Unit {0}). u) (parities g h) u e).1) (ap Ok r.2)

-- ---- the rows that the code's words hold

-- of the slices
pub slices_held : (block enciphered : List ℕ) → Below 256 block → Below 256 enciphered → (clear cipher : ℕ) → Ok clear ≡ row_of (sized 8 block) → Ok cipher ≡ row_of (sized 8 enciphered)
    → slices block enciphered ≡ done (rows_held (record { block = clear; enciphered = cipher }))
unfolding slices
slices_held block enciphered small little clear cipher e f =
    let r = result_ok word (sized 8 block) clear e in
    let s = result_ok word (sized 8 enciphered) cipher f in
    rw (r.1, s.1, block_row block r.0 clear r.1 small r.2, block_row enciphered s.0 cipher s.1 little s.2)

-- and of what the key box answered
pub box_held : (end : ℕ) (g h : Bool) (block enciphered : List ℕ) (r : Result Boxed Refusal) (b : Boxed) (u : Unit {0}) → r ≡ Ok b
    → IfOk r (λ rows. slices block enciphered ≡ done (rows_held rows)) → Ok u ≡ parity_of (parities g h) → boxed end g h block enciphered ≡ done (rows_held b)
unfolding boxed
box_held end g h block enciphered r b u e held f =
    rw (IfOk-at_ok (λ rows. slices block enciphered ≡ done (rows_held rows)) e held, (result_ok (λ (u : Unit {0}). u) (parities g h) u f).1)

-- what judging the answers takes
pub ruleset answers_judged = (pointed_err, pointed_ok, box_short, box_parity, box_good)
