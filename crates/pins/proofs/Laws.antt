-- What an answer tells of the outcome behind it, and what an outcome tells of the value in it.
-- Assumes nothing.
use Prim.Native.Nat.{ℕ, ◌-◌, ◌^◌, ◌≤◌, ◌<◌}
use native.Mathlib.Omega.{arith}
use mathlib.Core.Path.{◌≡◌, refl, sym, ap, ◌∙◌, subst}
use mathlib.Core.List.{List, ◌++◌, map, [], ◌∷◌}
use mathlib.Core.Bool.{Bool, true, ◌&&◌}
use lib.ListN.{length, replicate, length-map}
use lib.Dec.{eqb, lit<, lit≤}
use borrow.Author.Tests.{eqb-true}
use Rattle.nibbles.specs.Nibbles.{nibs, word, row, within, every}
use Rattle.nibbles.proofs.Lists.{Below, below_weaken, map_below, and_left, and_right}
use Rattle.nibbles.proofs.Rows.{row_length, row_below, row_word, word_lt}
use Rattle.nibbles.proofs.Bytes.{nibs_length, nibs_below}
use Rattle.nibbles.proofs.Runs.{every_below, inside_low, inside_high}
use Rattle.alphabet.specs.Alphabet.{admits, all_of, value_of}
use Rattle.alphabet.proofs.Laws.{value_below, digit_span, digit_low}
use Rattle.alphabet.specs.declared.Class.TheVariants.{Digit}
use Rattle.numbers.specs.Numbers.{Outcome, done, refused, and_then}
use Rattle.numbers.proofs.Laws.{passed, then_done, result_ok}
use Rattle.numbers.specs.declared.Refusal.{Refusal}
use Rattle.numbers.specs.declared.Refusal.TheVariants.{Field15, Block20, Length24}
use Rattle.pins.specs.Pins.{digit, pin_length, pin_handed, digits_handed, padded, account_of, account_field, sized}
use Rattle.pins.specs.Answers.{row_of}
use Rattle.std.specs.Prelude.{Result, Ok}
use Rattle.std.specs.List.{list_all}

-- ---- what a judgement that passed tells

pub sized_done : (width : ℕ) (bs ns : List ℕ) → sized width bs ≡ done ns → (length bs ≡ width) × (nibs bs ≡ ns)
sized_done width bs ns e = let p = passed Field15 (eqb (length bs) width) (nibs bs) ns e in (eqb-true _ _ p.0, p.1)

-- twelve digits are not padded
pub padded_twelve : (ds : List ℕ) → length ds ≡ 12 → padded ds ≡ ds
padded_twelve ds e = ap (λ (n : ℕ). replicate (12 - n) 0 ++ ds) e

pub account_done : (cs ds : List ℕ) → account_of cs ≡ done ds → (length ds ≡ 12) × Below 16 ds
account_done cs ds e =
    let p = passed Field15 (eqb (length cs) 12 && all_of Digit cs) (padded (map value_of cs)) ds e in
    let n : length (map value_of cs) ≡ 12 = length-map cs value_of ∙ eqb-true (length cs) 12 (and_left (eqb (length cs) 12) (all_of Digit cs) p.0) in
    let same : map value_of cs ≡ ds = sym (padded_twelve (map value_of cs) n) ∙ p.1 in
    (ap length (sym same) ∙ n, rw (← same) (map_below 16 value_of value_below cs))

-- a PIN's digits: 4 to 12 of them
pub record Pinned (ds : List ℕ) : Type 0 where
  pub long : 4 ≤ length ds
  pub short : length ds ≤ 12
  pub digits : Below 10 ds

pub pinned : (ds : List ℕ) → within 4 12 (length ds) ≡ true → every digit ds ≡ true → Pinned ds
pinned ds n e = record { long = inside_low 4 12 (length ds) n; short = inside_high 4 12 (length ds) n; digits = every_below 9 ds e }

pub handed_done : (ds es : List ℕ) → pin_handed ds ≡ done es → (ds ≡ es) × Pinned ds
handed_done ds es e =
    let t = then_done (pin_length (length ds)) (λ _. digits_handed ds) es e in
    let n = passed Length24 (within 4 12 (length ds)) (length ds) t.0 t.1 in
    let p = passed Block20 (every digit ds) ds es t.2 in
    (p.1, pinned ds n.0 p.0)

-- ---- the rows that words hold

-- the account field that a word holds
pub field_row : (a w : ℕ) → w ≡ word (account_field (row 12 a)) → row 16 w ≡ account_field (row 12 a)
field_row a w e =
    let whole : 16 ≡ length (account_field (row 12 a)) = let n = row_length 12 a in omega arith in
    ap (row 16) e ∙ ap (λ (n : ℕ). row n (word (account_field (row 12 a)))) whole
    ∙ row_word (account_field (row 12 a)) (lit< tt, (lit< tt, (lit< tt, (lit< tt, row_below 12 a))))

pub account_row : (cs ds : List ℕ) (a : ℕ) → account_of cs ≡ done ds → a ≡ word ds → row 12 a ≡ ds
account_row cs ds a e h =
    let d = account_done cs ds e in
    ap (row 12) h ∙ ap (λ (n : ℕ). row n (word ds)) (sym d.0) ∙ row_word ds d.1

pub account_field_lem : (cs ds : List ℕ) (a w : ℕ) → account_of cs ≡ done ds → a ≡ word ds → w ≡ word (account_field (row 12 a)) → row 16 w ≡ account_field ds
account_field_lem cs ds a w e h k = field_row a w k ∙ ap account_field (account_row cs ds a e h)

pub block_row : (bs ns : List ℕ) (w : ℕ) → sized 8 bs ≡ done ns → Below 256 bs → w ≡ word ns → row 16 w ≡ ns
block_row bs ns w e b h =
    let s = sized_done 8 bs ns e in
    let whole : 16 ≡ length ns = sym (ap length (sym s.1) ∙ nibs_length bs ∙ (let n = s.0 in omega arith)) in
    ap (row 16) h ∙ ap (λ (n : ℕ). row n (word ns)) whole ∙ row_word ns (rw (← s.1) (nibs_below bs b))

-- a PIN's word holds its digits
pub pin_row : (ds : List ℕ) → Pinned ds → row (length ds) (word ds) ≡ ds
pin_row ds p = row_word ds (below_weaken 10 16 ds (lit≤ tt) p.digits)

pub pin_under : (ds : List ℕ) → Pinned ds → word ds < 16 ^ length ds
pin_under ds p = word_lt ds (below_weaken 10 16 ds (lit≤ tt) p.digits)

-- ---- an answer taken apart

module _ (width : ℕ) (bs : List ℕ) (r : Result ℕ Refusal) (e : r ≡ row_of (sized width bs)) where
  pub sized_held : (v : ℕ) → r ≡ Ok v → (sized width bs ≡ done (nibs bs)) × (v ≡ word (nibs bs))
  sized_held v h =
      let t = result_ok word (sized width bs) v (sym h ∙ e) in
      let s : nibs bs ≡ t.0 = (sized_done width bs t.0 t.1).1 in
      (t.1 ∙ ap done (sym s), t.2 ∙ ap word (sym s))

module _ (cs : List ℕ) (r : Result ℕ Refusal) (e : r ≡ row_of (account_of cs)) where
  pub account_held : (v : ℕ) → r ≡ Ok v → (ds : List ℕ) × (account_of cs ≡ done ds) × (v ≡ word ds)
  account_held v h = result_ok word (account_of cs) v (sym h ∙ e)

-- ---- digits

-- a digit stands for 0 to 9
digit_value : (c : ℕ) → admits Digit c ≡ true → value_of c < 10
digit_value c e = subst (λ (v : ℕ). v < 10) (digit_low c e) (let h = digit_span c e in omega (arith, h.0, h.1))

pub digits_below : (cs : List ℕ) → all_of Digit cs ≡ true → Below 10 (map value_of cs)
unfolding all_of
digits_below [] e = tt
digits_below (c ∷ cs) e = (digit_value c (and_left (admits Digit c) (all_of Digit cs) e), digits_below cs (and_right (admits Digit c) (all_of Digit cs) e))

-- std's word for a test that every one passes is the definitions'
pub every_one : (p : ℕ → Bool) (xs : List ℕ) → list_all p xs ≡ every p xs
unfolding every
every_one p [] = refl
every_one p (x ∷ xs) = ap (λ b. p x && b) (every_one p xs)

-- ---- a chain in parts

-- a chain that goes on behind its end is one chain
pub through : {A B C : Type 0} (o : Outcome A) (f : A → Outcome B) (k : B → Outcome C) (h : A → Outcome C) → ((a : A) → and_then (f a) k ≡ h a) → and_then (and_then o f) k ≡ and_then o h
through (done a) f k h e = e a
through (refused q) f k h e = refl

-- chains that go on alike are alike
pub then_alike : {A B : Type 0} (o : Outcome A) (f g : A → Outcome B) → ((a : A) → f a ≡ g a) → and_then o f ≡ and_then o g
then_alike (done a) f g e = e a
then_alike (refused q) f g e = refl
