-- `spelling::class_end` meets its contract.
use Prim.Native.Nat.{ℕ, ◌+◌}
use native.Mathlib.Numerals.{add-one}
use mathlib.Core.Path.{◌≡◌, refl, sym, ◌∙◌}
use mathlib.Core.List.{List, [], ◌∷◌}
use mathlib.Core.Bool.{Bool, true, false}
use lib.ListN.{length}
use Rattle.std.proofs.Common.{rules, tests}
use Rattle.std.proofs.lemmas.Iterator.{YieldsList-from_slice, IsFirst-from_position, index_from_first}
use Rattle.alphabet.specs.Alphabet.{admits}
use Rattle.nibbles.specs.Nibbles.{leading}
use Rattle.spelling.proofs.class_end.Goals as goal

-- how many stand at the beginning, by the first that does not pass
stops : (p : ℕ → Bool) (x : ℕ) (xs : List ℕ) → p x ≡ false → length (leading p (x ∷ xs)) ≡ 0
unfolding leading
stops p x xs e = rw e

goes_on : (p : ℕ → Bool) (x : ℕ) (xs : List ℕ) → p x ≡ true → length (leading p (x ∷ xs)) ≡ length (leading p xs) + 1
unfolding leading
goes_on p x xs e = rw (e, add-one (length (leading p xs)))

none : (p : ℕ → Bool) → length (leading p []) ≡ 0
unfolding leading
none p = refl

pub returns : goal.returns
returns c =
    let p = admits c.args.class in
    let first = IsFirst-from_position _ _ c.position.result (λ x. p x ≡ false) (λ x. p x ≡ true) c.position.ensures.ran (YieldsList-from_slice c.args.s.now (cc))
    (λ x q k. search (rules, tests)) (λ x q k. search (rules, tests)) in
    c.unwrap_or.ensures ∙ sym (index_from_first (λ xs. length (leading p xs)) (λ x. p x ≡ false) (λ x. p x ≡ true) (none p) (stops p) (goes_on p) c.args.s.now _ first)
