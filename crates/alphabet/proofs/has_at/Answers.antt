-- `alphabet::has_at` meets its contract.
use Prim.Native.Nat.{ℕ, ◌-◌, min}
use native.Mathlib.Omega.{arith}
use mathlib.Core.Path.{◌≡◌, sym, ap, ◌∙◌}
use mathlib.Core.List.{List}
use lib.Dec.{eqb}
use lib.ListN.{length, take, drop}
use borrow.Author.Tests.{lt-leb}
use Rattle.std.specs.List.{starts_with}
use Rattle.std.proofs.lemmas.List.{drop_min}
use Rattle.std.proofs.lemmas.Slice.{between_to_end}
use Rattle.alphabet.proofs.Laws.{begins_is, begins_short}
use Rattle.alphabet.proofs.has_at.Goals as goal

-- what the code takes for the characters from a place on
ahead : (s : List ℕ) (from at : ℕ) → at ≡ min from (length s) → take (length s - at) (drop at s) ≡ drop from s
ahead s from at e = between_to_end s at (length s) (omega arith) ∙ ap (λ (k : ℕ). drop k s) e ∙ drop_min from s

pub returns-then-text-rest : goal.returns-then-text-rest
returns-then-text-rest c =
    let s = c.args.s.now in
    let text = c.args.text.now in
    c.eq.ensures ∙ ap (λ (cs : List ℕ). starts_with eqb cs text) (ahead s c.args.from c.min.result c.min.ensures) ∙ sym (begins_is text (drop c.args.from s))

pub returns-else-text-rest : goal.returns-else-text-rest
returns-else-text-rest c =
    let s = c.args.s.now in
    let text = c.args.text.now in
    let short = rw (ahead s c.args.from c.min.result c.min.ensures) at c.if-text-rest.false in
    rw (ahead s c.args.from c.min.result c.min.ensures, lt-leb _ _ short) (sym (begins_short text (drop c.args.from s) short))
