-- `offsets::differences` meets its contract.
use Prim.Native.Nat.{ℕ}
use native.Mathlib.Omega.{arith}
use mathlib.Core.List.{◌++◌}
use mathlib.Core.Path.{ap, sym, ◌∙◌}
use lib.ListN.{length, drop}
use borrow.Author.Tests.{le-leb}
use Rattle.offsets.proofs.Laws.{comparison_fit, digits_alike, matched, covers_within, differences_made}
use Rattle.offsets.specs.Answers.{pair_in}
use Rattle.offsets.specs.Offsets.{digits_given, differences_of}
use Rattle.ibm3624.proofs.Laws.{covered_length}
use Rattle.ibm3624.specs.Ibm3624.{covers, covered}
use Rattle.numbers.proofs.Laws.{does_write, result_ok}
use Rattle.numbers.specs.Numbers.{done}
use Rattle.nibbles.proofs.Rows.{row_length}
use Rattle.offsets.proofs.differences.Goals as goal

pub put_differences-requires : goal.put_differences-requires
put_differences-requires c =
    let a = c.args in
    let x = c.in-Ok.p in
    let p = comparison_fit (digits_given a.check a.pin.now a.natural.now) (digits_alike a.check a.pin.now a.natural.now) x (sym c.in-Ok.is ∙ c.handed.ensures) in
    let m = result_ok (λ n. n) (covers a.settings.variable a.check x.length) _ (sym c.in-Ok-covering.is ∙ c.covering.ensures) in
    let w = covers_within a.settings.variable a.check x.length c.in-Ok-covering.m (m.1 ∙ ap done (sym m.2)) in
    (matched x p.2 c.in-Ok-covering.m w, omega (arith, w, p.2.short, c.if-out-lt12.false))

pub returns : goal.returns
returns c =
    let a = c.args in
    let room = length a.out.now in
    let x = c.in-Ok.p in
    let k = c.in-Ok-covering.m in
    let p = comparison_fit (digits_given a.check a.pin.now a.natural.now) (digits_alike a.check a.pin.now a.natural.now) x (sym c.in-Ok.is ∙ c.handed.ensures) in
    let m = result_ok (λ n. n) (covers a.settings.variable a.check x.length) _ (sym c.in-Ok-covering.is ∙ c.covering.ensures) in
    let made = m.1 ∙ ap done (sym m.2) in
    let ws = covered k (pair_in x).0 (pair_in x).1 in
    let long = covered_length k x.length x.pin x.natural (matched x p.2 k (covers_within a.settings.variable a.check x.length k made)) in
    does_write (differences_of a.settings.variable a.check a.pin.now a.natural.now room) ws a.out.now _ c.done.result
    (differences_made a.settings.variable a.check a.pin.now a.natural.now room (le-leb 12 room c.if-out-lt12.false) (pair_in x) (p.1 ∙ ap done (sym p.3)) k
    (ap (covers a.settings.variable a.check) (row_length x.length x.pin) ∙ made))
    c.done.ensures.0 (c.done.ensures.1 ∙ sym long) (c.put_differences.ensures ∙ ap (λ (j : ℕ). ws ++ drop j a.out.now) (sym long))
