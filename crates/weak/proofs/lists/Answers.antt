-- `weak::lists` meets its contract.
use Prim.Native.Nat.{ℕ, ◌+◌, ◌-◌, ◌*◌}
use native.Mathlib.Nat.{suc-mul}
use native.Mathlib.Omega.{arith}
use mathlib.Core.Path.{◌≡◌, sym, ap, ◌∙◌}
use mathlib.Core.List.{List}
use lib.ListN.{drop}
use lib.Seq.{drop-drop}
use Rattle.weak.specs.Answers.{lists}
use Rattle.weak.proofs.Laws.{lists_here, lists_next, lists_over}
use Rattle.weak.proofs.lists.Goals as goal

pub returns-then-has_at : goal.returns-then-has_at
returns-then-has_at c =
    let l = c.loop-i in
    sym (l.invariant ∙ lists_here c.args.text.now c.args.weak.count c.args.weak.length l.i _ (omega arith) (sym c.has_at.ensures ∙ c.if-has_at.true))

pub loop-i-preserved : goal.loop-i-preserved
loop-i-preserved c =
    let a = c.args in
    let l = c.loop-i in
    let next : a.weak.list + l.i * a.weak.length + a.weak.length ≡ a.weak.list + (l.i + 1) * a.weak.length = omega (arith, suc-mul l.i a.weak.length) in
    l.invariant ∙ lists_next a.text.now a.weak.count a.weak.length l.i _ (omega arith) (sym c.has_at.ensures ∙ c.if-has_at.false)
    ∙ ap (λ (cs : List ℕ). lists a.text.now (a.weak.count - (l.i + 1)) a.weak.length cs) (drop-drop a.weak.length _ a.command.now ∙ ap (λ (k : ℕ). drop k a.command.now) next)

pub returns : goal.returns
returns c =
    let l = c.loop-i in
    sym (l.invariant ∙ lists_over c.args.text.now c.args.weak.count c.args.weak.length l.i _ (omega arith))
