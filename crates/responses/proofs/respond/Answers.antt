-- `responses::respond` meets its contract.
use Prim.Native.Nat.{ℕ, ◌+◌}
use native.Mathlib.Omega.{arith}
use mathlib.Core.List.{◌∷◌, ◌++◌}
use mathlib.Core.Path.{refl, ap, sym, ◌∙◌}
use lib.ListN.{get_or, take, drop}
use lib.Seq.{length-take-le}
use Rattle.std.specs.Prelude.{Result}
use Rattle.frame.specs.Frame.{opening, raised, in_two_digits}
use Rattle.frame.proofs.Laws.{over_lent}
use Rattle.fields.specs.Fields.{heard, shown}
use Rattle.fields.specs.declared.Fault.{Fault}
use Rattle.responses.specs.Answers.{answered_text}
use Rattle.responses.specs.declared.Payload.{Payload}
use Rattle.responses.proofs.Laws.{does_respond}
use Rattle.responses.proofs.respond.Goals as goal

pub returns-in-Err : goal.returns-in-Err
unfolding opening
returns-in-Err c =
    let a = c.args in
    let s = a.command.now in
    let e = c.in-Err.is in
    let number = c.number-number.ensures in
    let header = take a.header s in
    let long = length-take-le a.header s (omega arith) in
    let answer = get_or s a.header 0 ∷ raised (get_or s (a.header + 1) 0) ∷ in_two_digits c.number-number.result in
    let begun = c.put_run.ensures ∙ ap (λ (k : ℕ). header ++ drop k a.out.now) long in (
      does_respond a.header s a.out.now _ (heard (answered_text s a.answered)) _ _ (omega arith) (ap (λ (x : Result (Payload × ℕ) Fault). heard (answered_text s x)) e) number refl
          (over_lent header answer a.out.now _ a.header 4 long begun _ c.put_code.ensures ∙ ap (λ (k : ℕ). opening a.header s k ++ drop (a.header + 4) a.out.now) number),
      c.pointer.ensures ∙ sym (ap (λ (x : Result (Payload × ℕ) Fault). shown (answered_text s x)) e),
    )
