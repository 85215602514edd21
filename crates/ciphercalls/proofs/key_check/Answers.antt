-- `ciphercalls::key_check` meets its contract.
use mathlib.Core.Bool.{true}
use mathlib.Core.Path.{◌≡◌}
use Prim.Native.Nat.{◌≤◌}
use lib.ListN.{length}
use borrow.Author.Rules.{rules}
use Rattle.ciphers.specs.Ciphers.{triple_word}
use Rattle.ciphers.specs.declared.Way.TheVariants.{Encipher}
use Rattle.ciphercalls.specs.CipherCalls.{zeros}
use Rattle.ciphercalls.proofs.Laws.{first_is_check, does_as}
use Rattle.ciphercalls.proofs.key_check.Goals as goal

pub returns : goal.returns
returns c =
    let a = c.args in
    let made = c.write_first.ensures in
    let e : c.is_lab_key-fit.result ≡ true → 3 ≤ length a.out.now → made.0 ≡ triple_word Encipher a.key.now zeros = search rules in
    does_as (first_is_check a.key.now (length a.out.now) _ made.0 c.is_lab_key-fit.ensures e) made.2
