-- `frame::is_framed` meets its contract.
use lib.ListN.{length}
use borrow.Author.Tests.{le-leb}
use Rattle.std.proofs.Common.{arith}
use Rattle.std.proofs.lemmas.Bool.Decides.{nat_tests}
use Rattle.settings.specs.Settings.{longest_header}
use Rattle.frame.specs.Frame.{is_framed, longest_command}
use Rattle.frame.proofs.is_framed.Goals as goal
use Rattle.frame.proofs.is_framed.Goals.{then-command-le-LONGEST_COMMAND, else-command-le-LONGEST_COMMAND}

pub returns-then-header-command : goal.returns-then-header-command
unfolding is_framed
returns-then-header-command c =
    let a = c.args in
    elim c.if-command-le-LONGEST_COMMAND.branch [
      | then-command-le-LONGEST_COMMAND w ↦
          let within = w.if-command-le-LONGEST_COMMAND.true in
          rw (le-leb a.header longest_header within.0, le-leb (length a.command.now) longest_command within.1, ← w.value-is, c.if-header-command.true) c.all_of.ensures
      | else-command-le-LONGEST_COMMAND w ↦ cc
    ]

pub returns-else-header-command : goal.returns-else-header-command
unfolding is_framed
returns-else-header-command c = grind (arith, nat_tests)
