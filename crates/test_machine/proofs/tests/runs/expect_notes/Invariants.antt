use Rattle.std.proofs.Common.{◌≡◌}
use Rattle.test_machine.proofs.tests.runs.expect_notes.Given as goal

abbrev pub invariant-loop-at : goal.invariant-loop-at
invariant-loop-at g l = l.run.machine.setup ≡ l.setup
