use Rattle.std.proofs.Common.{◌≤◌}
use Rattle.test_machine.proofs.tests.runs.takes_turns.Given as goal

abbrev pub invariant-loop-hart : goal.invariant-loop-hart
invariant-loop-hart g l = 2 ≤ l.run.machine.setup.harts
