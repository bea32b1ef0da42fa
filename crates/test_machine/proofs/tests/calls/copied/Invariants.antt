use Rattle.std.proofs.Common.{◌≡◌}
use Rattle.test_machine.proofs.tests.calls.copied.Given as goal

abbrev pub invariant-loop-arc : goal.invariant-loop-arc
invariant-loop-arc l = l.arcs.items ≡ l.yielded
