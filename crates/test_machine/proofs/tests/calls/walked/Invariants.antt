use Rattle.std.proofs.Common.{◌≡◌, Some}
use Rattle.test_machine.proofs.tests.calls.walked.Given as goal

abbrev pub invariant-loop-looks : goal.invariant-loop-looks
invariant-loop-looks l = l.gmon.walk ≡ Some l.walk
