use Rattle.std.proofs.Common.{◌≡◌, Some}
use Rattle.test_forms.proofs.runs.call.Given as goal

abbrev pub invariant-loop : goal.invariant-loop
invariant-loop l = l.gmon.walk ≡ Some l.walk
