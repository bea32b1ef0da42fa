use Rattle.std.proofs.Common.{◌+◌, ◌≤◌}
use Rattle.gmon_gnu.proofs.profile.count_alike.Given as goal

abbrev pub invariant-loop-size : goal.invariant-loop-size
invariant-loop-size l = l.low + l.size ≤ l.entries

abbrev pub decreases-loop-size : goal.decreases-loop-size
decreases-loop-size l = l.size
