use Rattle.std.proofs.Common.{take, []}
use Rattle.folded.specs.Tally.{HaveMoved}
use Rattle.folded.proofs.tally.leave_all.Given as goal

abbrev pub invariant-loop-i : goal.invariant-loop-i
invariant-loop-i l = HaveMoved l.passed (take l.i l.functions) [] l.initial.marks l.marks
