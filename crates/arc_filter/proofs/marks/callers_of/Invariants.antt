use Rattle.std.proofs.Common.{◌≡◌}
use Rattle.arc_filter.specs.Marks.{callers_marked}
use Rattle.arc_filter.proofs.marks.callers_of.Given as goal

abbrev pub invariant-loop-f : goal.invariant-loop-f
invariant-loop-f l = l.callers.items ≡ callers_marked l.f l.marks
