use Rattle.std.proofs.Common.{drop, map}
use Rattle.gmon_data.proofs.RecordLemmas.{IsUnderway}
use Rattle.profile_sum.specs.Sum.{arc_record}
use Rattle.profile_sum.proofs.addition.add_arcs.Given as goal

abbrev pub invariant-loop-i : goal.invariant-loop-i
invariant-loop-i l = IsUnderway (map arc_record l.more.arcs) (map arc_record (drop l.i l.more.arcs)) l.initial.total l.total
