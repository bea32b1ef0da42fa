use Rattle.std.proofs.Common.{drop}
use Rattle.gmon_data.proofs.RecordLemmas.{IsUnderway}
use Rattle.gmon_gnu.specs.Making.{later_recs}
use Rattle.gmon_gnu.proofs.state.State.add_later.Given as goal

abbrev pub invariant-loop-i : goal.invariant-loop-i
invariant-loop-i l =
    let recs = later_recs l.self.fields.items l.self.counters.cells.items l.self.pairs.cells.items in
    IsUnderway (recs l.later) (recs (drop l.i l.later)) l.initial.profile l.profile
