use Rattle.std.proofs.Common.{drop}
use Rattle.gmon_data.proofs.RecordLemmas.{IsUnderway}
use Rattle.gmon_gnu.specs.Making.{placed_recs}
use Rattle.gmon_gnu.proofs.state.State.add_placed.Given as goal

abbrev pub invariant-loop-i : goal.invariant-loop-i
invariant-loop-i l =
    let recs = placed_recs l.self.fields.items l.self.counters.cells.items l.self.pairs.cells.items l.first in
    IsUnderway (recs l.order) (recs (drop l.i l.order)) l.initial.profile l.profile
