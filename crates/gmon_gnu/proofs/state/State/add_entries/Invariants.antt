use Rattle.std.proofs.Common.{drop}
use Rattle.gmon_data.proofs.RecordLemmas.{IsUnderway}
use Rattle.gmon_gnu.specs.Held.{entries_recs}
use Rattle.gmon_gnu.proofs.state.State.add_entries.Given as goal

abbrev pub invariant-loop-i : goal.invariant-loop-i
invariant-loop-i l =
    let recs = entries_recs l.self.fields.items l.self.counters.cells.items l.self.pairs.cells.items l.self.arcs.items in
    IsUnderway (recs l.self.entries.items) (recs (drop l.i l.self.entries.items)) l.initial.profile l.profile
