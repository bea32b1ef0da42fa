use Rattle.std.proofs.Common.{drop}
use Rattle.std.specs.List.{flat_map}
use Rattle.gmon_data.proofs.RecordLemmas.{IsUnderway}
use Rattle.gmon_gnu.specs.Making.{other_recs}
use Rattle.gmon_gnu.proofs.state.State.add_others.Given as goal

abbrev pub invariant-loop-i : goal.invariant-loop-i
invariant-loop-i l =
    IsUnderway (flat_map (other_recs l.self.pairs.cells.items l.self.arcs.items) l.entries) (flat_map (other_recs l.self.pairs.cells.items l.self.arcs.items) (drop l.i l.entries)) l.initial.profile l.profile
