use Rattle.std.proofs.Common.{◌≡◌, take}
use Rattle.std.specs.List.{flat_map}
use Rattle.gmon_gnu.specs.Held.{entry_recs}
use Rattle.gmon_gnu.proofs.state.State.build.Given as goal

-- the records of the entries so far
abbrev pub invariant-loop-i : goal.invariant-loop-i
invariant-loop-i l = l.recs.items ≡ flat_map (entry_recs l.self.fields.items l.self.counters.cells.items l.self.pairs.cells.items l.self.arcs.items) (take l.i l.self.entries.items)
