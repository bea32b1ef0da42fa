use Rattle.std.proofs.Common.{drop}
use Rattle.gmon_data.specs.Arcs.{entries_of, IsBehind}
use Rattle.gmon_data.proofs.arcs.is_behind.Given as goal

-- the last ones are other pairs
abbrev pub invariant-loop-i : goal.invariant-loop-i
invariant-loop-i l = IsBehind l.pair (drop l.i (entries_of l.arcs))
