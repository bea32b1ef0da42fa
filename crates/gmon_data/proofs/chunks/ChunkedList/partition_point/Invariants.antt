use Rattle.std.proofs.Common.{◌+◌, ◌<◌, ◌≤◌, Bool, length}
use denote.Param.Always.{always_mut}
use Rattle.std.specs.Fn.{ComputesKey}
use Rattle.gmon_data.proofs.PointLemmas.{IsHalved}
use Rattle.gmon_data.proofs.chunks.ChunkedList.partition_point.Given as goal

abbrev pub invariant-loop-size : goal.invariant-loop-size
invariant-loop-size g l =
    (0 < l.size) × (l.base + l.size ≤ length l.self-inside.chunks.items) × always_mut g.P.FnMut l.pred
    × ((p : g.row.T.Denot → Bool) → ComputesKey g.P.FnMut p l.initial.pred → ComputesKey g.P.FnMut p l.pred × IsHalved p l.self-inside.chunks.items l.base l.size)

abbrev pub decreases-loop-size : goal.decreases-loop-size
decreases-loop-size g l = l.size
