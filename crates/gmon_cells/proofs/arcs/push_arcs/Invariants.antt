use Rattle.std.proofs.Common.{◌≡◌, ◌+◌, ◌-◌, ◌≤◌, ◌++◌, take, map, length, vec_len, vec_capacity}
use Rattle.gp_base.specs.declared.records.Rec.TheVariants.{Arc}
use Rattle.gmon_cells.proofs.arcs.push_arcs.Given as goal

abbrev pub invariant-loop-arc : goal.invariant-loop-arc
invariant-loop-arc l = record {
  recs : l.recs.items ≡ l.fn.recs.items ++ map Arc (take l.arc-index l.arcs);
  room : vec_len l.recs + (length l.arcs - l.arc-index) ≤ vec_capacity l.recs;
}
