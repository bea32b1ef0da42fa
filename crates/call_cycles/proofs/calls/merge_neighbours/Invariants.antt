use Rattle.std.proofs.Common.{◌≡◌, ◌≤◌, ℕ, take, get_or}
use Rattle.call_cycles.specs.Graph.{no_arc}
use Rattle.call_cycles.specs.Merging.{AreMerged}
use Rattle.call_cycles.proofs.calls.merge_neighbours.Given as goal

abbrev pub invariant-loop-i : goal.invariant-loop-i
invariant-loop-i l = record {
  few : l.n ≤ l.i;
  merged : AreMerged (take l.i l.initial.arcs) (take l.n l.arcs);
  rest : (k : ℕ) → l.i ≤ k → get_or l.arcs k no_arc ≡ get_or l.initial.arcs k no_arc;
}
