use Rattle.std.proofs.Common.{◌≡◌}
use Rattle.call_cycles.specs.Sums.{list_of}
use Rattle.call_cycles.specs.Graph.{target_of}
use Rattle.exact_flow.proofs.tables.callees.Given as goal

abbrev pub invariant-loop-i : goal.invariant-loop-i
invariant-loop-i l = l.components.items ≡ list_of l.i (target_of l.graph)
