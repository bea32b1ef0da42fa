use Rattle.std.proofs.Common.{◌≡◌}
use Rattle.call_cycles.specs.Graph.{component_of}
use Rattle.call_cycles.specs.Sums.{list_of}
use Rattle.graph_report.proofs.arc_key.components.Given as goal

abbrev pub invariant-loop-f : goal.invariant-loop-f
invariant-loop-f l = l.components.items ≡ list_of l.f (component_of l.graph)
