use Rattle.std.proofs.Common.{◌≡◌}
use Rattle.call_cycles.specs.Sums.{list_of}
use Rattle.call_cycles.specs.Graph.{entering_of}
use Rattle.exact_flow.proofs.tables.entering.Given as goal

abbrev pub invariant-loop-c : goal.invariant-loop-c
invariant-loop-c l = l.calls.items ≡ list_of l.c (entering_of l.graph)
