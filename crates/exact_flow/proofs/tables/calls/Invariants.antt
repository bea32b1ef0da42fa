use Rattle.std.proofs.Common.{◌≡◌}
use Rattle.call_cycles.specs.Sums.{list_of}
use Rattle.exact_flow.specs.Progress.{outside_calls}
use Rattle.exact_flow.proofs.tables.calls.Given as goal

abbrev pub invariant-loop-i : goal.invariant-loop-i
invariant-loop-i l = l.calls.items ≡ list_of l.i (outside_calls l.graph)
