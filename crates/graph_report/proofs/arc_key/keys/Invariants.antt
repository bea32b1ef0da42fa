use Rattle.std.proofs.Common.{◌≡◌}
use Rattle.call_cycles.specs.Sums.{list_of}
use Rattle.graph_report.specs.Groups.{arc_key}
use Rattle.graph_report.proofs.arc_key.keys.Given as goal

abbrev pub invariant-loop-i : goal.invariant-loop-i
invariant-loop-i l = l.keys.items ≡ list_of l.i (arc_key l.graph l.key)
