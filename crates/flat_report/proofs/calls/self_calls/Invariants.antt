use Rattle.std.proofs.Common.{◌≡◌}
use Rattle.call_cycles.specs.Sums.{list_of}
use Rattle.flat_report.specs.Sources.{calls_by_itself}
use Rattle.flat_report.proofs.calls.self_calls.Given as goal

abbrev pub invariant-loop-f : goal.invariant-loop-f
invariant-loop-f l = l.calls.items ≡ list_of l.f (calls_by_itself l.graph)
