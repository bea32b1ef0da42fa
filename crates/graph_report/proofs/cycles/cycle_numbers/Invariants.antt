use Rattle.graph_report.proofs.CycleLemmas.{AreNumbersBelow}
use Rattle.graph_report.proofs.cycles.cycle_numbers.Given as goal

abbrev pub invariant-loop-f : goal.invariant-loop-f
invariant-loop-f l = AreNumbersBelow l.graph l.f l.count l.numbers.items
