use Rattle.flat_report.proofs.CallLemmas.{AreCounted}
use Rattle.flat_report.proofs.calls.calls_of_functions.Given as goal

abbrev pub invariant-loop-i : goal.invariant-loop-i
invariant-loop-i l = AreCounted l.graph l.i l.calls.items
