use Rattle.graph_report.proofs.CycleLemmas.{AreNamesBelow}
use Rattle.graph_report.proofs.cycles.cycle_names.Given as goal

abbrev pub invariant-loop-c : goal.invariant-loop-c
invariant-loop-c l = AreNamesBelow l.graph l.c l.names.items
