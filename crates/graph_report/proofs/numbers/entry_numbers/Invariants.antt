use Rattle.graph_report.specs.Rows.{entries_of_rows}
use Rattle.graph_report.proofs.NumberLemmas.{AreNumbersFrom}
use Rattle.graph_report.proofs.numbers.entry_numbers.Given as goal

-- the numbers of the last entries
abbrev pub invariant-loop-i : goal.invariant-loop-i
invariant-loop-i l = AreNumbersFrom (entries_of_rows l.rows) l.inputs.sources.graph.now.functions l.i l.numbers
