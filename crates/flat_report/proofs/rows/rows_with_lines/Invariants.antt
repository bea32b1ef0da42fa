use Rattle.flat_report.specs.Rows.{sources_of}
use Rattle.flat_report.proofs.RowLemmas.{AreRowsTo}
use Rattle.flat_report.proofs.rows.rows_with_lines.Given as goal

abbrev pub invariant-loop-f : goal.invariant-loop-f
invariant-loop-f l = AreRowsTo (sources_of l.sources) l.f l.rows.items
