-- The numbers of entries in a report.
use Rattle.std.specs.Prelude.{ℕ}
use Rattle.graph_report.specs.Entries.{number_in, graph_order}
use Rattle.graph_report.specs.Inputs.{sources_in}
use Rattle.graph_report.specs.declared.prepared.Report.{Report}
use Rattle.graph_report.specs.declared.subjects.Subject.{Subject}

-- the number of an entry
abbrev pub number_of : Report → Subject → ℕ
number_of r = number_in (graph_order (sources_in r.inputs))
