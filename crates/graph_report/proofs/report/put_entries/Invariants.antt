use Rattle.std.proofs.Common.{map, string_bytes, take, Ok}
use Rattle.std.specs.List.{flat_map}
use Rattle.host_port.specs.Buffered.{Adds}
use Rattle.host_port.specs.declared.side.Side.TheVariants.{Output}
use Rattle.host_port.specs.declared.host.Failed.{Failed}
use Rattle.graph_report.specs.Inputs.{sources_in}
use Rattle.graph_report.specs.Rows.{entries_of_rows}
use Rattle.graph_report.specs.Subjects.{shown_text}
use Rattle.graph_report.proofs.report.put_entries.Given as goal

-- the entries so far are put, but those of hidden functions
abbrev pub invariant-loop-row : goal.invariant-loop-row
invariant-loop-row g l = Adds {E = Failed} Output (flat_map (shown_text (sources_in l.report.inputs) (map string_bytes l.hidden)) (take l.row-index (entries_of_rows l.rows))) l.initial.lines l.lines (g.H.Host.outside l.initial.host) (g.H.Host.outside l.host) (Ok (tt {0}))
