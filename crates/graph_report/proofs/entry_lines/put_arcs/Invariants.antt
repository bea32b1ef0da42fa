use Rattle.std.proofs.Common.{take, Ok}
use Rattle.std.specs.List.{flat_map}
use Rattle.host_port.specs.Buffered.{Adds}
use Rattle.host_port.specs.declared.side.Side.TheVariants.{Output}
use Rattle.host_port.specs.declared.host.Failed.{Failed}
use Rattle.graph_report.specs.ArcLines.{line_by}
use Rattle.graph_report.specs.Inputs.{sources_in}
use Rattle.graph_report.specs.Reports.{number_of}
use Rattle.graph_report.proofs.entry_lines.put_arcs.Given as goal

-- the lines so far are put
abbrev pub invariant-loop-i : goal.invariant-loop-i
invariant-loop-i g l = Adds {E = Failed} Output (flat_map (line_by l.fn.end (sources_in l.report.inputs) (number_of l.report)) (take l.i-index l.arcs)) l.initial.lines l.lines (g.H.Host.outside l.initial.host) (g.H.Host.outside l.host) (Ok (tt {0}))
