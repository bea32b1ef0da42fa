use Rattle.std.proofs.Common.{take, Ok}
use Rattle.std.specs.List.{flat_map}
use Rattle.host_port.specs.declared.side.Side.TheVariants.{Output}
use Rattle.host_port.specs.Buffered.{Adds}
use Rattle.host_port.specs.declared.host.Failed.{Failed}
use Rattle.graph_report.specs.ExactText.{arc_text}
use Rattle.graph_report.proofs.exact_report.put_arcs.Given as goal

-- the lines so far are put
abbrev pub invariant-loop-arc : goal.invariant-loop-arc
invariant-loop-arc g l =
    Adds {E = Failed} Output (flat_map (arc_text l.symbols l.graph l.exact) (take l.arc-index l.arcs)) l.initial.lines l.lines (g.H.Host.outside l.initial.host) (g.H.Host.outside l.host) (Ok (tt {0}))
