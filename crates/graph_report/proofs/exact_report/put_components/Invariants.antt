use Rattle.std.proofs.Common.{◌≡◌, take, Ok}
use Rattle.std.specs.List.{flat_map}
use Rattle.host_port.specs.declared.side.Side.TheVariants.{Output}
use Rattle.host_port.specs.Buffered.{Adds}
use Rattle.host_port.specs.declared.host.Failed.{Failed}
use Rattle.call_cycles.specs.Sums.{numbers_below}
use Rattle.call_cycles.specs.Graph.{component_count}
use Rattle.graph_report.specs.ExactText.{component_text}
use Rattle.graph_report.proofs.ExactLemmas.{arcs_from_on}
use Rattle.graph_report.proofs.exact_report.put_components.Given as goal

-- the lines so far are put, and the arcs of the components from here on are left
abbrev pub invariant-loop-c : goal.invariant-loop-c
invariant-loop-c g l =
    (Adds {E = Failed} Output (flat_map (component_text l.symbols l.graph l.exact) (take l.c (numbers_below (component_count l.graph)))) l.initial.lines l.lines (g.H.Host.outside l.initial.host) (g.H.Host.outside l.host) (Ok (tt {0})))
    × (l.rest ≡ arcs_from_on l.graph l.c)
