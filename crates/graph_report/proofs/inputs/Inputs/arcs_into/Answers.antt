use Rattle.std.proofs.Common.{ℕ, Bool, ◌&&◌, ap, ◌∙◌}
use Rattle.std.specs.Prelude.{filter}
use Rattle.call_cycles.specs.Graph.{arc_count, component_count, enters}
use Rattle.call_cycles.specs.Sums.{numbers_below}
use Rattle.graph_report.specs.Tables.{arcs_into_cycle}
use Rattle.graph_report.proofs.inputs.Inputs.arcs_into.Goals as goal

pub of-requires : goal.of-requires
of-requires c = search c.requires.component

pub returns : goal.returns
returns c =
    let g = c.args.self.now.sources.graph.now in
    c.of.ensures (component_count g) (arcs_into_cycle g) c.args.self.now.found.into c.requires.component
    ∙ ap (λ (b : Bool). filter (λ (i : ℕ). b && enters g c.args.c i) (numbers_below (arc_count g))) c.requires.cycle
