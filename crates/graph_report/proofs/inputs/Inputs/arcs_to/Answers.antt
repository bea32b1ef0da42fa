use Rattle.graph_report.specs.GraphText.{arcs_to}
use Rattle.graph_report.proofs.inputs.Inputs.arcs_to.Goals as goal

pub of-requires : goal.of-requires
of-requires c =
    let g = c.args.self.now.sources.graph.now in
    record { count = g.functions; of = arcs_to g; groups = c.args.self.now.found.to; below = c.requires.function }

pub returns : goal.returns
returns c =
    let g = c.args.self.now.sources.graph.now in
    c.of.ensures (g.functions) (arcs_to g) c.args.self.now.found.to c.requires.function
