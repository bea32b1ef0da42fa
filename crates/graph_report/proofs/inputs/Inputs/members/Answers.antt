use Rattle.call_cycles.specs.Graph.{component_count}
use Rattle.graph_report.specs.GraphText.{members_of}
use Rattle.graph_report.proofs.inputs.Inputs.members.Goals as goal

pub of-requires : goal.of-requires
of-requires c = search c.requires.component

pub returns : goal.returns
returns c =
    let g = c.args.self.now.sources.graph.now in
    c.of.ensures (component_count g) (members_of g) c.args.self.now.found.members c.requires.component
