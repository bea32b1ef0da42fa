use Rattle.std.proofs.Common.{◌+◌, arith}
use Rattle.call_cycles.proofs.ListLemmas.{list_long}
use Rattle.graph_report.specs.GraphText.{arcs_from}
use Rattle.graph_report.proofs.ListLemmas.{start_read, start_rises, start_within}
use Rattle.graph_report.proofs.RangeLemmas.{arcs_end, run_of_function}
use Rattle.graph_report.proofs.inputs.Inputs.arcs_from.Goals as goal

pub index-requires : goal.index-requires
index-requires c = search (arith, list_long)

pub index-requires-2 : goal.index-requires-2
index-requires-2 c = search (arith, list_long)

pub returns-clause-arcs : goal.returns-clause-arcs
returns-clause-arcs c = grind (arith, start_read, run_of_function)

pub returns-clause-order : goal.returns-clause-order
returns-clause-order c =
    let g = c.args.self.now.sources.graph.now in
    let starts = c.args.self.now.tables.now.arcs_from.items in
    let found = c.args.self.now.found.from in
    let from = start_read (arcs_from g) g.functions c.args.f c.index.result.now starts found (omega (arith, c.requires.function)) c.index.ensures in
    grind (arith, start_read, start_rises)

pub returns-clause-within : goal.returns-clause-within
returns-clause-within c =
    let g = c.args.self.now.sources.graph.now in
    let starts = c.args.self.now.tables.now.arcs_from.items in
    let found = c.args.self.now.found.from in
    let to = start_read (arcs_from g) g.functions (c.args.f + 1) c.index-2.result.now starts found (omega (arith, c.requires.function)) c.index-2.ensures in
    omega (arith, to, start_within (arcs_from g) c.args.f g.functions c.requires.function, arcs_end g c.holds.ensures.graph)
